-- A document, and a posting with the head of the next, whose numbers take a byte each.
-- Assumes nothing.
use Rattle.std.specs.Prelude.{Ok, Option, Some}
use Prim.Native.Nat.{ℕ, ◌+◌, ◌-◌, ◌^◌, ◌≤◌, ◌<◌}
use mathlib.Core.Path.{◌≡◌, sym, ap, ◌∙◌}
use mathlib.Core.List.{List}
use native.Mathlib.Omega.{arith}
use lib.ListN.{drop, get_or}
use Rattle.segment.specs.Refusals.{doc_id_overflow, invalid_layout, non_increasing_posting_id}
use Rattle.segment.specs.Results.{Answer}
use Rattle.segment.specs.Records.{Document, Read}
use Rattle.segment.specs.Metadata.{document, read_document}
use Rattle.read_cursors.specs.declared.documents.DocumentRead.{DocumentRead}
use Rattle.read_cursors.specs.declared.postings.Postings.{Postings}
use Rattle.read_cursors.specs.Held.{rest_of, value_at, held_postings}
use Rattle.read_cursors.specs.Singles.{Singles}
use Rattle.read_cursors.specs.Steps.{document_means, ShortRead, postings_at, AdvancedPostings, ShortAdvanced}
use Rattle.read_cursors.proofs.SingleNumbers.{single, singles_skipped, singles_decoded}
use Rattle.read_cursors.proofs.Gaps.{value_next}
use Rattle.read_cursors.proofs.DocumentReads.{document_next}
use Rattle.read_cursors.proofs.Entering.{read_to, postings_next, postings_past}

-- what was known at once
pub sure_document : (s : List ℕ) (there : Answer (Read Document)) {r : (Option DocumentRead)} {d : DocumentRead} → ShortRead s there r
    → r ≡ Some d
    → document_means s (Ok d) ≡ there
sure_document s there h e = rw e at h

pub sure_posting : (s : List ℕ) (c : Postings) {r : (Option Postings)} {d : Postings} → ShortAdvanced s c r → r ≡ Some d
    → AdvancedPostings s c d
sure_posting s c h e = rw e at h

-- the document at an offset
module _ (s : List ℕ) (at : ℕ) {n : ℕ} (ones : Singles s at n) (both : 2 ≤ n) (place previous : ℕ) where
  pub quick_document : (gap len : ℕ) → gap ≡ get_or s at 0 → len ≡ get_or s (at + 1) 0 → 0 < gap → previous + gap < 2 ^ 32
      → Ok (record { got = document (previous + gap) len; rest = drop (at + 2) s }) ≡ read_document place (Some previous) (drop at s)
  quick_document gap len g l h k =
      let p : at + 2 ≡ at + 1 + 1 = omega arith in
      rw (p, g, l)
      (document_next place s at (singles_decoded s at n ones 0 at (omega arith) (omega arith))
      (singles_decoded s at n ones 1 (at + 1) (omega arith) (omega arith)) previous (omega arith) (omega arith))

-- the posting after the one whose positions are at an offset
module _ (s : List ℕ) (remaining at count doc : ℕ) (ones : Singles s at (count + 2)) (more : 1 < remaining) where
  here : (past : ℕ) → past ≡ at + count → 0 < get_or s past 0 → doc + get_or s past 0 < 2 ^ 32
      → postings_at (remaining - 1) (past + 1 + 1) (get_or s (past + 1) 0) (doc + get_or s past 0) s
      ≡ rest_of (postings_at remaining at count doc s)
  here past e h k =
      let v : value_at (Some doc) (drop past s) ≡ Ok (read_to (single (doc + get_or s past 0) (past + 1)) s) =
      sym
      (value_next (doc_id_overflow 0) (invalid_layout non_increasing_posting_id) 0 s past
      (singles_decoded s at (count + 2) ones count past (omega arith) e) doc k (omega arith)) in
      let same : drop past s ≡ drop (at + count) s = rw e in
      postings_next s past (Some doc) (single (doc + get_or s past 0) (past + 1)) v (remaining - 1)
      (singles_decoded s at (count + 2) ones (count + 1) (past + 1) (omega arith) (omega arith))
      ∙ ap (held_postings (remaining - 1) (Some doc)) (same ∙ singles_skipped s at (count + 2) ones count (omega arith))
      ∙ postings_past s remaining at count doc (λ z. omega arith)

  pub quick_posting : (gap next : ℕ) → gap ≡ get_or s (at + count) 0 → next ≡ get_or s (at + count + 1) 0 → 0 < gap → doc + gap < 2 ^ 32
      → postings_at (remaining - 1) (at + count + 2) next (doc + gap) s ≡ rest_of (postings_at remaining at count doc s)
  quick_posting gap next g n h k =
      let p : at + count + 2 ≡ at + count + 1 + 1 = omega arith in
      rw (p, g, n) (here (at + count) (omega arith) (omega arith) (omega arith))
