-- The loop over a list's postings with a running total: reading on from here answers what decoding the whole list answers.
-- Assumes nothing.
use Rattle.std.specs.Prelude.{Err, None, Ok, Option, Some}
use Rattle.segment.specs.Results.{Answer}
use mathlib.Core.Path.{◌≡◌, sym, ◌∙◌}
use mathlib.Core.List.{List}
use Prim.Native.Nat.{ℕ, ◌+◌, ◌-◌, ◌≤◌, ◌<◌}
use native.Mathlib.Omega.{arith}
use lib.ListN.{length, drop}
use Rattle.leb128.specs.declared.varint.Reader.{Reader}
use Rattle.segment.specs.declared.refusal.Refusal.{Refusal}
use Rattle.read_cursors.specs.declared.documents.Documents.{Documents}
use Rattle.read_lists.specs.declared.lists.Head.{Head as ReadHead}
use Rattle.segment.specs.Refusals.{invalid_layout, trailing_posting_bytes}
use Rattle.segment.specs.Records.{Posting}
use Rattle.segment.specs.Postings.{read_postings, all_postings}
use Rattle.read_cursors.specs.Held.{held_documents}
use Rattle.read_cursors.specs.Steps.{documents_from}
use Rattle.read_lists.specs.Steps.{WalkedPositions, WalkedHead, tallied_by}
use Rattle.read_lists.proofs.Tallies.{Sums, tally_from, stop_at_head, stop_at_positions, postings_next, postings_end}
use Rattle.read_lists.proofs.Tallies.{finished, finishes, finished_short, finished_whole}

pub record Running (number : List Posting → ℕ) (list meta : List ℕ) (df documents : ℕ) (known : Documents) (at : ℕ)
    (previous : Option ℕ) (total place : ℕ) : Type 0 where
  -- a position takes a byte, so that the total does not overflow
  pub fits : total ≤ at
  pub rest : tally_from number total
      (read_postings (df - place) place (documents_from meta known) previous (drop at list))
      ≡ tally_from number 0 (read_postings df 0 (held_documents documents None meta) None list)

pub runs : (number : List Posting → ℕ) (list meta : List ℕ) (df documents : ℕ) (known : Documents)
    → documents_from meta known ≡ held_documents documents None meta → Running number list meta df documents known 0 None 0 0
runs number list meta df documents known e =
    let n : df - 0 ≡ df = omega arith in
    record { fits = omega arith; rest = rw (n, e) }

-- what decoding the whole list answers
abbrev pub decoded : (number : List Posting → ℕ) (list meta : List ℕ) (df documents : ℕ) → Answer ℕ
decoded number list meta df documents = tallied_by number (all_postings df (held_documents documents None meta) list)

module _ {number : List Posting → ℕ} {weigh : ℕ → ℕ → ℕ} (sums : Sums number weigh) {list meta : List ℕ} {df documents : ℕ}
    {known : Documents} {at : ℕ} {previous : Option ℕ} {total place : ℕ} (run : Running number list meta df documents known at previous total place) where
  module _ (h : place < df) {r : Answer ReadHead} (answer : WalkedHead list at place previous meta known r) where
    pub head_stops : {x : Refusal} → r ≡ Err x → Err x ≡ decoded number list meta df documents
    head_stops e = finishes number _ _ _ (stop_at_head sums _ _ _ _ _ _ _ _ run.rest h _ answer e)

    module _ {d : ReadHead} (e : r ≡ Ok d) {s : (Answer Reader)}
        (found : WalkedPositions list d.count place d.documents.len d.next.at s) where
      pub positions_stop : {x : Refusal} → s ≡ Err x → Err x ≡ decoded number list meta df documents
      positions_stop f = finishes number _ _ _ (stop_at_positions sums _ _ _ _ _ _ _ _ run.rest h _ answer _ e _ found f)

      pub runs_on : {n : Reader} → s ≡ Ok n → {added : ℕ} → added ≡ weigh d.doc.0 d.count
          → Running number list meta df documents d.documents n.at (Some d.doc.0) (total + added) (place + 1)
      runs_on f is =
          let next = postings_next sums _ _ _ _ _ _ _ _ run.rest h _ answer _ e _ found f in
          record { fits = omega (arith, next.0, run.fits); rest = rw is next.1 }

  module _ (h : df ≤ place) where
    ended : finished (Ok (record { got = total; rest = drop at list })) ≡ decoded number list meta df documents
    ended = finishes number _ _ _ (postings_end sums list _ at _ _ _ known _ run.rest h)

    pub ends_short : at < length list → Err (invalid_layout trailing_posting_bytes) ≡ decoded number list meta df documents
    ends_short short = sym (finished_short total list at short) ∙ ended

    pub ends_whole : length list ≤ at → Ok total ≡ decoded number list meta df documents
    ends_whole whole = sym (finished_whole total list at whole) ∙ ended
