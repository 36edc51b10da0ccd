-- The lists decoded in the directory's order: each that decodes leaves those after it, the first that does not ends it.
-- Assumes nothing.
use Rattle.std.specs.Prelude.{Err, None, Ok}
use mathlib.Core.Path.{◌≡◌, sym, ◌∙◌}
use mathlib.Core.List.{List, ◌∷◌}
use Prim.Native.Nat.{ℕ, ◌+◌, ◌≤◌, ◌<◌}
use native.Mathlib.Numerals.{add-one}
use native.Mathlib.Omega.{arith}
use lib.ListN.{drop, get_or, drop_of_length-le}
use lib.Seq.{drop-cons}
use Rattle.segment.specs.declared.refusal.Refusal.{Refusal}
use Rattle.segment.specs.Records.{Segment}
use Rattle.segment.specs.Postings.{decode, total_positions}
use Rattle.segment.specs.Contents.{decode_all}
use Rattle.segment.specs.Steps.{checked}
use Rattle.segment.proofs.Accepted.{same_check}
use Rattle.calls.specs.Whole.{every_list}
use Rattle.read_cursors.specs.Held.{held_documents}
use Rattle.read_lists.specs.Steps.{tallied}
use Rattle.read_open.specs.declared.header.Layout.{Layout}
use Rattle.read_open.specs.Steps.{cut, name_at}
use Rattle.read_open.specs.Opened.{IsOpen, no_entry}
use Rattle.read_terms.specs.declared.find.TermList.{TermList}
use Rattle.read_terms.specs.Steps.{list_entry, EntryList}
use Rattle.read_terms.specs.Together.{ListDecodes}
use Rattle.read_terms.proofs.Finding.{nameless, tally_ok, tally_refused}
use Rattle.handle.specs.Steps.{rest_checked}

module _ (bytes : List ℕ) (l : Layout) {s : Segment} (is : IsOpen bytes l s) where
  pub lists_start : rest_checked s 0 ≡ checked (every_list s)
  lists_start = sym (same_check (decode_all s.documents s.entries) (λ _. tt))

  pub lists_end : (i : ℕ) → l.terms ≤ i → Ok tt ≡ rest_checked s i
  unfolding decode_all
  lists_end i h = rw (drop_of_length-le s.entries {i = i} (omega (arith, is.term_count)))

  module _ {i : ℕ} {t : TermList} (e : EntryList bytes l i t) where
    pub decoded : decode s.documents (get_or s.entries i no_entry)
        ≡ decode (held_documents l.documents None (cut bytes l).metadata) (list_entry bytes t)
    decoded =
        rw (e.is s is, is.documents)
        (nameless s.documents (name_at (cut bytes l).directory (cut bytes l).names i) bytes t)

  module _ {i : ℕ} (below : i < l.terms) where
    entries_from : drop i s.entries ≡ get_or s.entries i no_entry ∷ drop (i + 1) s.entries
    entries_from = drop-cons s.entries i no_entry (omega (arith, is.term_count)) ∙ rw (add-one i)

    pub lists_step : ListDecodes s.documents (get_or s.entries i no_entry) → rest_checked s i ≡ rest_checked s (i + 1)
    unfolding decode_all
    lists_step d =
        let name = (get_or s.entries i no_entry).name in
        rw (entries_from, d.decoded)
        (same_check (decode_all s.documents (drop (i + 1) s.entries)) (λ ts. record { name = name; postings = d.postings } ∷ ts))

  module _ {i : ℕ} {t : TermList} (e : EntryList bytes l i t) (below : i < l.terms) where
    pub lists_next : {n : ℕ}
        → Ok n ≡ tallied (decode (held_documents l.documents None (cut bytes l).metadata) (list_entry bytes t))
        → rest_checked s i ≡ rest_checked s (i + 1)
    lists_next q =
        let (ps, d, _) = tally_ok total_positions _ q in
        lists_step below (record { postings = ps; decoded = decoded e ∙ d })

    pub lists_stop : {x : Refusal}
        → Err x ≡ tallied (decode (held_documents l.documents None (cut bytes l).metadata) (list_entry bytes t))
        → Err x ≡ rest_checked s i
    unfolding decode_all
    lists_stop q = rw (entries_from below, decoded e ∙ tally_refused total_positions _ q)
