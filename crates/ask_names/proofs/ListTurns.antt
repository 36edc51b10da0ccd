-- The lists of the different terms decoded in turn.
-- Assumes nothing.
use Rattle.std.specs.Prelude.{Err, Ok}
use mathlib.Core.Path.{◌≡◌}
use mathlib.Core.List.{List}
use Prim.Native.Nat.{ℕ, ◌+◌, ◌≤◌, ◌<◌}
use native.Mathlib.Omega.{arith}
use Rattle.std.proofs.lemmas.List.{get_or-take, length-take-le}
use lib.ListN.{length, get_or, take, drop}
use Rattle.common.proofs.Loops.{drop_step, drop_end}
use Rattle.segment.specs.declared.refusal.Refusal.{Refusal}
use Rattle.segment.specs.Results.{Answer}
use Rattle.segment.specs.Records.{Document}
use Rattle.segment.specs.Postings.{decode, total_positions}
use Rattle.read_lists.specs.Steps.{tallied}
use Rattle.read_terms.specs.declared.find.TermList.{TermList}
use Rattle.read_open.specs.declared.header.Layout.{Layout}
use Rattle.read_open.specs.Steps.{SectionsFollow}
use Rattle.read_terms.specs.Steps.{ListInside, list_entry}
use Rattle.read_terms.proofs.Finding.{tally_ok, tally_refused}
use Rattle.ask_names.specs.Lists.{ListsInside, decode_each}
use Rattle.ask_names.specs.Steps.{no_list}

module _ (documents : List Document) (bytes : List ℕ) (ls : List TermList) (k : ℕ) {whole : Answer (Unit {0})}
    (inv : decode_each documents bytes (drop k ls) ≡ whole) where
  module _ (h : k < length ls) where
    pub lists_next : {m : ℕ} → Ok m ≡ tallied (decode documents (list_entry bytes (get_or ls k no_list)))
        → decode_each documents bytes (drop (k + 1) ls) ≡ whole
    unfolding decode_each
    lists_next e =
        let (ps, q, t) = tally_ok total_positions (decode documents (list_entry bytes (get_or ls k no_list))) e in
        rw (drop_step ls k no_list h, q) at inv

    pub lists_stop : {x : Refusal} → Err x ≡ tallied (decode documents (list_entry bytes (get_or ls k no_list)))
        → Err x ≡ whole
    unfolding decode_each
    lists_stop e =
        rw (drop_step ls k no_list h, tally_refused total_positions (decode documents (list_entry bytes (get_or ls k no_list))) e) at inv

  pub lists_end : length ls ≤ k → Ok tt ≡ whole
  unfolding decode_each
  lists_end h = rw (drop_end ls k h) at inv

-- the first n of some lists lie in the bytes
pub lists_inside : (bytes : List ℕ) (at : Layout) (ls : List TermList) (n : ℕ) → SectionsFollow bytes at → n ≤ length ls
    → ((k : ℕ) → k < n → ListInside bytes (get_or ls k no_list)) → ListsInside bytes at (take n ls)
lists_inside bytes at ls n ordered few each = record {
  ordered = ordered;
  each = λ k h.
      let g : k < n = omega (arith, length-take-le n ls few) in
      rw (get_or-take n ls k no_list g) (each k g);
}
