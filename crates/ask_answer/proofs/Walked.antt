-- The lists walked from their first postings, counted and stored.
-- Assumes nothing.
use Rattle.std.specs.Prelude.{Err, None, Ok}
use Rattle.segment.specs.Results.{Answer, check, ◌>>=◌}
use mathlib.Core.Path.{◌≡◌, refl, sym, ap, ◌∙◌}
use mathlib.Core.Bool.{Bool, true, false}
use mathlib.Core.List.{List, [], map}
use Prim.Native.Nat.{ℕ, ◌+◌, ◌≤◌, ◌<◌}
use native.Mathlib.Nat.{zero-add}
use native.Mathlib.Omega.{arith}
use lib.Dec.{leb}
use lib.ListN.{length, length-map, drop, get_or, set}
use lib.Seq.{sets-eq}
use borrow.Author.Tests.{le-leb, lt-leb, leb-true}
use Rattle.common.proofs.Kept.{kept_fewer}
use Rattle.common.proofs.OneMore.{each_set}
use Rattle.segment.specs.Refusals.{no_room}
use Rattle.rules.specs.declared.rule.Rule.{Rule}
use Rattle.rules.specs.Kinds.{meets}
use Rattle.calls.specs.Lookups.{positions_of}
use Rattle.calls.specs.Kept.{Kept}
use Rattle.calls.proofs.Kept.{past_front}
use Rattle.read_cursors.proofs.Rising.{postings_few}
use Rattle.read_cursors.specs.Held.{posting_of}
use Rattle.read_cursors.specs.declared.postings.Postings.{Postings}
use Rattle.read_cursors.specs.Steps.{postings_from}
use Rattle.read_terms.specs.declared.find.TermList.{TermList}
use Rattle.ask_names.specs.declared.slots.Names.{Names}
use Rattle.ask_names.specs.Steps.{no_list}
use Rattle.ask_walk.specs.Steps.{cursors_in, list_of, DocumentsFound}
use Rattle.ask_answer.specs.Promise.{answer_of, Replies}
use Rattle.ask_answer.specs.Steps.{held_in, Heads, Fitting, found_in, ListsWalked, ListsAnswered}

-- ---- one cursor more

module _ (bytes : List ℕ) (lists : List TermList) where
  pub heads_more : (k : ℕ) (cursors : List Postings) → k < length cursors → (c : Postings) → postings_from bytes c ≡ held_in bytes lists k
      → Heads bytes k lists (cursors_in cursors) → Heads bytes (k + 1) lists (cursors_in (set cursors k c))
  heads_more k cursors h c is before = record {
    each = each_set _ cursors k c (λ j p. postings_from bytes p ≡ held_in bytes lists j) h before.each is;
  }

-- ---- the walk

-- names that fit the lists fit the cursors at their first postings
pub heads_fit : {bytes : List ℕ} {s : Names} {cursors : ℕ → Postings} → Heads bytes s.different s.list cursors
    → {own : ℕ → List ℕ → List ℕ} {ns : List (List ℕ)} → Fitting bytes s own ns
    → (d i : ℕ) → i < s.taken → own d (get_or ns i []) ≡ positions_of (list_of bytes cursors (get_or s.slot i 0)) d
heads_fit {s = s} h f d i g =
    f.positions d i g ∙ ap (λ l. positions_of (map posting_of l) d) (sym (h.each (get_or s.slot i 0) (f.numbered.below i g)))

pub lists_walked : (bytes : List ℕ) (a : Rule) (s : Names) {cursors : ℕ → Postings} {before : List ℕ} {r : ℕ} {after : List ℕ}
    → 0 < s.different → Heads bytes s.different s.list cursors
    → DocumentsFound bytes a s.taken s.slot s.different s.wanted cursors before r after → ListsWalked bytes a s before r after
lists_walked bytes a s first h w own ns f =
    rw (ap (map posting_of) (h.each 0 first)) at (w own ns f.numbered f.named (heads_fit h f))

-- ---- no more than list b has postings

pub found_few : (bytes : List ℕ) (s : Names) (b : ℕ) (a : Rule) (own : ℕ → List ℕ → List ℕ) (ns : List (List ℕ))
    → length (found_in bytes s b a own ns) ≤ (get_or s.list b no_list).df
found_few bytes s b a own ns =
    let ss = held_in bytes s.list b in
    omega (
      arith,
      kept_fewer (λ d. meets a (own d) ns) (map (λ p. p.doc) (map posting_of ss)),
      length-map (map posting_of ss) (λ p. p.doc),
      length-map ss posting_of,
      postings_few (get_or s.list b no_list).df None (drop (get_or s.list b no_list).start bytes),
    )

-- ---- counted, and stored

module _ (bytes : List ℕ) (a : Rule) (s : Names) {before : List ℕ} {count : ℕ} {after : List ℕ}
    (w : ListsWalked bytes a s before count after) where
  pub lists_short : (ids : List ℕ) → length ids < count → ListsAnswered 0 bytes a s ids (Err (no_room 1 count)) ids
  lists_short ids short = record {
    replies = λ own ns f.
        let is = (w own ns f).count in
        let found = found_in bytes s 0 a own ns in
        rw (lt-leb (length found) (length ids) (rw is at short), is) (refl, refl);
  }

  -- room for what another walk counted
  pub lists_same : {before' : List ℕ} {count' : ℕ} {after' : List ℕ} → ListsWalked bytes a s before' count' after'
      → (own : ℕ → List ℕ → List ℕ) (ns : List (List ℕ)) → Fitting bytes s own ns → count ≡ count'
  lists_same v own ns f = (w own ns f).count ∙ sym (v own ns f).count

  pub lists_few : (own : ℕ → List ℕ → List ℕ) (ns : List (List ℕ)) → Fitting bytes s own ns → count ≤ (get_or s.list 0 no_list).df
  lists_few own ns f = omega (arith, (w own ns f).count, found_few bytes s 0 a own ns)

  pub lists_found : ((own : ℕ → List ℕ → List ℕ) (ns : List (List ℕ)) → Fitting bytes s own ns → count ≤ length before)
      → ListsAnswered 0 bytes a s before (Ok count) after
  lists_found room = record {
    replies = λ own ns f.
        let g = w own ns f in
        let found = found_in bytes s 0 a own ns in
        let fits = rw g.count at (room own ns f) in
        rw (le-leb (length found) (length before) fits)
        (ap Ok g.count, g.left ∙ rw zero-add at (sets-eq found before 0 (omega arith)));
  }

-- ---- what is past an answer is kept

pub replies_kept : (found ids : List ℕ) {r : (Answer ℕ)} {ids' : List ℕ} → Replies (answer_of found (length ids)) ids r ids'
    → Kept ids r ids'
replies_kept found ids {r} {ids'} p = step (leb (length found) (length ids)) refl p
  where
    step : (t : Bool) → leb (length found) (length ids) ≡ t
        → Replies (check t (no_room 1 (length found)) >>= λ _. Ok found) ids r ids' → Kept ids r ids'
    step true e (is, left) = rw (is, left) (past_front found ids (leb-true (length found) (length ids) e))
    step false e (is, left) = rw (is, left)
