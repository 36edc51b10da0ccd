-- 13 for ids, then for counts, by the number of documents found.
-- Assumes nothing.
use Rattle.std.specs.Prelude.{Err, Ok}
use mathlib.Core.Path.{◌≡◌, sym, ap, ◌∙◌}
use mathlib.Core.List.{List}
use Prim.Native.Nat.{ℕ, ◌≤◌, ◌<◌}
use native.Mathlib.Omega.{arith}
use lib.Dec.{leb}
use lib.ListN.{length, get_or}
use borrow.Author.Tests.{le-leb, lt-leb, leb-true}
use Rattle.segment.specs.declared.refusal.Refusal.{Refusal}
use Rattle.segment.specs.Refusals.{no_room}
use Rattle.segment.specs.Results.{roomy, ◌>>=◌}
use Rattle.segment.specs.Steps.{checked}
use Rattle.segment.proofs.Accepted.{passed_ok, refused_is}
use Rattle.segment.proofs.Binds.{both_gives, bind_twice}
use Rattle.rules.specs.declared.rule.Rule.TheVariants.{Phrase}
use Rattle.calls.specs.Order.{Match}
use Rattle.ask_names.specs.declared.slots.Names.{Names}
use Rattle.ask_names.specs.Steps.{no_list}
use Rattle.ask_answer.specs.Steps.{found_in, ListsWalked}
use Rattle.ask_answer.proofs.Walked.{found_few}
use Rattle.ask_ranked.specs.Steps.{room_for, roomed, RoomChecked}

-- ---- the two tests

module _ (needed id_room count_room : ℕ) where
  room_both : needed ≤ id_room → needed ≤ count_room → (Ok tt) ≡ checked (room_for needed id_room count_room)
  room_both a b = rw (le-leb needed id_room a, le-leb needed count_room b)

  no_ids : id_room < needed → Err (no_room 1 needed) ≡ checked (room_for needed id_room count_room)
  no_ids a = rw (lt-leb needed id_room a)

  no_counts : needed ≤ id_room → count_room < needed → Err (no_room 2 needed) ≡ checked (room_for needed id_room count_room)
  no_counts a b = rw (le-leb needed id_room a, lt-leb needed count_room b)

module _ (found : List Match) (id_room count_room : ℕ) where
  together : roomed found id_room count_room ≡ (room_for (length found) id_room count_room >>= λ _. Ok found)
  together = sym (bind_twice (roomy 1 (length found) id_room) (λ _. roomy 2 (length found) count_room) (λ _. Ok found))

  pub roomed_refused : {x : Refusal} → Err x ≡ checked (room_for (length found) id_room count_room)
      → roomed found id_room count_room ≡ Err x
  roomed_refused e = together ∙ ap (λ r. r >>= λ _. Ok found) (refused_is (room_for (length found) id_room count_room) e)

  module _ (passed : (Ok tt) ≡ checked (room_for (length found) id_room count_room)) where
    pub roomed_passed : roomed found id_room count_room ≡ Ok found
    roomed_passed = together ∙ ap (λ r. r >>= λ _. Ok found) (passed_ok (room_for (length found) id_room count_room) passed).1

    pub both_room : (length found ≤ id_room) × (length found ≤ count_room)
    both_room =
        let (a, b, _) = both_gives (leb (length found) id_room) (leb (length found) count_room) _ _ found roomed_passed in
        (leb-true (length found) id_room a, leb-true (length found) count_room b)

-- ---- the documents of the lists

module _ (bytes : List ℕ) (s : Names) (id_room count_room : ℕ) where
  -- no more are found than list 0 has postings
  pub room_most : (get_or s.list 0 no_list).df ≤ id_room → (get_or s.list 0 no_list).df ≤ count_room
      → RoomChecked bytes s id_room count_room (Ok tt)
  room_most a b own ns f =
      let few = found_few bytes s 0 Phrase own ns in
      let found = found_in bytes s 0 Phrase own ns in
      room_both (length found) id_room count_room (omega (arith, few, a)) (omega (arith, few, b))

  module _ {before : List ℕ} {found : ℕ} {after : List ℕ} (walked : ListsWalked bytes Phrase s before found after) where
    pub room_no_ids : id_room < found → RoomChecked bytes s id_room count_room (Err (no_room 1 found))
    room_no_ids a own ns f = rw (← (walked own ns f).count) (no_ids found id_room count_room a)

    pub room_no_counts : found ≤ id_room → count_room < found → RoomChecked bytes s id_room count_room (Err (no_room 2 found))
    room_no_counts a b own ns f = rw (← (walked own ns f).count) (no_counts found id_room count_room a b)

    pub room_enough : found ≤ id_room → found ≤ count_room → RoomChecked bytes s id_room count_room (Ok tt)
    room_enough a b own ns f = rw (← (walked own ns f).count) (room_both found id_room count_room a b)
