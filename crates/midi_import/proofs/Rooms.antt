-- 13 by lengths: that the nine tests are the definition's, and what passing them gives.
-- Assumes nothing.
use Rattle.std.specs.Prelude.{Ok}
use mathlib.Core.Path.{◌≡◌, refl}
use mathlib.Core.Bool.{Bool, true, false}
use Prim.Native.Nat.{ℕ, ◌*◌, ◌≤◌}
use lib.Dec.{leb}
use lib.ListN.{length}
use native.Mathlib.Omega.{arith}
use borrow.Author.Tests.{leb-true}
use Rattle.segment.specs.declared.replies.ListTotals.{ListTotals}
use Rattle.segment.specs.Refusals.{no_room}
use Rattle.segment.specs.Results.{Answer, roomy}
use Rattle.segment.specs.Results as results
use Rattle.segment.proofs.Accepted.{check_gives}
use Rattle.segment.proofs.Binds.{bind_gives}
use Rattle.midi_bars.specs.Loudness.{AllLists}
use Rattle.midi_bars.specs.Imports.{roomy_all, roomy_beside}
use Rattle.midi_import.specs.Steps.{room_beside}

-- the lengths of nine lists
pub record TotalsOf (a : AllLists) (t : ListTotals) : Type 0 where
  pub ids : length a.lists.ids ≡ t.documents
  pub lengths : length a.lists.lengths ≡ t.documents
  pub text : length a.lists.text ≡ 4 * t.terms
  pub ends : length a.lists.ends ≡ t.terms
  pub posting_counts : length a.lists.posting_counts ≡ t.terms
  pub posting_ids : length a.lists.posting_ids ≡ t.postings
  pub position_counts : length a.lists.position_counts ≡ t.postings
  pub positions : length a.lists.positions ≡ t.positions
  pub velocities : length a.velocities ≡ t.positions

-- the tests by lengths are the definition's
pub room_is : (a b : AllLists) (t : ListTotals) → TotalsOf a t → let r = b.lists in
    room_beside t (length r.ids) (length r.lengths) (length r.text) (length r.ends) (length r.posting_counts)
    (length r.posting_ids) (length r.position_counts) (length r.positions) (length b.velocities)
    ≡ roomy_beside a b
unfolding roomy_all roomy_beside
room_is a b t w =
    rw (
      w.ids,
      w.lengths,
      w.text,
      w.ends,
      w.posting_counts,
      w.posting_ids,
      w.position_counts,
      w.positions,
      w.velocities,
    )

-- what passing them gives
pub record RoomEnough (a b : AllLists) : Type 0 where
  pub ids : length a.lists.ids ≤ length b.lists.ids
  pub lengths : length a.lists.lengths ≤ length b.lists.lengths
  pub text : length a.lists.text ≤ length b.lists.text
  pub ends : length a.lists.ends ≤ length b.lists.ends
  pub posting_counts : length a.lists.posting_counts ≤ length b.lists.posting_counts
  pub posting_ids : length a.lists.posting_ids ≤ length b.lists.posting_ids
  pub position_counts : length a.lists.position_counts ≤ length b.lists.position_counts
  pub positions : length a.lists.positions ≤ length b.lists.positions
  pub velocities : length a.velocities ≤ length b.velocities

fits : {u : Unit {0}} (buffer n m : ℕ) → roomy buffer n m ≡ Ok u → n ≤ m
fits buffer n m e = step (leb n m) refl e
  where
    step : {u : Unit {0}} (t : Bool) → leb n m ≡ t → results.check t (no_room buffer n) ≡ Ok u → n ≤ m
    step true t e = leb-true n m t
    step false t e = let z : ◌≡◌ {A = ℕ} 0 1 = cc in absurd (omega arith)

pub room_gives : (a b : AllLists) {u : Unit {0}} → roomy_beside a b ≡ Ok u → RoomEnough a b
unfolding roomy_all roomy_beside
room_gives a b e =
    let l = a.lists in
    let r = b.lists in
    let (_, eight, nine) = bind_gives (roomy_all l r) _ e in
    let (i, e₁) = check_gives (leb (length l.ids) (length r.ids)) _ _ eight in
    let (j, e₂) = check_gives (leb (length l.lengths) (length r.lengths)) _ _ e₁ in
    let (t, e₃) = check_gives (leb (length l.text) (length r.text)) _ _ e₂ in
    let (n, e₄) = check_gives (leb (length l.ends) (length r.ends)) _ _ e₃ in
    let (p, e₅) = check_gives (leb (length l.posting_counts) (length r.posting_counts)) _ _ e₄ in
    let (q, e₆) = check_gives (leb (length l.posting_ids) (length r.posting_ids)) _ _ e₅ in
    let (k, e₇) = check_gives (leb (length l.position_counts) (length r.position_counts)) _ _ e₆ in
    record {
      ids = leb-true _ _ i;
      lengths = leb-true _ _ j;
      text = leb-true _ _ t;
      ends = leb-true _ _ n;
      posting_counts = leb-true _ _ p;
      posting_ids = leb-true _ _ q;
      position_counts = leb-true _ _ k;
      positions = fits 8 _ _ e₇;
      velocities = fits 9 _ _ nine;
    }
