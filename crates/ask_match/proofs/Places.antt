-- One cursor of a table advanced to a target.
-- Assumes nothing.
use Prim.Native.Nat.{ℕ, ◌+◌, ◌-◌, ◌≤◌, ◌<◌}
use mathlib.Core.Path.{◌≡◌, refl, sym, subst}
use mathlib.Core.List.{List}
use mathlib.Core.Bool.{Bool, true, false}
use native.Mathlib.Omega.{arith}
use lib.Dec.{eqb}
use borrow.Author.Tests.{eqb-true, eqb-false}
use Rattle.read_cursors.specs.declared.positions.Positions.{Positions}
use Rattle.read_cursors.specs.Steps.{positions_from}
use Rattle.ask_match.specs.Steps.{Changed, SoughtIn, stands}
use Rattle.common.specs.Elements.{◌∈◌}
use Rattle.ask_match.proofs.Members.{sought_in, sought_back, from_low, from_first, from_none}
use Rattle.ask_match.proofs.Leap.{Same}

-- an index is the one at hand, or another
pub by_place : (Q : ℕ → Type 0) (i j : ℕ) → Q i → ((j ≡ i → ⊥) → Q j) → Q j
by_place Q i j here other = go (eqb j i) refl
  where
    go : (t : Bool) → eqb j i ≡ t → Q j
    go true e = subst Q (sym (eqb-true j i e)) here
    go false e = other (eqb-false j i e)

-- what holds of each element still does after one is changed, if it does of that one
pub each_changed : {A : Type 0} (P : ℕ → A → Type 0) {i : ℕ} {c : A} {old new : ℕ → A} → Changed i c old new → P i c
    → (j : ℕ) → P j (old j) → P j (new j)
each_changed P {i} {c} {old} {new} ch holds j held =
    by_place (λ k. P k (new k)) i j (rw ch.here holds) (λ ne. rw (ch.other j ne) held)

-- one cursor changed for another that shows the same from start on
pub same_but : (P : ℕ → Positions → ℕ → Type 0) {start i : ℕ} {d : Positions} {cs new : ℕ → Positions} → Changed i d cs new
    → ((s : ℕ) → start ≤ s → P i (cs i) s → P i d s)
    → ((s : ℕ) → start ≤ s → P i d s → P i (cs i) s)
    → Same start (λ j s. P j (cs j) s) (λ j s. P j (new j) s)
same_but P {cs = cs} ch on back = record {
  on = λ j s h. each_changed (λ k c. P k (cs k) s → P k c s) ch (on s h) j (λ m. m);
  back = λ j s h. each_changed (λ k c. P k c s → P k (cs k) s) ch (back s h) j (λ m. m);
}

module _ {bytes : List ℕ} {cs new : ℕ → Positions} (start : ℕ) {i : ℕ} {d : Positions} (so : SoughtIn bytes (start + i) i cs new d) where
  pub gone : d.remaining ≡ 0 → (s : ℕ) → start ≤ s → stands bytes cs i s → ⊥
  gone e s h m = from_none bytes d (s + i) e (sought_in so.sought (s + i) (omega arith) m)

  pub moved : Same start (stands bytes cs) (stands bytes new)
  moved =
      same_but (λ j c s. (s + j) ∈ positions_from bytes c) so.stored
      (λ s h m. sought_in so.sought (s + i) (omega arith) m)
      (λ s h m. sought_back so.sought (s + i) m)

  pub met : 0 < d.remaining → d.pos.0 ≡ start + i → stands bytes new i start
  met h e = rw so.stored.here (subst (λ (x : ℕ). x ∈ positions_from bytes d) e (from_first bytes d h))

  pub over : (s : ℕ) → start ≤ s → stands bytes new i s → d.pos.0 - i ≤ s
  over s h m =
      let k : d.pos.0 ≤ s + i = from_low bytes d (s + i) (rw so.stored.here at m) in
      omega arith
