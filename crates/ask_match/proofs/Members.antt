-- Membership in the positions from a cursor on.
-- Assumes nothing.
use Prim.Native.Nat.{ℕ, suc, ◌≤◌, ◌<◌}
use mathlib.Core.Path.{◌≡◌, refl, sym}
use mathlib.Core.List.{List, [], ◌∷◌}
use mathlib.Core.Bool.{Bool, true, false, cond}
use mathlib.Core.Logic.{inl, inr}
use native.Mathlib.Omega.{arith}
use lib.Dec.{ltb}
use borrow.Author.Tests.{ltb-true}
use Rattle.read_cursors.specs.Held.{seek_in}
use Rattle.read_cursors.specs.declared.positions.Positions.{Positions}
use Rattle.read_cursors.specs.Steps.{positions_from, SoughtPosition}
use Rattle.read_cursors.proofs.Seeks.{Ahead}
use Rattle.read_cursors.proofs.Entering.{positions_ahead}
use Rattle.read_cursors.proofs.Rising.{Rises, from_rise}
use Rattle.common.specs.Elements.{◌∈◌, Rising}

-- the positions that are not below a target, of a list that rises
abbrev pub onward : ℕ → List ℕ → List ℕ
onward target l = seek_in (λ (p : ℕ). p) target l

in_onward : (t : ℕ) (l : List ℕ) (p : ℕ) → t ≤ p → p ∈ l → p ∈ onward t l
in_onward t [] p h m = m
in_onward t (x ∷ l) p h m = go (ltb x t) refl m (λ k. in_onward t l p h k)
  where
    go : (b : Bool) → ltb x t ≡ b → p ∈ (x ∷ l) → (p ∈ l → p ∈ onward t l) → p ∈ cond b (onward t l) (x ∷ l)
    go true e (inl is) ih = absurd (omega (arith, ltb-true x t e))
    go true e (inr k) ih = ih k
    go false e k ih = k

onward_in : (t : ℕ) (l : List ℕ) (p : ℕ) → p ∈ onward t l → p ∈ l
onward_in t [] p m = m
onward_in t (x ∷ l) p m = go (ltb x t) m (λ k. onward_in t l p k)
  where
    go : (b : Bool) → p ∈ cond b (onward t l) (x ∷ l) → (p ∈ onward t l → p ∈ l) → p ∈ (x ∷ l)
    go true k ih = inr (ih k)
    go false k ih = k

rises_low : (low : ℕ) (l : List ℕ) (p : ℕ) → Rises (λ (p : ℕ). p) low l → p ∈ l → low ≤ p
rises_low low [] p u m = absurd m
rises_low low (x ∷ l) p (h, u) (inl e) = omega arith
rises_low low (x ∷ l) p (h, u) (inr m) = omega (arith, rises_low (suc x) l p u m)

rises_rising : (low : ℕ) (l : List ℕ) → Rises (λ (p : ℕ). p) low l → Rising l
rises_rising low [] u = tt
rises_rising low (x ∷ []) u = tt
rises_rising low (x ∷ (y ∷ l)) (h, u) = (u.0, rises_rising (suc x) (y ∷ l) u)

first_in : {k left : ℕ} {l : List ℕ} → Ahead (λ (p : ℕ). p) k left l → 0 < left → k ∈ l
first_in Ahead.none h = absurd (omega arith)
first_in (Ahead.one e) h = inl (sym e)

none_in : {k left : ℕ} {l : List ℕ} (p : ℕ) → Ahead (λ (p : ℕ). p) k left l → left ≡ 0 → p ∈ l → ⊥
none_in p Ahead.none e m = m
none_in p (Ahead.one u) e m = absurd (omega arith)

module _ (bytes : List ℕ) (c : Positions) where
  pub ahead : Ahead (λ (p : ℕ). p) c.pos.0 c.remaining (positions_from bytes c)
  ahead = positions_ahead bytes c.remaining c.at c.pos.0

  pub from_low : (p : ℕ) → p ∈ positions_from bytes c → c.pos.0 ≤ p
  from_low p m = rises_low c.pos.0 (positions_from bytes c) p (from_rise bytes c.remaining c.at c.pos.0) m

  pub from_rising : Rising (positions_from bytes c)
  from_rising = rises_rising c.pos.0 (positions_from bytes c) (from_rise bytes c.remaining c.at c.pos.0)

  pub from_first : 0 < c.remaining → c.pos.0 ∈ positions_from bytes c
  from_first h = first_in ahead h

  pub from_none : (p : ℕ) → c.remaining ≡ 0 → p ∈ positions_from bytes c → ⊥
  from_none p e m = none_in p ahead e m

-- an advanced cursor shows the same from the target on, and nothing else
module _ {bytes : List ℕ} {target : ℕ} {c d : Positions} (so : SoughtPosition bytes target c d) (p : ℕ) where
  pub sought_in : target ≤ p → p ∈ positions_from bytes c → p ∈ positions_from bytes d
  sought_in h m = rw so.holds (in_onward target (positions_from bytes c) p h m)

  pub sought_back : p ∈ positions_from bytes d → p ∈ positions_from bytes c
  sought_back m = onward_in target (positions_from bytes c) p (rw so.holds at m)
