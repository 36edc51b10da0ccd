-- A rule's code answers yes exactly where there is a witness.
-- Assumes nothing.
use Prim.Native.Nat.{ℕ, zero, suc, ◌+◌, ◌-◌, ◌≤◌, ◌<◌}
use mathlib.Core.Path.{◌≡◌, refl, ap}
use mathlib.Core.Bool.{Bool, true, false}
use mathlib.Core.Logic.{◌↔◌}
use native.Mathlib.Numerals.{add-one}
use native.Mathlib.Omega.{arith}
use Rattle.ask_match.specs.Steps.{Fits, Found, Chained}

told : {W : Type 0} (r : Bool) → (r ≡ true → W) → (r ≡ false → W → ⊥) → (r ≡ true) ↔ W
told true y n = (y, λ w. refl)
told false y n = (y, λ w. absurd (n refl w))

pub found_told : {n : ℕ} {takes : ℕ → ℕ → Type 0} {r : Bool} → Found n takes r → (r ≡ true) ↔ ((start : ℕ) × Fits n takes start)
found_told {r = r} f = told r f.yes (λ e w. f.no e w.0 w.1)

-- a chain's last position is its highest
module _ (n : ℕ) (p : ℕ → ℕ) (up : (i : ℕ) → suc i < n → p i < p (suc i)) where
  climbs : (j k : ℕ) → j + k < n → p j ≤ p (j + k)
  climbs j zero h = omega (arith, ap p (plus_zero j))
    where
      plus_zero : (j : ℕ) → j + 0 ≡ j
      plus_zero j = omega arith
  climbs j (suc k) h = omega (arith, climbs j k (omega arith), up (j + k) (omega arith), ap p (plus_suc j k))
    where
      plus_suc : (j k : ℕ) → j + suc k ≡ suc (j + k)
      plus_suc j k = omega arith

  highest : (j : ℕ) → j < n → p j ≤ p (n - 1)
  highest j h = let e : j + (n - 1 - j) ≡ n - 1 = omega arith in omega (arith, climbs j (n - 1 - j) (omega arith), ap p e)

pub chained_told : {n window : ℕ} {has : ℕ → ℕ → Type 0} {r : Bool} → 0 < n → Chained n window has r
    → (r ≡ true) ↔ ((p : ℕ → ℕ)
    × ((i : ℕ) → i < n → has i (p i))
    × ((i : ℕ) → suc i < n → p i < p (suc i))
    × (p (n - 1) - p 0 ≤ window))
chained_told {n} {r = r} some f =
    told r
    (λ e. let y = f.yes e in let c = y.1 in (
      y.0,
      c.on,
      λ i h. omega (arith, c.up i (omega arith), ap y.0 (add-one i)),
      omega (arith, c.near (n - 1) (omega arith)),
    ))
    (λ e w. f.no e w.0 (record {
      on = w.1;
      up = λ i h. omega (arith, w.2 i (omega arith), ap w.0 (add-one i));
      near = λ i h. omega (arith, highest n w.0 w.2 i h, w.3);
    }))
