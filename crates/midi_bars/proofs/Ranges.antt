-- Numbers that rise by one, and what is kept of them.
-- Assumes nothing.
use mathlib.Core.Path.{◌≡◌, refl, ap}
use mathlib.Core.Bool.{Bool}
use mathlib.Core.Logic.{◌⊎◌, inl, inr}
use Prim.Native.Nat.{ℕ, zero, suc, ◌+◌, ◌≤◌, ◌<◌}
use native.Mathlib.Omega.{arith}
use lib.ListN.{length}
use Rattle.common.proofs.Loops.{lt_or_ge}
use Rattle.common.specs.Elements.{◌∈◌, Rising}
use Rattle.common.specs.Members.{kept}
use Rattle.common.proofs.Rising.{rising_cons, kept_rises}
use Rattle.midi_bars.specs.Bars.{rising_from}

pub range_gives : (a n x : ℕ) → x ∈ rising_from a n → (a ≤ x) × (x < a + n)
unfolding rising_from
range_gives a zero x m = absurd m
range_gives a (suc n) x (inl e) = (omega arith, omega arith)
range_gives a (suc n) x (inr m) = let (l, h) = range_gives (suc a) n x m in (omega arith, omega arith)

pub range_from : (a n x : ℕ) → a ≤ x → x < a + n → x ∈ rising_from a n
unfolding rising_from
range_from a zero x l h = absurd (omega arith)
range_from a (suc n) x l h = step (lt_or_ge a x) (range_from (suc a) n x)
  where
    step : (a < x) ⊎ (x ≤ a) → (suc a ≤ x → x < suc a + n → x ∈ rising_from (suc a) n) → (x ≡ a) ⊎ (x ∈ rising_from (suc a) n)
    step (inl up) ih = inr (ih (omega arith) (omega arith))
    step (inr down) ih = inl (omega arith)

pub range_length : (a n : ℕ) → length (rising_from a n) ≡ n
unfolding rising_from
range_length a zero = refl
range_length a (suc n) = ap suc (range_length (suc a) n)

pub range_rising : (a n : ℕ) → Rising (rising_from a n)
unfolding rising_from
range_rising a zero = tt
range_rising a (suc n) = rising_cons a (rising_from (suc a) n) (λ y m. omega (arith, range_gives (suc a) n y m)) (range_rising (suc a) n)

pub kept_rising : (f : ℕ → Bool) (a n : ℕ) → Rising (kept f (rising_from a n))
kept_rising f a n = kept_rises f (rising_from a n) (range_rising a n)
