-- A step and its bar.
-- Assumes nothing.
use mathlib.Core.Path.{◌≡◌, ap}
use Prim.Native.Nat.{ℕ, ◌+◌, ◌-◌, ◌*◌, ◌/◌, ◌%◌, ◌≤◌}
use native.Mathlib.Nat.{div-add-mod'}
use native.Mathlib.Omega.{arith}

-- a bar's first step is not past the step
pub first_le : (step bar steps : ℕ) → bar ≡ step / steps → bar * steps ≤ step
first_le step bar steps e =
    let whole : step / steps * steps + step % steps ≡ step = div-add-mod' step steps in
    let first : bar * steps ≡ step / steps * steps = ap (λ (n : ℕ). n * steps) e in
    omega (arith, whole, first)

-- the position in the bar
pub in_bar_rest : (step bar steps : ℕ) → bar ≡ step / steps → step - bar * steps ≡ step % steps
in_bar_rest step bar steps e =
    let whole : step / steps * steps + step % steps ≡ step = div-add-mod' step steps in
    let first : bar * steps ≡ step / steps * steps = ap (λ (n : ℕ). n * steps) e in
    omega (arith, whole, first)
