-- The register of the formula: what a step does to an even part, and the register along a slice.
-- Assumes nothing.
use mathlib.Core.Path.{◌≡◌, ap, ap₂, ◌∙◌}
use mathlib.Core.List.{List}
use Prim.Native.Nat.{ℕ, suc, ◌+◌, ◌-◌, ◌*◌, ◌/◌, ◌%◌, ◌≤◌, ◌<◌}
use native.Mathlib.Omega.{arith}
use lib.Bits.{bit_xor, differ}
use lib.ListN.{length, drop, get_or}
use Rattle.crc32.specs.Formula.{polynomial_if, step, steps, along}
use Rattle.common.proofs.Loops.{drop_step, drop_end}
use Rattle.crc32.proofs.Xor.{xor_odd, xor_half, xor_assoc}

-- one of the steps that are left
pub steps_next : (n k c : ℕ) → k < n → steps (n - (k + 1)) (step c) ≡ steps (n - k) c
unfolding steps
steps_next n k c h =
    let left : suc (n - (k + 1)) ≡ n - k = omega arith in
    ap (λ m. steps m c) left

-- a step takes an even part along, halved
pub step_even : (y x : ℕ) → step (bit_xor (y * 2) x) ≡ bit_xor y (step x)
unfolding step
step_even y x =
    let half : y * 2 / 2 ≡ y = omega arith in
    let even : y * 2 % 2 ≡ 0 = omega arith in
    ap₂ (λ (h o : ℕ). bit_xor h (polynomial_if o))
    (xor_half (y * 2) x ∙ ap (λ (h : ℕ). bit_xor h (x / 2)) half)
    (xor_odd (y * 2) x ∙ ap (λ (o : ℕ). differ o (x % 2)) even)
    ∙ xor_assoc y (x / 2) (polynomial_if (x % 2))

pub next : (s : List ℕ) (i c : ℕ) → i < length s → along (steps 8 (bit_xor c (get_or s i 0))) (drop (i + 1) s) ≡ along c (drop i s)
unfolding along
next s i c h = rw (drop_step s i 0 h)

pub done : (s : List ℕ) (i c : ℕ) → length s ≤ i → along c (drop i s) ≡ c
unfolding along
done s i c h = rw (drop_end s i h)
