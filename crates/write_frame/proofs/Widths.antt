-- Numbers in a fixed width, as the code lays them out: a byte at a time, and a u64 as two u32.
-- Assumes nothing.
use mathlib.Core.Path.{◌≡◌, refl, ap, ap₂, ◌∙◌}
use mathlib.Core.List.{List, ◌++◌}
use Prim.Native.Nat.{ℕ, zero, suc, ◌+◌, ◌*◌, ◌/◌, ◌%◌, ◌^◌}
use native.Mathlib.Nat.{pow-succ', mul_assoc}
use native.Mathlib.Numerals.{add-one, add-two, add-three}
use native.Mathlib.Omega.{arith}
use lib.ListN.{set}
use lib.Seq.{sets}
use Rattle.segment.specs.Written.{fixed}

-- the four bytes as the code takes them
pub fixed_four : (l : List ℕ) (at x : ℕ)
    → set (set (set (set l at (x % 256)) (at + 1) (x / 256 % 256)) (at + 2) (x / 65536 % 256)) (at + 3) (x / 16777216 % 256)
    ≡ sets l at (fixed 4 x)
fixed_four l at x =
    let two : x / 65536 ≡ x / 256 / 256 = omega arith in
    let three : x / 16777216 ≡ x / 256 / 256 / 256 = omega arith in
    rw (add-one at, add-two at, add-three at, two, three)

-- what lies above the width does not show
above : (n h x : ℕ) → fixed n (256 ^ n * h + x) ≡ fixed n x
above zero h x = refl
above (suc n) h x =
    let m = 256 ^ n * h in
    let e : 256 ^ suc n * h + x ≡ 256 * m + x = rw (pow-succ' 256 n, mul_assoc 256 (256 ^ n) h) in
    let low : (256 * m + x) % 256 ≡ x % 256 = omega arith in
    let rest : (256 * m + x) / 256 ≡ m + x / 256 = omega arith in
    rw (e, low, rest, above n h (x / 256))

pub fixed_eight : (x : ℕ) → fixed 8 x ≡ fixed 4 (x % 4294967296) ++ fixed 4 (x / 4294967296)
fixed_eight x =
    let split : x ≡ 4294967296 * (x / 4294967296) + x % 4294967296 = omega arith in
    let high : x / 256 / 256 / 256 / 256 ≡ x / 4294967296 = omega arith in
    ap₂ (λ (a b : List ℕ). a ++ b) (ap (fixed 4) split ∙ above 4 (x / 4294967296) (x % 4294967296)) (ap (fixed 4) high)
