-- A checksum is a number of 32 bits.
-- Assumes nothing.
use mathlib.Core.Path.{◌≡◌, refl, ap, ◌∙◌}
use mathlib.Core.Bool.{Bool, true, false, not}
use mathlib.Core.List.{List, [], ◌∷◌, ◌++◌, map}
use Prim.Native.Nat.{ℕ, zero, suc, ◌^◌, ◌≤◌, ◌<◌}
use native.Mathlib.Nat.{pow-suc}
use native.Mathlib.Omega.{arith}
use lib.ListN.{length, replicate, length-append, length-map}
use Rattle.crc32.specs.Crc32.{remainder, message, complement_first, number, crc32_of}
use Rattle.crc32.proofs.Division.{divides}

number_lt : (bs : List Bool) → number bs < 2 ^ length bs
unfolding number
number_lt [] = omega arith
number_lt (true ∷ bs) = rw (pow-suc 2 (length bs)) (omega (arith, number_lt bs))
number_lt (false ∷ bs) = rw (pow-suc 2 (length bs)) (omega (arith, number_lt bs))

complement_length : (n : ℕ) (p : List Bool) → length (complement_first n p) ≡ length p
unfolding complement_first
complement_length zero p = refl
complement_length (suc n) [] = refl
complement_length (suc n) (b ∷ p) = ap suc (complement_length n p)

pub crc_lt : (bytes : List ℕ) → crc32_of bytes < 2 ^ 32
unfolding crc32_of
crc_lt bytes =
    let p = complement_first 32 (message bytes ++ replicate 32 false) in
    let long : 32 ≤ length p = omega
    (arith, complement_length 32 (message bytes ++ replicate 32 false), length-append (message bytes) (replicate 32 false)) in
    let size : length (map not (remainder p)) ≡ 32 = length-map (remainder p) not ∙ (divides p long).size in
    rw size at (number_lt (map not (remainder p)))
