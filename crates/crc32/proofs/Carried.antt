-- A remainder carried on over a run: along a slice, part by part, and at the end the checksum.
-- Assumes nothing.
use mathlib.Core.Path.{◌≡◌, refl, sym, ap, ◌∙◌}
use mathlib.Core.List.{List, [], ◌∷◌, ◌++◌}
use mathlib.Core.Bool.{Bool, true, false}
use Prim.Native.Nat.{ℕ, ◌+◌, ◌^◌, ◌≤◌, ◌<◌}
use native.Mathlib.Nat.{pow-suc}
use native.Mathlib.Omega.{arith}
use lib.Bits.{bit_xor}
use lib.ListN.{length, drop, get_or, replicate, length-append}
use Rattle.common.proofs.Loops.{drop_step, drop_end}
use Rattle.crc32.specs.Crc32.{plus, remainder, bits, message, number, crc32_of}
use Rattle.crc32.specs.Parts.{taken_in, all_taken_in}
use Rattle.crc32.specs.Claims as claims
use Rattle.crc32.proofs.Division.{plus_length, divides, along_bits, bits_append, complemented}
use Rattle.crc32.proofs.Parts.{bits_length, byte_along}

pub carried_next : (s : List ℕ) (i r : ℕ) → i < length s
    → all_taken_in (taken_in r (get_or s i 0)) (drop (i + 1) s) ≡ all_taken_in r (drop i s)
unfolding all_taken_in
carried_next s i r h = rw (drop_step s i 0 h)

pub carried_done : (s : List ℕ) (i r : ℕ) → length s ≤ i → all_taken_in r (drop i s) ≡ r
unfolding all_taken_in
carried_done s i r h = rw (drop_end s i h)

pub part_by_part : claims.PartByPart
unfolding all_taken_in
part_by_part r [] rest = refl
part_by_part r (b ∷ part) rest = part_by_part (taken_in r b) part rest

number_lt : (bs : List Bool) → number bs < 2 ^ length bs
unfolding number
number_lt [] = omega arith
number_lt (true ∷ bs) = rw (pow-suc 2 (length bs)) (omega (arith, number_lt bs))
number_lt (false ∷ bs) = rw (pow-suc 2 (length bs)) (omega (arith, number_lt bs))

taken_in_lt : (r b : ℕ) → taken_in r b < 2 ^ 32
unfolding taken_in
taken_in_lt r b =
    let p = plus (bits 32 r) (bits 8 b ++ replicate 32 false) in
    let long : length (bits 8 b ++ replicate 32 false) ≡ length (bits 8 b) + 32 = length-append (bits 8 b) (replicate 32 false) in
    let size : length p ≡ length (bits 8 b) + 32 = plus_length (bits 32 r) _ (omega (arith, bits_length 32 r)) ∙ long in
    let is : length (remainder p) ≡ 32 = (divides p (omega arith)).size in
    rw is at (number_lt (remainder p))

-- the register along the message's bits
carried_bits : (bytes : List ℕ) (r : ℕ) → r < 2 ^ 32 → all_taken_in r bytes ≡ along_bits r (message bytes)
unfolding all_taken_in message along_bits
carried_bits [] r h = refl
carried_bits (b ∷ bytes) r h =
    carried_bits bytes (taken_in r b) (taken_in_lt r b)
    ∙ ap (λ x. along_bits x (message bytes)) (byte_along r b h)
    ∙ sym (bits_append (bits 8 b) (message bytes) r)

pub carried_agrees : claims.CarriedAgrees
unfolding crc32_of
carried_agrees bytes = ap (λ x. bit_xor x 0xFFFFFFFF) (carried_bits bytes 0xFFFFFFFF (omega arith)) ∙ complemented (message bytes)
