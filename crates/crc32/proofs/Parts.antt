-- A step of the standard's division is one shift and one conditional exclusive-or, and a byte is eight of them.
-- Assumes nothing.
use mathlib.Core.Path.{◌≡◌, refl, sym, ap, ap₂, ◌∙◌}
use mathlib.Core.List.{List, [], ◌∷◌, ◌++◌}
use mathlib.Core.Bool.{Bool, true, false}
use Prim.Native.Nat.{ℕ, zero, suc, ◌+◌, ◌/◌, ◌^◌, ◌≤◌, ◌<◌}
use native.Mathlib.Omega.{arith}
use lib.ListN.{length, replicate, length-append}
use lib.Bits.{bit_xor, xor_zero_r}
use Rattle.crc32.specs.Crc32.{differs, plus, divided, remainder, bits, number}
use Rattle.crc32.specs.Parts.{times_x, taken_in}
use Rattle.crc32.specs.Formula.{step, steps}
use Rattle.crc32.specs.Claims as claims
use Rattle.crc32.proofs.Division.{DividesOn, plus_length, number_bits, along_bits, by_division, steps_bits}

pub bits_length : (n b : ℕ) → length (bits n b) ≡ n
unfolding bits
bits_length zero b = refl
bits_length (suc n) b = ap suc (bits_length n (b / 2))

differs_none : (b : Bool) → differs b false ≡ b
differs_none true = refl
differs_none false = refl

-- a zero added below is one coefficient more
plus_below : (xs : List Bool) → plus xs (replicate (suc (length xs)) false) ≡ xs ++ false ∷ []
unfolding plus
plus_below [] = refl
plus_below (x ∷ xs) = ap₂ (λ b l. b ∷ l) (differs_none x) (plus_below xs)

-- w divided on by as many coefficients as come after it
remainder_along : (w bs : List Bool) → length w ≤ length bs + 32
    → number (remainder (plus w (bs ++ replicate 32 false))) ≡ along_bits (number w) bs
unfolding DividesOn
remainder_along w bs h =
    let long : length (bs ++ replicate 32 false) ≡ length bs + 32 = length-append bs (replicate 32 false) in
    let size : length (plus w (bs ++ replicate 32 false)) ≡ length bs + 32 = plus_length w _ (omega arith) ∙ long in
    ap (λ n. number (divided n (plus w (bs ++ replicate 32 false)))) (omega arith) ∙ by_division bs w

pub step_by_step : claims.StepByStep
unfolding times_x along_bits
step_by_step r h =
    let below : plus (bits 32 r) (replicate 33 false) ≡ bits 32 r ++ false ∷ [] =
    ap (λ n. plus (bits 32 r) (replicate (suc n) false)) (sym (bits_length 32 r)) ∙ plus_below (bits 32 r) in
    ap (λ p. number (remainder p)) (sym below)
    ∙ remainder_along (bits 32 r) (false ∷ []) (omega (arith, bits_length 32 r))
    ∙ ap (λ x. step (bit_xor x 0)) (number_bits 32 r h)
    ∙ ap step (xor_zero_r r)

pub byte_along : (r b : ℕ) → r < 2 ^ 32 → taken_in r b ≡ along_bits r (bits 8 b)
unfolding taken_in
byte_along r b h =
    remainder_along (bits 32 r) (bits 8 b) (omega (arith, bits_length 32 r, bits_length 8 b))
    ∙ ap (λ x. along_bits x (bits 8 b)) (number_bits 32 r h)

pub byte_by_byte : claims.ByteByByte
byte_by_byte r b h k =
    byte_along r b h
    ∙ sym (steps_bits (bits 8 b) r)
    ∙ ap₂ (λ n x. steps n (bit_xor r x)) (bits_length 8 b) (number_bits 8 b k)
