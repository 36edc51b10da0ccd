use mathlib.Core.Path.{◌≡◌, sym, ap, ◌∙◌}
use Prim.Native.Nat.{ℕ, ◌/◌, ◌%◌, ◌^◌, ◌<◌}
use native.Mathlib.Omega.{arith}
use lib.Bits.{bit_xor, and_mask, xor_zero_r}
use Rattle.crc32.specs.Parts.{times_x}
use Rattle.crc32.specs.Formula.{polynomial_if, step}
use Rattle.crc32.proofs.Parts.{step_by_step}
use Rattle.crc32.proofs.checksum.step.Goals as goal

-- the bit that is shifted out decides
by_bit : (r o : ℕ) → r < 2 ^ 32 → r % 2 ≡ o → bit_xor (r / 2) (polynomial_if o) ≡ times_x r
unfolding step
by_bit r o h out = ap (λ (o : ℕ). bit_xor (r / 2) (polynomial_if o)) (sym out) ∙ sym (step_by_step r h)

pub returns-then-remainder-eq1 : goal.returns-then-remainder-eq1
returns-then-remainder-eq1 c =
    let r = c.args.remainder in
    by_bit r 1 (omega arith) (omega (arith, and_mask r 1, c.if-remainder-eq1.true))

pub returns : goal.returns
returns c =
    let r = c.args.remainder in
    sym (xor_zero_r (r / 2)) ∙ by_bit r 0 (omega arith) (omega (arith, and_mask r 1, c.if-remainder-eq1.false))
