use mathlib.Core.Path.{◌≡◌, sym, ap, ◌∙◌}
use Prim.Native.Nat.{◌+◌, ◌-◌}
use native.Mathlib.Omega.{arith}
use Rattle.crc32.specs.Formula.{steps}
use Rattle.crc32.proofs.Registers.{steps_next}
use Rattle.crc32.proofs.Parts.{step_by_step, byte_by_byte}
use Rattle.crc32.proofs.checksum.update.Goals as goal

pub loop-preserved : goal.loop-preserved
loop-preserved c =
    let l = c.loop in (
      omega arith,
      ap (λ r. steps (8 - (l.counter + 1)) r) (c.step-remainder.ensures ∙ step_by_step l.remainder (omega arith))
          ∙ steps_next 8 l.counter l.remainder (omega arith)
          ∙ l.invariant.1,
    )

pub returns : goal.returns
unfolding steps
returns c =
    let l = c.loop in
    let a = c.args in
    let none : 0 ≡ 8 - l.counter = omega arith in
    ap (λ n. steps n l.remainder) none ∙ l.invariant.1 ∙ sym (byte_by_byte a.prior a.next (omega arith) (omega arith))
