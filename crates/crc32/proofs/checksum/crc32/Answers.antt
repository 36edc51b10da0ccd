use mathlib.Core.Path.{sym, ap, ◌∙◌}
use Prim.Native.Nat.{ℕ, ◌+◌}
use native.Mathlib.Omega.{arith}
use lib.Bits.{bit_xor}
use lib.ListN.{drop, get_or}
use Rattle.crc32.specs.Formula.{along}
use Rattle.crc32.proofs.Registers.{next, done}
use Rattle.crc32.proofs.Division.{formula_agrees}
use Rattle.crc32.proofs.Parts.{byte_by_byte}
use Rattle.crc32.proofs.checksum.crc32.Goals as goal

pub loop-next-preserved : goal.loop-next-preserved
loop-next-preserved c =
    let l = c.loop-next in
    let s = c.args.s.now in (
      omega arith,
      ap (λ x. along x (drop (l.next-index + 1) s))
          (c.update-remainder.ensures
          ∙ byte_by_byte l.remainder (get_or s l.next-index 0) (omega arith) (omega (arith, c.type_inv.s l.next-index)))
          ∙ next s l.next-index l.remainder (omega arith)
          ∙ l.invariant.1,
    )

pub returns : goal.returns
returns c =
    let l = c.loop-next in
    let s = c.args.s.now in
    ap (λ (x : ℕ). bit_xor x 0xFFFFFFFF) (sym (done s l.next-index l.remainder (omega arith)) ∙ l.invariant.1)
    ∙ formula_agrees s (λ i. omega (arith, c.type_inv.s i))
