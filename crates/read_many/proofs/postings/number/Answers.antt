-- One byte here, or what the decoder finds.
use mathlib.Core.Path.{refl, sym}
use native.Mathlib.Omega.{arith}
use Rattle.read_many.proofs.Passing.{one_byte}
use Rattle.read_many.proofs.postings.number.Goals as goal

pub returns-then-value-lt128 : goal.returns-then-value-lt128
returns-then-value-lt128 c =
    sym (one_byte c.args.list.now c.args.at _ _ (omega arith) c.byte-value.ensures (omega arith) refl)
