use native.Mathlib.Omega.{arith}
use Rattle.read_many.proofs.Entries.{filling_next}
use Rattle.read_many.proofs.lengths.fill_block.Goals as goal

pub loop-c-preserved : goal.loop-c-preserved
loop-c-preserved c =
    filling_next c.loop-c.invariant _ _ (omega arith) c.entry_of.ensures (omega arith) c.advance-c.ensures
