use mathlib.Core.Path.{sym, ◌∙◌}
use native.Mathlib.Omega.{arith}
use lib.ListN.{length-set}
use Rattle.read_many.proofs.Cursors.{entered_next}
use Rattle.read_many.proofs.lists.enter_lists.Goals as goal

pub loop-k-preserved : goal.loop-k-preserved
loop-k-preserved c = (
  simp length-set c.loop-k.invariant.0,
  entered_next c.loop-k.invariant.1 (omega arith) (omega arith) (omega arith) (sym c.number.ensures ∙ c.in-Some.is),
)
