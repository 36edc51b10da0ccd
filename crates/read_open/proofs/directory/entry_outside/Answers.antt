use native.Mathlib.Omega.{arith}
use Rattle.common.proofs.Loops.{true_false}
use Rattle.read_open.proofs.directory.entry_outside.Goals as goal

pub returns-then-names-end : goal.returns-then-names-end
returns-then-names-end c = (λ e. true_false e, λ f. absurd (omega arith))
