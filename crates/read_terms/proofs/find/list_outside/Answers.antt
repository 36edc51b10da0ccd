use mathlib.Core.Path.{refl}
use native.Mathlib.Omega.{arith}
use Rattle.common.proofs.Loops.{true_false}
use Rattle.read_terms.proofs.Finding.{lies, lies_not}
use Rattle.read_terms.proofs.find.list_outside.Goals as goal

pub returns-then-room-from : goal.returns-then-room-from
returns-then-room-from c = (
  λ e. true_false e,
  λ q. absurd (lies_not c.requires.0 c.args.i c.requires.1 c.read_usize_at-from.ensures c.read_usize_at-size.ensures (omega arith) q),
)

pub returns-then-room-from-2 : goal.returns-then-room-from-2
returns-then-room-from-2 c = (
  λ e. true_false e,
  λ q. absurd (lies_not c.requires.0 c.args.i c.requires.1 c.read_usize_at-from.ensures c.read_usize_at-size.ensures (omega arith) q),
)

pub returns : goal.returns
returns c = (
  λ e. lies c.requires.0 c.args.i c.requires.1 c.read_usize_at-from.ensures c.read_usize_at-size.ensures (omega arith),
  λ q. refl,
)
