use mathlib.Core.Path.{◌≡◌}
use native.Mathlib.Omega.{arith}
use Rattle.segment.specs.Steps.{id_of}
use Rattle.read_lists.proofs.Nearer.{peeked_value, peeked_none}
use Rattle.read_lists.proofs.marks.peek.Goals as goal
use Rattle.read_lists.proofs.marks.peek.Goals.{After-map}

-- the number of the id before
before : (c : After-map) → c.map.result ≡ id_of c.args.previous
before c = grind arith

pub returns-in-Ok : goal.returns-in-Ok
returns-in-Ok c = rw (← before (goal.at.returns-in-Ok c).After-map) (peeked_value c.read_value-value.ensures c.in-Ok.is)

pub returns-in-Err : goal.returns-in-Err
returns-in-Err c = rw (← before (goal.at.returns-in-Err c).After-map) (peeked_none c.read_value-value.ensures c.in-Err.is)
