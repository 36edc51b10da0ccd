use mathlib.Core.Path.{◌∙◌}
use native.Mathlib.Omega.{arith}
use Rattle.read_cursors.proofs.Seeks.{rest_none}
use Rattle.read_cursors.proofs.Entering.{positions_ahead, positions_past}
use Rattle.read_cursors.proofs.positions.Positions.advance.Goals as goal

pub returns-then-self-eq0 : goal.returns-then-self-eq0
returns-then-self-eq0 c =
    let a = c.args in
    let p = a.self in
    record { holds = rest_none (positions_ahead a.bytes.now p.remaining p.at p.pos.0) c.if-self-eq0.true; less = omega arith }

pub returns : goal.returns
returns c =
    let a = c.args in
    let p = a.self in
    record {
      holds = c.enter.ensures.holds ∙ positions_past a.bytes.now p.remaining p.at p.pos.0 c.if-self-eq0.false;
      less = c.enter.ensures.less;
    }
