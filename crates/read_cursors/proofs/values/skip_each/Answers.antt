use mathlib.Core.Path.{sym, ◌∙◌}
use native.Mathlib.Omega.{arith}
use Rattle.read_cursors.proofs.Gaps.{skip_next, skip_stop, skip_end}
use Rattle.read_cursors.proofs.values.skip_each.Goals as goal

pub returns-in_default : goal.returns-in_default
returns-in_default c =
    let l = c.loop in
    skip_stop c.args.list.now _ _ l.reader.at l.invariant (omega arith) (sym c.decode_u32.ensures ∙ c.in_default.is)

pub loop-preserved : goal.loop-preserved
loop-preserved c =
    let l = c.loop in
    skip_next c.args.list.now _ _ l.reader.at l.invariant (omega arith) (sym c.decode_u32.ensures ∙ c.in-Some.is)

pub returns : goal.returns
returns c =
    let l = c.loop in skip_end c.args.list.now _ _ l.reader.at l.invariant (omega arith)
