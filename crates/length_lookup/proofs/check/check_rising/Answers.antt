use Rattle.length_lookup.proofs.Checking.{ids_start, ids_next, ids_stop, ids_end}
use Rattle.length_lookup.proofs.check.check_rising.Goals as goal

pub loop-i-init : goal.loop-i-init
loop-i-init c = ids_start c.args.ids.now

pub returns-then-here-before : goal.returns-then-here-before
returns-then-here-before c =
    let ids = c.args.ids.now in
    ids_stop ids c.loop-i.i _ c.loop-i.invariant c.loop-i-test.true c.if-here-before.true

pub loop-i-preserved : goal.loop-i-preserved
loop-i-preserved c =
    let ids = c.args.ids.now in
    ids_next ids c.loop-i.i _ c.loop-i.invariant c.loop-i-test.true c.if-here-before.false

pub returns : goal.returns
returns c = ids_end _ _ _ c.loop-i.invariant c.loop-i-test.false
