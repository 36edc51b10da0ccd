use Rattle.segment.proofs.Ends.{fit_next, fit_not, fit_end}
use Rattle.segment.proofs.texts.ends_fit.Goals as goal

pub returns-then-end-from : goal.returns-then-end-from
returns-then-end-from c = fit_not _ _ _ _ c.loop-end.invariant c.loop-end-test.true c.if-end-from.true

pub loop-end-preserved : goal.loop-end-preserved
loop-end-preserved c = fit_next _ _ _ _ c.loop-end.invariant c.loop-end-test.true c.if-end-from.false

pub returns : goal.returns
returns c = rw c.long.ensures (fit_end _ _ _ _ c.loop-end.invariant c.loop-end-test.false)
