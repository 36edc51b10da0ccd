use Rattle.read_many.proofs.Passing.{placing_start, placing_next, placing_end}
use native.Mathlib.Omega.{arith}
use mathlib.Core.Path.{sym, ◌∙◌}
use Rattle.read_many.proofs.postings.past_gaps.Goals as goal
use Rattle.read_many.proofs.postings.past_gaps.Goals.{else-gap-eq0-via-then-gap-eq0+else-i-gt0, else-gap-eq0-via-else-gap-eq0}

pub loop-i-init : goal.loop-i-init
loop-i-init c = placing_start _ _ _ _

pub loop-i-preserved : goal.loop-i-preserved
loop-i-preserved c =
    let w = c.wide-last.ensures in
    placing_next c.loop-i.invariant _ (omega (arith, w)) (omega arith) (omega arith) (sym c.number.ensures ∙ c.in_ok-gap.was)
    (omega (arith, c.if-wide-last.false, c.wide.ensures))
    (λ k. grind (arith, c.else-gap-eq0.either))

pub returns : goal.returns
returns c = placing_end c.loop-i.invariant (omega arith)
