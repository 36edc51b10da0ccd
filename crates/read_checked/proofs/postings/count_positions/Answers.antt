use native.Mathlib.Omega.{arith}
use Rattle.read_checked.proofs.Counting.{counts_next, counts_end}
use Rattle.read_checked.proofs.postings.count_positions.Goals as goal

pub loop-c-preserved : goal.loop-c-preserved
loop-c-preserved c =
    let i = c.loop-c.invariant in (
      counts_next _ _ _ _ _ _ i.0 c.loop-c-test.true c.advance-c.ensures.holds c.long-total.ensures,
      omega (arith, i.1, c.loop-c-test.true, c.advance-c.ensures.less, c.long-total.ensures),
    )

pub returns : goal.returns
returns c = counts_end _ _ _ _ _ _ c.loop-c.invariant.0 c.loop-c-test.false
