use mathlib.Core.Path.{sym}
use Rattle.common.proofs.Loops.{true_false}
use Rattle.std.proofs.Common.{below_more}
use native.Mathlib.Omega.{arith}
use Rattle.read_terms.proofs.together.sums_match.Goals as goal

pub returns-then-not-sum_matches : goal.returns-then-not-sum_matches
returns-then-not-sum_matches c = λ e. true_false (sym e)

pub loop-list-preserved : goal.loop-list-preserved
loop-list-preserved c = below_more _ _ c.loop-list.invariant (c.sum_matches.ensures c.if-not-sum_matches.false)

pub returns : goal.returns
returns c = λ e. record { each = λ k h. c.loop-list.invariant k (omega arith) }
