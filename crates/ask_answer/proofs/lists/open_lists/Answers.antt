use native.Mathlib.Omega.{arith}
use lib.ListN.{length-set}
use Rattle.ask_answer.proofs.Walked.{heads_more}
use Rattle.ask_answer.proofs.lists.open_lists.Goals as goal

pub loop-k-preserved : goal.loop-k-preserved
loop-k-preserved c =
    let l = c.loop-k in
    (simp length-set l.invariant.0, heads_more _ _ l.k l.lists (omega arith) c.start.result c.start.ensures l.invariant.1)

pub returns : goal.returns
returns c = record { each = λ k h. c.loop-k.invariant.1.each k (omega arith) }
