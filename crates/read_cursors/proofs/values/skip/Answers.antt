-- Numbers of one byte each are skipped at once; all others one by one.
use native.Mathlib.Omega.{arith}
use borrow.Author.Rules.{rules}
use Rattle.read_cursors.specs.Singles.{Singles}
use Rattle.read_cursors.proofs.SingleNumbers.{singles_skipped}
use Rattle.read_cursors.proofs.values.skip.Goals as goal
use Rattle.read_cursors.proofs.values.skip.Goals.{Then-all_single}

-- what the word told
ones : (c : Then-all_single) → let a = c.args in
    Singles a.list.now a.from.at c.long-n.result
ones c = c.all_single.ensures c.if-all_single.true

pub overflow_add-result : goal.overflow_add-result
overflow_add-result c = search (rules, (ones (goal.at.overflow_add-result c).Then-all_single).room)

pub returns-then-all_single : goal.returns-then-all_single
returns-then-all_single c =
    let a = c.args in
    rw (← c.long-n.ensures)
    (singles_skipped a.list.now a.from.at c.long-n.result (ones (goal.at.returns-then-all_single c).Then-all_single) c.long-n.result (omega arith))
