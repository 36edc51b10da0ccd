use mathlib.Core.Path.{sym}
use native.Mathlib.Omega.{arith}
use Rattle.common.proofs.Loops.{true_false}
use Rattle.read_cursors.proofs.Words.{tested}
use Rattle.read_cursors.proofs.singles.all_single.Goals as goal

pub returns-then-count-eq0 : goal.returns-then-count-eq0
returns-then-count-eq0 c = λ e. true_false (sym e)

pub returns-then-count-gt8 : goal.returns-then-count-gt8
returns-then-count-gt8 c = λ e. true_false (sym e)

pub returns-then-list-at : goal.returns-then-list-at
returns-then-list-at c = λ e. true_false (sym e)

pub returns-then-list-at-lt8 : goal.returns-then-list-at-lt8
returns-then-list-at-lt8 c = λ e. true_false (sym e)

pub returns : goal.returns
returns c =
    let a = c.args in
    tested a.list.now a.at (λ i. omega (arith, c.type_inv.list i)) (omega arith) a.count (omega arith) (omega arith)
    _ (omega arith) c.read_usize_at-word.result c.read_usize_at-word.ensures
