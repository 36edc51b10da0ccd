-- The first range by one octet, and the others from the next place on.
use mathlib.Core.Path.{◌∙◌}
use native.Mathlib.Omega.{arith}
use Rattle.utf8.proofs.Ranges.{within, joined, apart}
use Rattle.utf8.proofs.characters.two.Goals as goal

pub overflow_add-at : goal.overflow_add-at
overflow_add-at c =
    let a = c.args in
    omega (arith, within _ a.s.now a.at c.one.ensures c.if-one.true)

pub returns-then-one : goal.returns-then-one
returns-then-one c =
    let a = c.args in
    joined _ a.s.now a.at c.one.ensures _ c.if-one.true c.one-then-one.ensures

pub returns-else-one : goal.returns-else-one
returns-else-one c =
    let a = c.args in
    c.if-one.false ∙ apart _ a.s.now a.at c.one.ensures _ c.if-one.false
