-- The last posting, or one before it and the gap of the next.
use mathlib.Core.Path.{sym, ◌∙◌}
use native.Mathlib.Omega.{arith}
use Rattle.read_many.proofs.Passing.{stepped_last, stepped_on}
use Rattle.read_many.proofs.postings.past_posting_each.Goals as goal

pub returns-then-from-eq1 : goal.returns-then-from-eq1
returns-then-from-eq1 c =
    let a = c.args in
    stepped_last a.list.now a.len a.from _ (omega arith) c.in_ok-past.ensures

pub returns : goal.returns
returns c =
    let a = c.args in
    stepped_on a.list.now a.len a.from c.in_ok-past.past (omega (arith, c.requires, c.if-from-eq1.false)) c.in_ok-past.ensures
    (sym c.number.ensures ∙ c.in_ok-gap.was) (omega (arith, c.if-gap-eq0.false)) (omega (arith, c.if-from-gap.false))
