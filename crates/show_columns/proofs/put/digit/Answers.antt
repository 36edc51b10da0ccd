use borrow.Author.Tests.{ne_eqb}
use Rattle.show_columns.proofs.put.digit.Goals as goal

pub returns-then-rest-eq0 : goal.returns-then-rest-eq0
returns-then-rest-eq0 c = rw c.if-rest-eq0.true

pub returns : goal.returns
returns c = rw (ne_eqb c.args.rest 0 c.if-rest-eq0.false)
