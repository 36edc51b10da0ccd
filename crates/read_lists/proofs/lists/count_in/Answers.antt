use native.Mathlib.Omega.{arith}
use borrow.Author.Tests.{eq-eqb, ne_eqb}
use Rattle.read_lists.proofs.lists.count_in.Goals as goal

pub returns-then-posting-doc : goal.returns-then-posting-doc
returns-then-posting-doc c = let a = c.args in rw (ne_eqb a.posting.0 a.doc.0 (λ e. omega arith))

pub returns : goal.returns
returns c = let a = c.args in rw (eq-eqb a.posting.0 a.doc.0 (omega arith))
