use Rattle.std.proofs.lemmas.Result.{err_from_is_err_and}
use Rattle.std.specs.Prelude.{Ok}
use mathlib.Core.Path.{ap, ◌∙◌}
use native.Mathlib.Omega.{arith}
use Rattle.read_terms.specs.Steps.{ListIsDecoded}
use Rattle.read_terms.proofs.Answering.{spots_many, docs_none, docs_stopped, docs_no_room, docs_filled}
use Rattle.read_terms.proofs.terms.docs_with_term.Goals as goal
use Rattle.read_terms.proofs.terms.docs_with_term.Goals.{In-Some}

decoded : (k : In-Some) → let list = k.in-Some.list in
    ListIsDecoded k.args.bytes.now k.args.name.now list.start list.df list.positions
decoded k = rw (k.in_ok-list.was ∙ ap Ok k.in-Some.is) at k.decode_term.ensures

pub returns-in_err-list : goal.returns-in_err-list
returns-in_err-list c =
    let p = err_from_is_err_and c.from_residual.result c.from_residual.ensures.1 in
    rw (p.1, p.2) (docs_stopped _ _ _ (rw c.in_err-list.was at c.decode_term.ensures))

pub returns-in_default : goal.returns-in_default
returns-in_default c = docs_none _ _ _ (rw (c.in_ok-list.was ∙ ap Ok c.in_default.is) at c.decode_term.ensures)

pub returns-then-ids-n : goal.returns-then-ids-n
returns-then-ids-n c = docs_no_room _ _ _ (decoded (goal.at.returns-then-ids-n c).In-Some) c.long-n.ensures c.if-ids-n.true

pub fill_docs-requires : goal.fill_docs-requires
fill_docs-requires c = omega (arith, spots_many (decoded (goal.at.fill_docs-requires c).In-Some))

pub returns : goal.returns
returns c = docs_filled _ _ _ (decoded (goal.at.returns c).In-Some) c.long-n.ensures c.if-ids-n.false c.fill_docs.ensures
