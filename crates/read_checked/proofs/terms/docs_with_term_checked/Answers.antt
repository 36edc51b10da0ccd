use Rattle.std.proofs.lemmas.Result.{err_from_is_err_and}
use Rattle.std.specs.Prelude.{Ok, Some}
use mathlib.Core.Path.{ap, ◌∙◌}
use Rattle.handle.specs.Handles.{Usable}
use Rattle.read_checked.specs.Steps.{ListNamed}
use Rattle.read_checked.proofs.Answers.{docs_plain, docs_unnamed, docs_nowhere, docs_short, docs_fit, docs_listed}
use Rattle.read_checked.proofs.terms.docs_with_term_checked.Goals as goal
use Rattle.read_checked.proofs.terms.docs_with_term_checked.Goals.{Else-not-usable, In-Some}

-- The handle is used, and the list was found
used : (e : Else-not-usable) → let a = e.args in Usable a.bytes.now a.h
used e = e.usable.ensures.0 e.if-not-usable.false

listed : (k : In-Some) → let a = k.args in ListNamed a.bytes.now a.h a.name.now (Ok (Some k.in-Some.list))
listed k = rw (k.in_ok-list.was ∙ ap Ok k.in-Some.is) at k.named_list.ensures

pub returns-then-not-usable : goal.returns-then-not-usable
returns-then-not-usable c = docs_plain _ _ _ _ c.docs_with_term.ensures

pub returns-in_default : goal.returns-in_default
returns-in_default c =
    docs_nowhere _ _ _ _ (used (goal.at.returns-in_default c).Else-not-usable)
    (rw (c.in_ok-list.was ∙ ap Ok c.in_default.is) at c.named_list.ensures)

pub returns-in_err-list : goal.returns-in_err-list
returns-in_err-list c =
    let p = err_from_is_err_and c.from_residual.result c.from_residual.ensures.1 in
    rw (p.1, p.2)
    (docs_unnamed _ _ _ _ (used (goal.at.returns-in_err-list c).Else-not-usable) (rw c.in_err-list.was at c.named_list.ensures))

pub returns-then-ids-n : goal.returns-then-ids-n
returns-then-ids-n c =
    let g = goal.at.returns-then-ids-n c in
    docs_short _ _ _ _ (used g.Else-not-usable) _ (listed g.In-Some) c.long-n.ensures c.if-ids-n.true

pub fill_docs-requires : goal.fill_docs-requires
fill_docs-requires c =
    let g = goal.at.fill_docs-requires c in
    docs_fit _ _ _ c.args.ids.now (used g.Else-not-usable) _ (listed g.In-Some) c.long-n.ensures c.if-ids-n.false

pub returns : goal.returns
returns c =
    let g = goal.at.returns c in
    docs_listed _ _ _ _ (used g.Else-not-usable) _ (listed g.In-Some) c.long-n.ensures c.if-ids-n.false c.fill_docs.ensures
