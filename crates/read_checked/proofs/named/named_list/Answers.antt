use Rattle.std.proofs.lemmas.Result.{err_from_is_err_and}
use Rattle.std.specs.Prelude.{Ok, Some}
use mathlib.Core.Path.{◌≡◌, sym, ◌∙◌}
use Rattle.segment.specs.Steps.{checked}
use Rattle.calls.specs.Lookups.{well_named}
use Rattle.read_terms.specs.Steps.{TermIsFound}
use Rattle.handle.specs.Handles.{layout_of}
use Rattle.read_checked.proofs.Own.{named_badly, named_nowhere, named_sure, named_decoded, named_refused}
use Rattle.read_checked.proofs.named.named_list.Goals as goal
use Rattle.read_checked.proofs.named.named_list.Goals.{In-Some, In_ok-check_name}

fine : (k : In_ok-check_name) → Ok tt ≡ checked (well_named k.args.name.now)
fine k = sym k.in_ok-check_name.was ∙ k.check_name.ensures

listed : (k : In-Some) → let a = k.args in
    TermIsFound a.bytes.now (layout_of a.h) a.name.now (Some k.in-Some.list)
listed k = rw (k.in-Some.is, k.layout_of-at.ensures) at k.find_term.ensures

pub returns-in_err-check_name : goal.returns-in_err-check_name
returns-in_err-check_name c =
    let p = err_from_is_err_and c.from_residual.result c.from_residual.ensures.1 in
    rw (p.1, p.2) (named_badly _ _ _ (sym c.in_err-check_name.was ∙ c.check_name.ensures))

pub returns-in_default : goal.returns-in_default
returns-in_default c =
    named_nowhere _ _ _ (fine (goal.at.returns-in_default c).In_ok-check_name)
    (rw (c.in_default.is, c.layout_of-at.ensures) at c.find_term.ensures)

pub returns-in_err-decode_postings : goal.returns-in_err-decode_postings
returns-in_err-decode_postings c =
    let g = goal.at.returns-in_err-decode_postings c in
    let p = err_from_is_err_and c.from_residual-in_err-decode_postings.result c.from_residual-in_err-decode_postings.ensures.1 in
    rw (p.1, p.2)
    (named_refused _ _ _ (fine g.In_ok-check_name) _ (listed g.In-Some) (rw c.layout_of-at.ensures at c.decode_postings.ensures)
    c.in_err-decode_postings.was)

pub returns-in_ok-decode_postings : goal.returns-in_ok-decode_postings
returns-in_ok-decode_postings c =
    let g = goal.at.returns-in_ok-decode_postings c in
    named_decoded _ _ _ (fine g.In_ok-check_name) _ (listed g.In-Some) (rw c.layout_of-at.ensures at c.decode_postings.ensures)
    c.in_ok-decode_postings.was

pub returns-else-h-ne2 : goal.returns-else-h-ne2
returns-else-h-ne2 c =
    let g = goal.at.returns-else-h-ne2 c in
    named_sure _ _ _ (fine g.In_ok-check_name) _ (listed g.In-Some) c.if-h-ne2.false
