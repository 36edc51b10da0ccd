use Rattle.std.proofs.lemmas.Result.{err_from_is_err_and}
use Rattle.std.specs.Prelude.{Ok, Some}
use mathlib.Core.Path.{◌≡◌, sym, ◌∙◌}
use Rattle.segment.specs.Steps.{checked}
use Rattle.read_open.specs.Opened.{Opens}
use Rattle.read_open.proofs.Fitting.{own_fits}
use Rattle.calls.specs.Lookups.{well_named}
use Rattle.read_terms.specs.Steps.{TermIsFound}
use Rattle.read_terms.proofs.Asking.{list_unnamed, list_shut, list_absent, list_decoded, list_refused}
use Rattle.read_terms.proofs.terms.decode_term.Goals as goal
use Rattle.read_terms.proofs.terms.decode_term.Goals.{In_ok-at, In-Some}

fine : (k : In_ok-at) → (Ok tt) ≡ checked (well_named k.args.name.now)
fine k = sym k.in_ok-check_name.was ∙ k.check_name.ensures

opens : (k : In_ok-at) → Opens k.args.bytes.now (Ok k.in_ok-at.at)
opens k = rw k.in_ok-at.was at k.open_layout.ensures

found_list : (d : In-Some) → TermIsFound d.args.bytes.now d.in_ok-at.at d.args.name.now (Some d.in-Some.list)
found_list d = rw d.in-Some.is at d.find_term.ensures

pub returns-in_err-check_name : goal.returns-in_err-check_name
returns-in_err-check_name c =
    let p = err_from_is_err_and c.from_residual.result c.from_residual.ensures.1 in
    rw (p.1, p.2) (list_unnamed _ _ (sym c.in_err-check_name.was ∙ c.check_name.ensures))

pub returns-in_err-at : goal.returns-in_err-at
returns-in_err-at c =
    let p = err_from_is_err_and c.from_residual-in_err-at.result c.from_residual-in_err-at.ensures.1 in
    rw (p.1, p.2)
    (list_shut _ _ (sym c.in_ok-check_name.was ∙ c.check_name.ensures) (rw c.in_err-at.was at c.open_layout.ensures))

pub find_term-requires : goal.find_term-requires
find_term-requires c = own_fits (opens c).2

pub returns-in_default : goal.returns-in_default
returns-in_default c =
    let k = (goal.at.returns-in_default c).In_ok-at in
    list_absent _ _ (fine k) _ (opens k) (rw c.in_default.is at c.find_term.ensures)

pub decode_postings-requires : goal.decode_postings-requires
decode_postings-requires c = ((opens (goal.at.decode_postings-requires c).In_ok-at).2.ordered, (found_list c).0)

pub returns-in_err-positions : goal.returns-in_err-positions
returns-in_err-positions c =
    let g = goal.at.returns-in_err-positions c in
    let p = err_from_is_err_and c.from_residual-in_err-positions.result c.from_residual-in_err-positions.ensures.1 in
    rw (p.1, p.2)
    (list_refused _ _ (fine g.In_ok-at) _ (opens g.In_ok-at) _ (found_list g.In-Some) c.decode_postings.ensures c.in_err-positions.was)

pub returns : goal.returns
returns c =
    let g = goal.at.returns c in
    list_decoded _ _ (fine g.In_ok-at) _ (opens g.In_ok-at) _ (found_list g.In-Some) c.decode_postings.ensures c.in_ok-positions.was
