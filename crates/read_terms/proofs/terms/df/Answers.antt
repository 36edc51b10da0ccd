use Rattle.std.proofs.lemmas.Result.{err_from_is_err_and}
use Rattle.std.specs.Prelude.{Ok}
use mathlib.Core.Path.{◌≡◌, sym, ◌∙◌}
use Rattle.segment.specs.Steps.{checked}
use Rattle.read_open.specs.Opened.{Opens}
use Rattle.read_open.proofs.Fitting.{own_fits}
use Rattle.calls.specs.Lookups.{well_named}
use Rattle.read_terms.proofs.Asking.{df_unnamed, df_shut, df_absent, df_found}
use Rattle.read_terms.proofs.terms.df.Goals as goal
use Rattle.read_terms.proofs.terms.df.Goals.{In_ok-at}

fine : (k : In_ok-at) → (Ok tt) ≡ checked (well_named k.args.name.now)
fine k = sym k.in_ok-check_name.was ∙ k.check_name.ensures

opens : (k : In_ok-at) → Opens k.args.bytes.now (Ok k.in_ok-at.at)
opens k = rw k.in_ok-at.was at k.open_layout.ensures

pub returns-in_err-check_name : goal.returns-in_err-check_name
returns-in_err-check_name c =
    let p = err_from_is_err_and c.from_residual.result c.from_residual.ensures.1 in
    rw (p.1, p.2) (df_unnamed _ _ (sym c.in_err-check_name.was ∙ c.check_name.ensures))

pub returns-in_err-at : goal.returns-in_err-at
returns-in_err-at c =
    let p = err_from_is_err_and c.from_residual-in_err-at.result c.from_residual-in_err-at.ensures.1 in
    rw (p.1, p.2)
    (df_shut _ _ (sym c.in_ok-check_name.was ∙ c.check_name.ensures) (rw c.in_err-at.was at c.open_layout.ensures))

pub find_term-requires : goal.find_term-requires
find_term-requires c = own_fits (opens c).2

pub returns-in-Some : goal.returns-in-Some
returns-in-Some c =
    let k = (goal.at.returns-in-Some c).In_ok-at in df_found _ _ (fine k) _ (opens k) _ (rw c.in-Some.is at c.find_term.ensures)

pub returns-in-None : goal.returns-in-None
returns-in-None c =
    let k = (goal.at.returns-in-None c).In_ok-at in df_absent _ _ (fine k) _ (opens k) (rw c.in-None.is at c.find_term.ensures)
