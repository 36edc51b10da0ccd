use Rattle.std.proofs.lemmas.Result.{err_from_is_err_and}
use Rattle.std.specs.Prelude.{Ok}
use mathlib.Core.Path.{◌≡◌, sym, ◌∙◌}
use Rattle.segment.specs.Steps.{checked}
use Rattle.calls.specs.Lookups.{well_named}
use Rattle.handle.specs.Handles.{Usable}
use Rattle.read_checked.proofs.Answers.{df_badly, df_nowhere, df_stored}
use Rattle.read_checked.proofs.terms.df_checked.Goals as goal
use Rattle.read_checked.proofs.terms.df_checked.Goals.{Else-not-usable, In_ok-check_name}

-- The handle is used, and the name is fine
used : (e : Else-not-usable) → let a = e.args in Usable a.bytes.now a.h
used e = e.usable.ensures.0 e.if-not-usable.false

fine : (k : In_ok-check_name) → Ok tt ≡ checked (well_named k.args.name.now)
fine k = sym k.in_ok-check_name.was ∙ k.check_name.ensures

pub returns-in_err-check_name : goal.returns-in_err-check_name
returns-in_err-check_name c =
    let p = err_from_is_err_and c.from_residual.result c.from_residual.ensures.1 in
    rw (p.1, p.2) (df_badly _ _ _ (sym c.in_err-check_name.was ∙ c.check_name.ensures))

pub returns-in-Some : goal.returns-in-Some
returns-in-Some c =
    let g = goal.at.returns-in-Some c in
    df_stored _ _ _ (used g.Else-not-usable) (fine g.In_ok-check_name) _ (rw (c.in-Some.is, c.layout_of.ensures) at c.find_term.ensures)

pub returns-in-None : goal.returns-in-None
returns-in-None c =
    let g = goal.at.returns-in-None c in
    df_nowhere _ _ _ (used g.Else-not-usable) (fine g.In_ok-check_name) (rw (c.in-None.is, c.layout_of.ensures) at c.find_term.ensures)
