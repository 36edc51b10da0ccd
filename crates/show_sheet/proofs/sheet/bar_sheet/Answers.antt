use Rattle.std.specs.Prelude.{Ok}
use Rattle.std.proofs.lemmas.Result.{err_from_is_err_and}
use mathlib.Core.Path.{sym, ◌∙◌}
use Rattle.read_open.specs.Opened.{Opens}
use Rattle.show_sheet.proofs.Drawn.{sheet_shut, sheet_no_bar, sheet_drawable}
use Rattle.show_sheet.proofs.sheet.bar_sheet.Goals as goal
use Rattle.show_sheet.proofs.sheet.bar_sheet.Goals.{In_ok-at}

-- the layout that was answered
opens : (k : In_ok-at) → Opens k.args.bytes.now (Ok k.in_ok-at.at)
opens k = rw k.in_ok-at.was at k.open_layout.ensures

pub returns-in_err-at : goal.returns-in_err-at
returns-in_err-at c =
    let p = err_from_is_err_and c.from_residual.result c.from_residual.ensures.1 in
    rw (p.1, p.2) (sheet_shut _ _ _ (rw c.in_err-at.was at c.open_layout.ensures))

pub returns-in_err-bar : goal.returns-in_err-bar
returns-in_err-bar c =
    let p = err_from_is_err_and c.from_residual-in_err-bar.result c.from_residual-in_err-bar.ensures.1 in
    rw (p.1, p.2)
    (sheet_no_bar _ _ _ _ (opens (goal.at.returns-in_err-bar c).In_ok-at) (sym c.in_err-bar.was ∙ c.find_bar.ensures))

pub returns : goal.returns
returns c =
    sheet_drawable _ _ _ _ (opens (goal.at.returns c).In_ok-at) (sym c.in_ok-bar.was ∙ c.find_bar.ensures) c.draw.ensures
