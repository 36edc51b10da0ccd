use Rattle.std.proofs.lemmas.Result.{err_from_is_err_and}
use mathlib.Core.Path.{sym, ◌∙◌}
use Rattle.read_open.proofs.Openings.{bad_directory, bad_names, bad_metadata, then_lists}
use Rattle.read_open.proofs.open_segment.check_sections.Goals as goal

pub returns-in_err-check_crc : goal.returns-in_err-check_crc
returns-in_err-check_crc c =
    let p = err_from_is_err_and c.from_residual.result c.from_residual.ensures.1 in
    rw (p.1, p.2) (bad_directory _ _ (sym c.in_err-check_crc.was ∙ c.check_crc.ensures))

pub returns-in_err-check_crc-2 : goal.returns-in_err-check_crc-2
returns-in_err-check_crc-2 c =
    let p = err_from_is_err_and c.from_residual-in_err-check_crc-2.result c.from_residual-in_err-check_crc-2.ensures.1 in
    rw (p.1, p.2)
    (bad_names _ _ (sym c.in_ok-check_crc.was ∙ c.check_crc.ensures) (sym c.in_err-check_crc-2.was ∙ c.check_crc-2.ensures))

pub returns-in_err-check_crc-3 : goal.returns-in_err-check_crc-3
returns-in_err-check_crc-3 c =
    let p = err_from_is_err_and c.from_residual-in_err-check_crc-3.result c.from_residual-in_err-check_crc-3.ensures.1 in
    rw (p.1, p.2)
    (bad_metadata _ _ (sym c.in_ok-check_crc.was ∙ c.check_crc.ensures) (sym c.in_ok-check_crc-2.was ∙ c.check_crc-2.ensures)
    (sym c.in_err-check_crc-3.was ∙ c.check_crc-3.ensures))

pub returns : goal.returns
returns c =
    then_lists _ _ (sym c.in_ok-check_crc.was ∙ c.check_crc.ensures) (sym c.in_ok-check_crc-2.was ∙ c.check_crc-2.ensures)
    (sym c.in_ok-check_crc-3.was ∙ c.check_crc-3.ensures) c.check_crc-4.ensures
