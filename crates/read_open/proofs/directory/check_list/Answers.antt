use Rattle.std.proofs.lemmas.Result.{err_from_is_err_and}
use Rattle.read_open.proofs.Checks.{list_lost, list_empty, list_fine}
use Rattle.read_open.proofs.directory.check_list.Goals as goal

pub returns-in_err-checked_range : goal.returns-in_err-checked_range
returns-in_err-checked_range c =
    let p = err_from_is_err_and c.from_residual.result c.from_residual.ensures.1 in
    rw (p.1, p.2)
    (list_lost _ _ c.read_usize_at-from.ensures c.read_usize_at-size.ensures c.checked_range.ensures c.in_err-checked_range.was)

pub returns-then-read_u32_at-eq0 : goal.returns-then-read_u32_at-eq0
returns-then-read_u32_at-eq0 c =
    list_empty _ _ c.read_usize_at-from.ensures c.read_usize_at-size.ensures c.checked_range.ensures c.in_ok-checked_range.was
    c.read_u32_at.ensures c.if-read_u32_at-eq0.true

pub returns : goal.returns
returns c =
    list_fine _ _ c.read_usize_at-from.ensures c.read_usize_at-size.ensures c.checked_range.ensures c.in_ok-checked_range.was
    c.read_u32_at.ensures c.if-read_u32_at-eq0.false
