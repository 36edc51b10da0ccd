use Rattle.std.proofs.lemmas.Result.{err_from_is_err_and}
use Rattle.read_open.proofs.Openings.{opened_counts, opened_refused}
use Rattle.read_open.proofs.open_segment.open.Goals as goal

pub returns-in_err-at : goal.returns-in_err-at
returns-in_err-at c =
    let p = err_from_is_err_and c.from_residual.result c.from_residual.ensures.1 in
    rw (p.1, p.2) (opened_refused _ c.open_layout.ensures c.in_err-at.was)

pub returns : goal.returns
returns c = opened_counts _ c.open_layout.ensures c.in_ok-at.was
