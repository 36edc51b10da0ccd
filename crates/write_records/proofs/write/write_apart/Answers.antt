-- A refusal of the two lent lists, or what the writer ensures.
use Rattle.std.proofs.lemmas.Result.{err_from_is_err_and}
use Rattle.write_records.proofs.Entered.{apart_refused, apart_wrote}
use Rattle.write_records.proofs.write.write_apart.Goals as goal

pub returns-in_err-check_places : goal.returns-in_err-check_places
returns-in_err-check_places c =
    let p = err_from_is_err_and c.from_residual.result c.from_residual.ensures.1 in
    rw (p.1, p.2) (apart_refused _ _ _ c.in_err-check_places.ensures)

pub returns : goal.returns
returns c = apart_wrote _ _ _ c.in_ok-check_places.ensures c.write_positional_segment.ensures
