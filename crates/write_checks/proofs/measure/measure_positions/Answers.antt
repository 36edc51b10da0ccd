-- Where a position does not pass, the whole does not.
use Rattle.std.specs.Prelude.{None}
use Rattle.std.proofs.lemmas.Result.{err_from_is_err_and}
use Rattle.calls.specs.Checks.{check_positions}
use Rattle.write_checks.proofs.Checking.{positions_stop}
use Rattle.write_checks.proofs.Measuring.{measure_stops}
use Rattle.write_checks.proofs.measure.measure_positions.Goals as goal

pub returns-in_err-check_position : goal.returns-in_err-check_position
returns-in_err-check_position c =
    let a = c.args in
    let p = err_from_is_err_and c.from_residual.result c.from_residual.ensures.1 in
    rw (p.1, p.2)
    (measure_stops (check_positions a.len None a.positions.now) _
    (positions_stop a.len a.positions.now c.loop-position.position-index _ c.loop-position.invariant.0
    c.loop-position-test.true c.in_err-check_position.ensures))
