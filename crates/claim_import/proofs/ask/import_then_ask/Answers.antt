-- What the importer and the writer with the search ensure, put together by proofs/Told.antt.
use Rattle.std.proofs.lemmas.Result.{err_from_is_err_and}
use Prim.Native.Nat.{◌≤◌}
use native.Mathlib.Omega.{arith}
use Rattle.claim_import.proofs.Told.{fronts_there, asked_promise, refused_promise}
use Rattle.claim_import.proofs.ask.import_then_ask.Goals as goal

-- a bar has a step
a_step : 1 ≤ 16
a_step = omega arith

pub ask_fronts-asked-requires : goal.ask_fronts-asked-requires
ask_fronts-asked-requires c = fronts_there _ _ _ _ a_step c.midi_bars.ensures c.in_ok-totals.was

pub returns : goal.returns
returns c =
    let a = c.args in
    asked_promise _ _ _ _ a_step c.midi_bars.ensures a.out.now a.name.now a.name_ends.now a.found.now
    c.in_ok-totals.was c.ask_fronts-asked.ensures

pub returns-in_err-totals : goal.returns-in_err-totals
returns-in_err-totals c =
    let p = err_from_is_err_and c.from_residual.result c.from_residual.ensures.1 in
    let a = c.args in
    rw (p.1, p.2)
    (refused_promise _ _ _ _ a_step c.midi_bars.ensures a.out.now a.name.now a.name_ends.now a.found.now c.in_err-totals.was)
