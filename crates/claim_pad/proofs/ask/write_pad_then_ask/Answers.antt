-- What writing out and the search ensure, put together by proofs/Told.antt.
use Rattle.std.proofs.lemmas.Result.{err_from_is_err_and}
use Prim.Native.Nat.{◌^◌}
use native.Mathlib.Omega.{arith}
use Rattle.roundtrip.specs.Claims.{Below}
use Rattle.claim_pad.proofs.Told.{refused_claim, written_fits, asked_claimed}
use Rattle.claim_pad.proofs.ask.write_pad_then_ask.Goals as goal
use Rattle.claim_pad.proofs.ask.write_pad_then_ask.Goals.{After-pad_write}

low : (c : After-pad_write) → Below (2 ^ 32) c.args.pad.now
low c i = omega (arith, c.type_inv.pad i)

low_text : (c : After-pad_write) → Below 256 c.args.text.now
low_text c i = omega (arith, c.type_inv.text i)

-- the slice has the bytes that were written
pub slice_bounds-phrase_match_strs-end : goal.slice_bounds-phrase_match_strs-end
slice_bounds-phrase_match_strs-end c =
    let a = c.args in
    omega (
      arith,
      written_fits a.pad.now a.text.now a.ends.now a.out.now c.pad_write.ensures c.in_ok-written.was
          (low (goal.at.slice_bounds-phrase_match_strs-end c).After-pad_write)
          (low_text (goal.at.slice_bounds-phrase_match_strs-end c).After-pad_write),
    )

pub returns : goal.returns
returns c =
    let a = c.args in
    asked_claimed a.pad.now a.text.now a.ends.now a.out.now c.pad_write.ensures c.in_ok-written.was
    (low (goal.at.returns c).After-pad_write)
    (low_text (goal.at.returns c).After-pad_write) a.name.now a.name_ends.now a.found.now c.phrase_match_strs-answer.ensures

pub returns-in_err-written : goal.returns-in_err-written
returns-in_err-written c =
    let p = err_from_is_err_and c.from_residual.result c.from_residual.ensures.1 in
    let a = c.args in
    rw (p.1, p.2)
    (refused_claim a.pad.now a.text.now a.ends.now a.out.now c.pad_write.ensures c.in_err-written.was
    a.name.now a.name_ends.now a.found.now)
