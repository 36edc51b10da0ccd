-- What the writer and the sheet ensure, put together by proofs/Claimed.antt.
use Rattle.std.proofs.lemmas.Result.{err_from_is_err_and}
use mathlib.Core.Path.{refl}
use native.Mathlib.Omega.{arith}
use lib.Seq.{length-take-le}
use borrow.Author.Rules.{rules}
use Rattle.calls.specs.Given.{Lists, lists}
use Rattle.roundtrip.specs.Claims.{Typed}
use Rattle.claim_joint.proofs.Claimed.{wrote_bytes, promised, bytes_fit}
use Rattle.claim_shown.proofs.Claimed.{shown_claim, out_alone}
use Rattle.claim_shown.proofs.show.write_then_show.Goals as goal
use Rattle.claim_shown.proofs.show.write_then_show.Goals.{After-write_positional_segment}

abbrev handed_in : After-write_positional_segment → Lists
handed_in c =
    let a = c.args in
    lists a.ids.now a.lengths.now a.text.now a.ends.now
    a.posting_counts.now a.posting_ids.now a.position_counts.now a.positions.now

typed : (c : After-write_positional_segment) → Typed (handed_in c)
typed c =
    record {
      ids = λ i. omega (arith, c.type_inv.ids i);
      lengths = λ i. omega (arith, c.type_inv.lengths i);
      text = λ i. omega (arith, c.type_inv.text i);
      ends = λ i. omega (arith, c.type_inv.ends i);
      posting_counts = λ i. omega (arith, c.type_inv.posting_counts i);
      posting_ids = λ i. omega (arith, c.type_inv.posting_ids i);
      position_counts = λ i. omega (arith, c.type_inv.position_counts i);
      positions = λ i. omega (arith, c.type_inv.positions i);
    }

-- the slice has the bytes that were written
pub slice_bounds-bar_sheet-end : goal.slice_bounds-bar_sheet-end
slice_bounds-bar_sheet-end c =
    let out = c.args.out.now in
    let wrote = wrote_bytes (handed_in (goal.at.slice_bounds-bar_sheet-end c).After-write_positional_segment) out c.write_positional_segment.ensures c.in_ok-written.was in
    omega (arith, bytes_fit (handed_in (goal.at.slice_bounds-bar_sheet-end c).After-write_positional_segment) out (typed (goal.at.slice_bounds-bar_sheet-end c).After-write_positional_segment) wrote)

pub returns : goal.returns
returns c =
    let a = c.args in
    record {
      claim =
          shown_claim (handed_in (goal.at.returns c).After-write_positional_segment) a.out.now (typed (goal.at.returns c).After-write_positional_segment)
          (wrote_bytes (handed_in (goal.at.returns c).After-write_positional_segment) a.out.now c.write_positional_segment.ensures c.in_ok-written.was)
          a.id.0 c.bar_sheet-answer.ensures;
      called = (promised (handed_in (goal.at.returns c).After-write_positional_segment) a.out.now c.write_positional_segment.ensures c.in_ok-written.was, c.bar_sheet-answer.ensures);
    }

pub returns-in_err-written : goal.returns-in_err-written
returns-in_err-written c =
    let p = err_from_is_err_and c.from_residual.result c.from_residual.ensures.1 in
    rw (p.1, p.2)
    (let a = c.args in
    record {
      claim = (out_alone (handed_in (goal.at.returns-in_err-written c).After-write_positional_segment) a.out.now c.write_positional_segment.ensures c.in_err-written.was, refl);
      called = (promised (handed_in (goal.at.returns-in_err-written c).After-write_positional_segment) a.out.now c.write_positional_segment.ensures c.in_err-written.was, refl);
    })
