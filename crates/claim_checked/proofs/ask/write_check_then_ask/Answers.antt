-- What the writer and the search after the check ensure, put together by the laws of crate claim_joint.
use Rattle.std.proofs.lemmas.Result.{err_from_is_err_and}
use mathlib.Core.Path.{refl, sym}
use native.Mathlib.Omega.{arith}
use lib.Seq.{length-take-le}
use Rattle.calls.specs.Given.{Lists, lists}
use Rattle.roundtrip.specs.Claims.{Typed}
use Rattle.claim_joint.proofs.Claimed.{wrote_bytes, promised, bytes_fit, refused_claim, asked_claim}
use Rattle.claim_checked.proofs.ask.write_check_then_ask.Goals as goal
use Rattle.claim_checked.proofs.ask.write_check_then_ask.Goals.{After-write_positional_segment}

abbrev handed_in : After-write_positional_segment → Lists
handed_in c =
    let a = c.args in
    lists a.ids.now a.lengths.now a.text.now a.ends.now
    a.posting_counts.now a.posting_ids.now a.position_counts.now a.positions.now

typed : (c : After-write_positional_segment) → Typed (handed_in c)
typed c =
    record {
      ids = λ i. omega (arith, c.type_inv.ids i);
      lengths = λ i. omega (arith, c.type_inv.lengths i);
      text = λ i. omega (arith, c.type_inv.text i);
      ends = λ i. omega (arith, c.type_inv.ends i);
      posting_counts = λ i. omega (arith, c.type_inv.posting_counts i);
      posting_ids = λ i. omega (arith, c.type_inv.posting_ids i);
      position_counts = λ i. omega (arith, c.type_inv.position_counts i);
      positions = λ i. omega (arith, c.type_inv.positions i);
    }

-- the slice has the bytes that were written
pub slice_bounds-check_then_ask-end : goal.slice_bounds-check_then_ask-end
slice_bounds-check_then_ask-end c =
    bytes_fit (handed_in (goal.at.slice_bounds-check_then_ask-end c).After-write_positional_segment) c.args.out.now (typed (goal.at.slice_bounds-check_then_ask-end c).After-write_positional_segment)
    (wrote_bytes _ _ c.write_positional_segment.ensures c.in_ok-written.was)

pub returns : goal.returns
returns c =
    let a = c.args in
    record {
      demand =
          asked_claim (handed_in (goal.at.returns c).After-write_positional_segment) a.out.now (typed (goal.at.returns c).After-write_positional_segment) (wrote_bytes _ _ c.write_positional_segment.ensures c.in_ok-written.was)
          a.question a.name.now a.name_ends.now a.other.now a.found.now c.check_then_ask-answer.ensures;
      called = (promised (handed_in (goal.at.returns c).After-write_positional_segment) a.out.now c.write_positional_segment.ensures c.in_ok-written.was, c.check_then_ask-answer.ensures);
    }

pub returns-in_err-written : goal.returns-in_err-written
returns-in_err-written c =
    let p = err_from_is_err_and c.from_residual.result c.from_residual.ensures.1 in
    rw (p.1, p.2)
    (let a = c.args in
    record {
      demand =
          refused_claim (handed_in (goal.at.returns-in_err-written c).After-write_positional_segment) a.out.now c.write_positional_segment.ensures c.in_err-written.was _ _ _ a.found.now;
      called = (promised (handed_in (goal.at.returns-in_err-written c).After-write_positional_segment) a.out.now c.write_positional_segment.ensures c.in_err-written.was, refl);
    })
