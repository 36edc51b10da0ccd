-- The start, a turn, and a posting that does not pass; the rest is found.
use Rattle.std.specs.Prelude.{None, Some, option_map}
use Rattle.std.proofs.lemmas.Result.{err_from_is_err_and}
use mathlib.Core.Path.{refl, ap}
use Prim.Native.Nat.{◌<◌}
use lib.ListN.{length, length-append}
use native.Mathlib.Omega.{arith}
use Rattle.segment.specs.Metadata.{document}
use Rattle.segment.specs.Results.{Answer}
use Rattle.common.specs.Lists.{paired}
use Rattle.calls.specs.Checks.{check_posting, check_postings}
use Rattle.calls.specs.Given.{postings_in}
use Rattle.calls.proofs.Lengths.{flat_postings_size}
use Rattle.calls.proofs.Parts.{total_step}
use Rattle.write_checks.proofs.Measuring.{measure_stops, measured_refused, measured_passed}
use Rattle.write_check_all.proofs.Left.{postings_whole, postings_left_next}
use Rattle.write_check_all.proofs.ListsChecked.{posting_in, postings_next, postings_stop}
use Rattle.write_check_all.proofs.lists.measure_postings.Goals as goal
use Rattle.write_check_all.proofs.lists.measure_postings.Goals.{After-long}

-- the check of the next posting
abbrev this : After-long → Answer (Unit {0})
this c =
    let a = c.args in
    check_posting (paired document a.ids.now a.lengths.now) (option_map (λ d. d.0) c.loop-i.previous)
    (posting_in a.posting_ids.now a.positions.now c.loop-i.i c.loop-i.at c.long.result)

pub loop-i-init : goal.loop-i-init
loop-i-init c =
    let a = c.args in
    let ids = a.posting_ids.now in
    let counts = a.counts.now in
    let positions = a.positions.now in (
      omega arith,
      refl,
      omega (arith, ap length (postings_whole ids counts positions)),
      flat_postings_size None ids counts positions,
    )

pub returns-in_err-size : goal.returns-in_err-size
returns-in_err-size c =
    let a = c.args in
    let documents = paired document a.ids.now a.lengths.now in
    let p = err_from_is_err_and c.from_residual.result c.from_residual.ensures.1 in
    rw (p.1, p.2)
    (measure_stops (check_postings documents None (postings_in a.posting_ids.now a.counts.now a.positions.now)) _
    (postings_stop documents a.posting_ids.now a.counts.now a.positions.now c.requires.2 c.loop-i.i _ _ c.loop-i.invariant.1
    c.loop-i-test.true c.long.ensures
    (measured_refused (this (goal.at.returns-in_err-size c).After-long) _ c.in_err-size.ensures)))

pub loop-i-preserved : goal.loop-i-preserved
loop-i-preserved c =
    let a = c.args in
    let inside : c.loop-i.i < length a.counts.now = omega arith in
    let passed = measured_passed (this (goal.at.loop-i-preserved c).After-long) _ c.in_ok-size.ensures in (
      omega (arith, total_step a.counts.now c.loop-i.i inside),
      postings_next (paired document a.ids.now a.lengths.now) a.posting_ids.now a.counts.now a.positions.now c.requires.2
          c.loop-i.i c.loop-i.at (option_map (λ d. d.0) c.loop-i.previous) c.loop-i.invariant.1 c.loop-i-test.true c.long.ensures passed.0,
      omega (
        arith,
        passed.1,
        simp length-append at
            (ap length (postings_left_next a.posting_ids.now a.counts.now a.positions.now
            (Some c.loop-i.base.0) c.loop-i.at c.loop-i.i
            (omega arith) c.requires.2 c.long.ensures)),
      ),
      c.loop-i.invariant.3,
    )
