use Rattle.calls.specs.Given.{posting}
use Rattle.write_checks.proofs.Gaps.{posting_based}
use Rattle.write_checks.proofs.measure.measure_posting.Goals as goal

pub returns : goal.returns
returns c =
    let a = c.args in
    rw (posting_based a.previous (posting a.doc.0 a.positions.now) c.unwrap_or-base.ensures) at c.measure_posting_from.ensures
