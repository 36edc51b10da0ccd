-- A segment that was written decodes, so it is whole, and its handle has level 2.
-- Assumes nothing.
use mathlib.Core.Path.{ap}
use Rattle.calls.proofs.Whole.{decoded_whole}
use Rattle.roundtrip.proofs.ReadsBack.{reads_back}
use Rattle.read_open.specs.Layouts.{layout_in}
use Rattle.handle.specs.Handles.{handled}
use Rattle.claim_joint.specs.Checked.{WrittenChecks}

pub written_checks : WrittenChecks
written_checks l room bytes typed e =
    let (s, whole) = decoded_whole bytes (reads_back l room bytes typed e).back in
    ap (handled 2 (layout_in bytes)) whole
