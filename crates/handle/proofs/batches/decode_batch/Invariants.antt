-- The lists so far decode, so those from here are left.
use mathlib.Core.Path.{◌≡◌}
use Rattle.segment.specs.Records.{Segment}
use Rattle.read_open.specs.Opened.{IsOpen}
use Rattle.handle.specs.Steps.{rest_checked}
use Rattle.handle.proofs.batches.decode_batch.Given as goal

abbrev pub invariant-loop-i : goal.invariant-loop-i
invariant-loop-i l = (s : Segment) → IsOpen l.bytes l.at s → rest_checked s l.from ≡ rest_checked s l.i
