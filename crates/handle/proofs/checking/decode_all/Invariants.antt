-- The lists of the batches so far decode, so those from here are what is left of all.
use mathlib.Core.Path.{◌≡◌}
use Prim.Native.Nat.{◌-◌, ◌≤◌}
use Rattle.segment.specs.Records.{Segment}
use Rattle.segment.specs.Steps.{checked}
use Rattle.calls.specs.Whole.{every_list}
use Rattle.read_open.specs.Opened.{IsOpen}
use Rattle.handle.specs.Steps.{rest_checked}
use Rattle.handle.proofs.checking.decode_all.Given as goal

abbrev pub invariant-loop-from : goal.invariant-loop-from
invariant-loop-from l =
    (l.from ≤ l.terms) × ((s : Segment) → IsOpen l.bytes l.at s → rest_checked s l.from ≡ checked (every_list s))

abbrev pub decreases-loop-from : goal.decreases-loop-from
decreases-loop-from l = l.terms - l.from
