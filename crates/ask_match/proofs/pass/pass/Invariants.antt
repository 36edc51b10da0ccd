use mathlib.Core.Path.{◌≡◌}
use Prim.Native.Nat.{◌+◌, ◌≤◌}
use lib.ListN.{length}
use Rattle.read_cursors.specs.Steps.{positions_from}
use Rattle.ask_match.proofs.Members.{onward}
use Rattle.ask_match.proofs.pass.pass.Given as goal

abbrev pub invariant-loop-to : goal.invariant-loop-to
invariant-loop-to l =
    (onward l.target (positions_from l.bytes l.to) ≡ onward l.target (positions_from l.bytes l.initial.to))
    × (l.passed + l.to.remaining ≤ l.initial.to.remaining)
    × (l.passed + length (positions_from l.bytes l.to) ≡ length (positions_from l.bytes l.initial.to))

abbrev pub decreases-loop-to : goal.decreases-loop-to
decreases-loop-to l = l.to.remaining
