use Prim.Native.Nat.{◌+◌, ◌-◌, ◌*◌, ◌^◌, ◌≤◌, ◌<◌}
use Rattle.ask_match.specs.Steps.{positions_in, among}
use Rattle.ask_match.proofs.Chains.{Walk}
use Rattle.ask_match.proofs.ordered.ordered_here.Given as goal

abbrev pub invariant-loop-i : goal.invariant-loop-i
invariant-loop-i l =
    (l.start < 2 ^ 32) × (l.target ≤ 2 ^ 32)
    × Walk l.n l.window (among l.bytes (positions_in l.initial.cursors)) l.bytes (positions_in l.cursors) l.start l.target l.i

abbrev pub decreases-loop-i : goal.decreases-loop-i
decreases-loop-i l = (2 ^ 32 - l.start) * 129 + (128 - l.i)
