use Prim.Native.Nat.{◌+◌, ◌-◌, ◌*◌, ◌^◌, ◌<◌}
use Rattle.ask_match.specs.Steps.{positions_in, stands}
use Rattle.ask_match.proofs.Leap.{Leap}
use Rattle.ask_match.proofs.phrase.phrase_here.Given as goal

abbrev pub invariant-loop-i : goal.invariant-loop-i
invariant-loop-i l =
    (l.start < 2 ^ 32)
    × Leap l.n (stands l.bytes (positions_in l.initial.cursors)) (stands l.bytes (positions_in l.cursors)) l.start l.i

abbrev pub decreases-loop-i : goal.decreases-loop-i
decreases-loop-i l = (2 ^ 32 - l.start) * 129 + (128 - l.i)
