use Prim.Native.Nat.{◌+◌, ◌-◌, ◌*◌, ◌^◌, ◌<◌}
use Rattle.ask_match.specs.Steps.{positions_in, stands}
use Rattle.ask_match.proofs.Counting.{Counting}
use Rattle.ask_match.proofs.starts.starts_here.Given as goal

abbrev pub invariant-loop-count : goal.invariant-loop-count
invariant-loop-count l =
    (l.i < l.n) × (l.start < 2 ^ 33)
    × Counting l.n (stands l.bytes (positions_in l.initial.cursors)) (stands l.bytes (positions_in l.cursors)) l.count l.start l.i

abbrev pub decreases-loop-count : goal.decreases-loop-count
decreases-loop-count l =
    (l.first.remaining - l.count) * 129 + (2 ^ 33 - l.start) * 129 + (128 - l.i)
