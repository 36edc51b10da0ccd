use Prim.Native.Nat.{◌+◌, ◌-◌, ◌*◌, ◌^◌, ◌≤◌, ◌<◌}
use Rattle.ask_walk.specs.Steps.{cursors_in}
use Rattle.ask_walk.proofs.Leaps.{Leaping}
use Rattle.ask_walk.proofs.leap.next_document.Given as goal

abbrev pub invariant-loop-here : goal.invariant-loop-here
invariant-loop-here l =
    (l.k < l.m) × (l.next ≤ 2 ^ 32)
    × Leaping l.bytes l.m l.from (cursors_in l.initial.lists) (cursors_in l.lists) l.next l.k

abbrev pub decreases-loop-here : goal.decreases-loop-here
decreases-loop-here l = (2 ^ 32 + 1 - l.next) * 129 + (128 - l.k)
