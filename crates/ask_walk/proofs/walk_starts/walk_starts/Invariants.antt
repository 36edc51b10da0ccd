use Prim.Native.Nat.{◌+◌, ◌-◌, ◌^◌, ◌≤◌}
use Rattle.ask_walk.specs.Steps.{cursors_in}
use Rattle.ask_walk.proofs.Leaps.{Cursors}
use Rattle.ask_walk.proofs.Walks.{Tallies}
use Rattle.ask_walk.proofs.walk_starts.walk_starts.Given as goal

abbrev pub invariant-loop-next : goal.invariant-loop-next
invariant-loop-next l =
    let heads = cursors_in l.initial.lists in
    (l.from ≤ 2 ^ 32)
    × Cursors l.bytes heads (cursors_in l.lists) l.from 0
    × Tallies l.bytes l.n l.slot l.m heads l.initial.ids l.initial.counts l.ids l.counts l.found l.from

abbrev pub decreases-loop-next : goal.decreases-loop-next
decreases-loop-next l = 2 ^ 32 + 1 - l.from
