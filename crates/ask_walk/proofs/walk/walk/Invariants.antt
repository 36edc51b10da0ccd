use Prim.Native.Nat.{◌+◌, ◌-◌, ◌^◌, ◌≤◌}
use Rattle.ask_walk.specs.Steps.{cursors_in}
use Rattle.ask_walk.proofs.Leaps.{Cursors}
use Rattle.ask_walk.proofs.Walks.{Answers}
use Rattle.ask_walk.proofs.walk.walk.Given as goal

abbrev pub invariant-loop-next : goal.invariant-loop-next
invariant-loop-next l =
    let heads = cursors_in l.initial.lists in
    (l.from ≤ 2 ^ 32)
    × Cursors l.bytes heads (cursors_in l.lists) l.from 0
    × Answers l.bytes l.rule l.n l.slot l.m l.wanted heads (λ q d. d) l.initial.ids l.ids l.found l.from

abbrev pub decreases-loop-next : goal.decreases-loop-next
decreases-loop-next l = 2 ^ 32 + 1 - l.from
