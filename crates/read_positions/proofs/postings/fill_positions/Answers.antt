use mathlib.Core.Path.{refl}
use native.Mathlib.Omega.{arith}
use Rattle.calls.proofs.Filling.{Room, to_start, next_room, next_stored, still_long, all_stored}
use Rattle.read_positions.proofs.Turns.{position_turn, no_position}
use Rattle.read_positions.proofs.postings.fill_positions.Goals as goal
use Rattle.read_positions.proofs.postings.fill_positions.Goals.{In-loop-c}

pub loop-c-init : goal.loop-c-init
loop-c-init c = to_start refl c.requires

room : (c : In-loop-c) → Room c.loop-c.i c.loop-c.out c.args.out.now
room c = next_room c.loop-c.invariant (position_turn _ _ _ _ c.loop-c-test.true refl)

pub offset_bounds-out-i : goal.offset_bounds-out-i
offset_bounds-out-i c = omega (arith, room c)

pub bounds-out-i : goal.bounds-out-i
bounds-out-i c = (room c).below

pub overflow_add-i : goal.overflow_add-i
overflow_add-i c = omega (arith, room (goal.at.overflow_add-i c).In-loop-c)

pub loop-c-preserved : goal.loop-c-preserved
loop-c-preserved c =
    next_stored c.loop-c.invariant (position_turn _ _ _ _ c.loop-c-test.true c.advance-c.ensures.holds)

pub shape_of-out : goal.shape_of-out
shape_of-out c = still_long c.loop-c.invariant

pub returns : goal.returns
returns c = all_stored c.loop-c.invariant (no_position _ _ _ _ c.loop-c-test.false)
