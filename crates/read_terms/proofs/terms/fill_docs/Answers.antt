use mathlib.Core.Path.{refl, ap}
use lib.ListN.{length-map}
use native.Mathlib.Omega.{arith}
use Rattle.calls.proofs.Filling.{Room, front_start, next_room, next_stored, still_long, all_stored, at_front}
use Rattle.read_terms.proofs.Turns.{spot_docs, posting_turn, no_posting}
use Rattle.read_terms.proofs.terms.fill_docs.Goals as goal
use Rattle.read_terms.proofs.terms.fill_docs.Goals.{In-loop-c}

pub loop-c-init : goal.loop-c-init
loop-c-init c = front_start (ap spot_docs c.start-c.ensures) (rw length-map c.requires)

room : (c : In-loop-c) → Room c.loop-c.i c.loop-c.ids c.args.ids.now
room c = next_room c.loop-c.invariant (ap spot_docs (posting_turn _ _ _ _ _ c.loop-c-test.true refl))

pub offset_bounds-ids-i : goal.offset_bounds-ids-i
offset_bounds-ids-i c = omega (arith, room c)

pub bounds-ids-i : goal.bounds-ids-i
bounds-ids-i c = (room c).below

pub overflow_add-i : goal.overflow_add-i
overflow_add-i c = omega (arith, room (goal.at.overflow_add-i c).In-loop-c)

pub loop-c-preserved : goal.loop-c-preserved
loop-c-preserved c =
    next_stored c.loop-c.invariant (ap spot_docs (posting_turn _ _ _ _ _ c.loop-c-test.true c.advance-c.ensures.holds))

pub shape_of-ids : goal.shape_of-ids
shape_of-ids c = still_long c.loop-c.invariant

pub returns : goal.returns
returns c =
    at_front (rw length-map c.requires)
    (all_stored c.loop-c.invariant (ap spot_docs (no_posting _ _ _ _ _ c.loop-c-test.false)))
