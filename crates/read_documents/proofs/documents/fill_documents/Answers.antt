use mathlib.Core.Path.{refl, ap}
use lib.ListN.{length-map}
use native.Mathlib.Omega.{arith}
use Rattle.calls.specs.Replies.{ids_of, lengths_of}
use Rattle.calls.proofs.Filling.{Room, front_start, next_room, next_stored, still_long, all_stored, at_front}
use Rattle.read_documents.proofs.Turns.{document_turn, no_document}
use Rattle.read_documents.proofs.documents.fill_documents.Goals as goal
use Rattle.read_documents.proofs.documents.fill_documents.Goals.{In-loop-c}

pub loop-c-init : goal.loop-c-init
loop-c-init c =
    let p = c.requires in (
      front_start (ap ids_of c.start-c.ensures) (rw length-map p.0),
      front_start (ap lengths_of c.start-c.ensures) (rw length-map p.1),
    )

rooms : (c : In-loop-c) → let a = c.args in
    Room c.loop-c.i c.loop-c.ids a.ids.now × Room c.loop-c.i c.loop-c.lengths a.lengths.now
rooms c =
    let e = document_turn _ _ _ _ _ c.loop-c-test.true refl in (
      next_room c.loop-c.invariant.0 (ap ids_of e),
      next_room c.loop-c.invariant.1 (ap lengths_of e),
    )

pub bounds-ids-i : goal.bounds-ids-i
bounds-ids-i c = (rooms c).0.below

pub bounds-lengths-i : goal.bounds-lengths-i
bounds-lengths-i c = (rooms (goal.at.bounds-lengths-i c).In-loop-c).1.below

pub overflow_add-i : goal.overflow_add-i
overflow_add-i c = omega (arith, rooms (goal.at.overflow_add-i c).In-loop-c)

pub loop-c-preserved : goal.loop-c-preserved
loop-c-preserved c =
    let e = document_turn _ _ _ _ _ c.loop-c-test.true c.advance-c.ensures.list in
    (next_stored c.loop-c.invariant.0 (ap ids_of e), next_stored c.loop-c.invariant.1 (ap lengths_of e))

pub shape_of-ids : goal.shape_of-ids
shape_of-ids c = still_long c.loop-c.invariant.0

pub shape_of-lengths : goal.shape_of-lengths
shape_of-lengths c = still_long c.loop-c.invariant.1

pub returns : goal.returns
returns c =
    let p = c.requires in
    let e = no_document _ _ _ _ _ c.loop-c-test.false in
    record {
      ids_left = at_front (rw length-map p.0) (all_stored c.loop-c.invariant.0 (ap ids_of e));
      lengths_left = at_front (rw length-map p.1) (all_stored c.loop-c.invariant.1 (ap lengths_of e));
    }
