use mathlib.Core.Path.{refl, ap}
use lib.ListN.{length-map}
use native.Mathlib.Omega.{arith}
use Rattle.read_positions.specs.Steps.{all_positions}
use Rattle.calls.proofs.Filling.{Room, front_start, next_room, next_stored, still_long, all_stored, at_front}
use Rattle.read_terms.proofs.Turns.{spot_docs, posting_turn, no_posting}
use Rattle.read_positions.proofs.Turns.{spot_counts, positions_room, positions_next}
use Rattle.read_positions.proofs.postings.fill_postings.Goals as goal
use Rattle.read_positions.proofs.postings.fill_postings.Goals.{In-loop-c}

pub loop-c-init : goal.loop-c-init
loop-c-init c =
    let e = c.start-c.ensures in
    let p = c.requires in (
      front_start (ap spot_docs e) (rw length-map p.0),
      front_start (ap spot_counts e) (rw length-map p.1),
      front_start (ap all_positions e) p.2,
    )

rooms : (c : In-loop-c)
    → let a = c.args in
    Room c.loop-c.i c.loop-c.ids a.ids.now × Room c.loop-c.i c.loop-c.counts a.counts.now
rooms c =
    let l = c.loop-c in
    let e = posting_turn _ _ _ _ _ c.loop-c-test.true refl in
    (next_room l.invariant.0 (ap spot_docs e), next_room l.invariant.1 (ap spot_counts e))

pub offset_bounds-ids-i : goal.offset_bounds-ids-i
offset_bounds-ids-i c = omega (arith, rooms c)

pub bounds-ids-i : goal.bounds-ids-i
bounds-ids-i c = (rooms c).0.below

pub offset_bounds-counts-i : goal.offset_bounds-counts-i
offset_bounds-counts-i c = omega (arith, rooms c)

pub bounds-counts-i : goal.bounds-counts-i
bounds-counts-i c = (rooms c).1.below

pub fill_positions-next-requires : goal.fill_positions-next-requires
fill_positions-next-requires c =
    positions_room _ _ _ _ _ c.loop-c.invariant.2 c.loop-c-test.true c.start.ensures

pub overflow_add-i : goal.overflow_add-i
overflow_add-i c = omega (arith, (offset_bounds-ids-i (goal.at.overflow_add-i c).In-loop-c).fits)

pub loop-c-preserved : goal.loop-c-preserved
loop-c-preserved c =
    let e = posting_turn _ _ _ _ _ c.loop-c-test.true c.advance-c.ensures.holds in (
      next_stored c.loop-c.invariant.0 (ap spot_docs e),
      next_stored c.loop-c.invariant.1 (ap spot_counts e),
      positions_next _ _ _ _ _ c.loop-c.invariant.2 c.loop-c-test.true c.start.ensures c.advance-c.ensures.holds
          c.fill_positions-next.ensures,
    )

pub shape_of-ids : goal.shape_of-ids
shape_of-ids c = still_long c.loop-c.invariant.0

pub shape_of-counts : goal.shape_of-counts
shape_of-counts c = still_long c.loop-c.invariant.1

pub shape_of-positions : goal.shape_of-positions
shape_of-positions c = still_long c.loop-c.invariant.2

pub returns : goal.returns
returns c =
    let p = c.requires in
    let e = no_posting _ _ _ _ _ c.loop-c-test.false in
    record {
      ids_left = at_front (rw length-map p.0) (all_stored c.loop-c.invariant.0 (ap spot_docs e));
      counts_left = at_front (rw length-map p.1) (all_stored c.loop-c.invariant.1 (ap spot_counts e));
      positions_left = at_front p.2 (all_stored c.loop-c.invariant.2 (ap all_positions e));
    }
