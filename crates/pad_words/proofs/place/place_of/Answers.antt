use mathlib.Core.Path.{refl}
use Prim.Native.Nat.{◌+◌, ◌*◌, ◌≤◌}
use lib.ListN.{length, get_or}
use Rattle.pad_words.proofs.Placing.{bar_inside, size_next, place_next, place_held, place_free, place_end, held_start}
use native.Mathlib.Omega.{arith}
use Rattle.pad_words.proofs.place.place_of.Goals as goal
use Rattle.pad_words.proofs.place.place_of.Goals.{In-loop}

-- in a turn: the bar's words lie in the slice
bar-room : (c : In-loop) → c.loop.at + (3 + 2 * get_or c.args.pad.now (c.loop.at + 2) 0) ≤ length c.args.pad.now
bar-room c = bar_inside c.args.pad.now _ _ _ c.loop-test.true c.loop.invariant.0

pub loop-init : goal.loop-init
loop-init c =
    let e = held_start c.args.pad.now _ refl in
    (rw e c.requires.room, rw e)

pub bounds-pad-at : goal.bounds-pad-at
bounds-pad-at c = omega (arith, bar-room (goal.at.bounds-pad-at c).In-loop)

pub returns-then-here-id : goal.returns-then-here-id
returns-then-here-id c =
    place_held c.args.pad.now _ _ _ _ c.loop.invariant.1 c.loop-test.true c.if-here-id.true

pub returns-then-here-id-2 : goal.returns-then-here-id-2
returns-then-here-id-2 c =
    place_free c.args.pad.now _ _ _ _ c.loop.invariant.1 c.loop-test.true (omega arith) c.if-here-id.false

pub overflow_add-at : goal.overflow_add-at
overflow_add-at c = omega (arith, bar-room (goal.at.overflow_add-at c).In-loop)

pub bounds-pad-at-in-loop : goal.bounds-pad-at-in-loop
bounds-pad-at-in-loop c = omega (arith, bar-room (goal.at.bounds-pad-at-in-loop c).In-loop)

pub overflow_add-at-in-loop-2 : goal.overflow_add-at-in-loop-2
overflow_add-at-in-loop-2 c = omega (arith, c.long.ensures, bar-room (goal.at.overflow_add-at-in-loop-2 c).In-loop)

pub loop-preserved : goal.loop-preserved
loop-preserved c =
    let pad = c.args.pad.now in
    let h = c.loop-test.true in (
      size_next pad _ _ _ h c.loop.invariant.0 _ c.long.ensures,
      place_next pad _ _ _ _ c.loop.invariant.1 h _ c.long.ensures (omega arith),
    )

pub returns : goal.returns
returns c = place_end c.args.pad.now _ _ _ _ c.loop.invariant.1 c.loop-test.false
