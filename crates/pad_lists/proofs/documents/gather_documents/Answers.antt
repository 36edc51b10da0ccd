use Prim.Native.Nat.{◌+◌, ◌*◌, ◌≤◌}
use native.Mathlib.Omega.{arith}
use lib.ListN.{length, get_or}
use Rattle.pad_words.proofs.Wholes.{whole_parts}
use Rattle.pad_lists.proofs.Walks.{walk_room}
use Rattle.pad_lists.proofs.Columns.{columns_start, columns_next, columns_end}
use Rattle.pad_lists.proofs.documents.gather_documents.Goals as goal
use Rattle.pad_lists.proofs.documents.gather_documents.Goals.{In-loop-i}

pub bounds-pad-0 : goal.bounds-pad-0
bounds-pad-0 c =
    omega (arith, (whole_parts c.args.pad.now c.requires.whole_pad).words)

pub loop-i-init : goal.loop-i-init
loop-i-init c = columns_start c.requires

-- the bar lies in the pad
room : (l : In-loop-i) →
    let pad = l.args.pad.now in
    let v = l.loop-i in
    v.at + (3 + 2 * get_or pad (v.at + 2) 0) ≤ length pad
room l =
    let w = l.loop-i.invariant.walk in
    omega (arith, w.words, walk_room w (omega (arith, l.long-bars.ensures)))

pub bounds-pad-at : goal.bounds-pad-at
bounds-pad-at c = omega (arith, room (goal.at.bounds-pad-at c).In-loop-i)

pub bounds-pad-at-in-loop-i : goal.bounds-pad-at-in-loop-i
bounds-pad-at-in-loop-i c = omega (arith, room (goal.at.bounds-pad-at-in-loop-i c).In-loop-i)

pub bounds-pad-at-in-loop-i-2 : goal.bounds-pad-at-in-loop-i-2
bounds-pad-at-in-loop-i-2 c = omega (arith, room (goal.at.bounds-pad-at-in-loop-i-2 c).In-loop-i)

pub overflow_mul-at : goal.overflow_mul-at
overflow_mul-at c = omega (arith, room (goal.at.overflow_mul-at c).In-loop-i, c.long.ensures)

pub overflow_add-at-in-loop-i : goal.overflow_add-at-in-loop-i
overflow_add-at-in-loop-i c = omega (arith, room (goal.at.overflow_add-at-in-loop-i c).In-loop-i, c.long.ensures)

pub overflow_add-at-in-loop-i-2 : goal.overflow_add-at-in-loop-i-2
overflow_add-at-in-loop-i-2 c = omega (arith, room (goal.at.overflow_add-at-in-loop-i-2 c).In-loop-i, c.long.ensures)

pub loop-i-preserved : goal.loop-i-preserved
loop-i-preserved c =
    columns_next c.loop-i.invariant (omega (arith, c.long-bars.ensures)) _ c.long.ensures

pub returns : goal.returns
returns c = columns_end c.loop-i.invariant (omega (arith, c.long-bars.ensures))
