use Rattle.std.specs.Prelude.{None, Some}
use Prim.Native.Nat.{◌+◌, ◌≤◌}
use native.Mathlib.Omega.{arith}
use mathlib.Core.List.{[], ◌∷◌}
use lib.ListN.{length, drop, get_or}
use Rattle.leb128.specs.Leb128.{encoded}
use Rattle.segment.specs.Records.{between}
use Rattle.common.specs.Lists.{total}
use Rattle.segment.specs.Written.{position_bytes, postings_bytes}
use Rattle.calls.specs.Given.{postings_in}
use Rattle.common.proofs.Stores.{ToStoreParts, to_start, to_room, to_next, to_length, to_end}
use Rattle.calls.proofs.Parts.{total_step}
use Rattle.write_check_all.proofs.Left.{postings_left, postings_left_end}
use Rattle.write_lists.proofs.Left.{postings_next}
use Rattle.write_lists.proofs.put.put_postings.Goals as goal
use Rattle.write_lists.proofs.put.put_postings.Goals.{After-gap_from, After-long}

pub loop-i-init : goal.loop-i-init
loop-i-init c = (omega arith, to_start c.requires.2)

-- a posting's positions lie in their list, and the next ones' behind them
inside : (c : After-long)
    → let l = c.loop-i in
    l.from + c.long.result + total (drop (l.i + 1) c.args.counts.now) ≤ length c.args.positions.now
inside c =
    let l = c.loop-i in
    let counts = c.args.counts.now in
    omega (arith, total_step counts l.i (omega arith))

pub overflow_add-to : goal.overflow_add-to
overflow_add-to c = omega (arith, inside c)

-- what a turn stores, before what is left
turn : (c : After-gap_from)
    → let l = c.loop-i in
    let a = c.args in
    let ids = a.posting_ids.now in
    let counts = a.counts.now in
    let positions = a.positions.now in
    let to = l.from + c.long.result in
    ToStoreParts (postings_bytes None (postings_in ids counts positions)) a.at a.out.now
    (encoded c.gap_from.result ∷ encoded (get_or counts l.i 0) ∷ position_bytes None (between l.from to positions) ∷ [])
    (postings_left ids counts positions (Some (get_or ids l.i 0)) to (l.i + 1)) l.next l.out
turn c =
    let l = c.loop-i in
    let a = c.args in
    let counts = a.counts.now in
    let e =
    postings_next a.posting_ids.now counts a.positions.now l.previous l.from (l.from + c.long.result) l.i
    (omega arith) (omega arith) (omega arith) (omega (arith, total_step counts l.i (omega arith))) in
    record { all = rw c.gap_from.ensures (rw e at l.invariant.1) }

pub encode_u32-next-requires : goal.encode_u32-next-requires
encode_u32-next-requires c = to_room (turn (goal.at.encode_u32-next-requires c).After-gap_from)

pub encode_u32-next-requires-in-loop-i : goal.encode_u32-next-requires-in-loop-i
encode_u32-next-requires-in-loop-i c =
    to_room (to_next (turn (goal.at.encode_u32-next-requires-in-loop-i c).After-gap_from) c.encode_u32-next.ensures)

pub slice_bounds-put_positions-end : goal.slice_bounds-put_positions-end
slice_bounds-put_positions-end c = omega (arith, inside (goal.at.slice_bounds-put_positions-end c).After-long)

pub put_positions-next-requires : goal.put_positions-next-requires
put_positions-next-requires c =
    to_room
    (to_next (to_next (turn (goal.at.put_positions-next-requires c).After-gap_from) c.encode_u32-next.ensures)
    c.encode_u32-next-in-loop-i.ensures)

pub loop-i-preserved : goal.loop-i-preserved
loop-i-preserved c = (
  omega (arith, inside (goal.at.loop-i-preserved c).After-long),
  (to_next
      (to_next (to_next (turn (goal.at.loop-i-preserved c).After-gap_from) c.encode_u32-next.ensures)
      c.encode_u32-next-in-loop-i.ensures)
      c.put_positions-next.ensures).all,
)

pub shape_of-out : goal.shape_of-out
shape_of-out c = to_length c.loop-i.invariant.1

pub returns : goal.returns
returns c =
    let l = c.loop-i in
    let a = c.args in
    to_end
    (rw (postings_left_end a.posting_ids.now a.counts.now a.positions.now l.previous l.from l.i (omega arith)) at
    l.invariant.1)
