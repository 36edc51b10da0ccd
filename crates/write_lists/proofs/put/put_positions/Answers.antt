use Rattle.std.specs.Prelude.{None, Some}
use mathlib.Core.List.{[], ◌∷◌}
use Prim.Native.Nat.{◌+◌}
use lib.ListN.{drop, get_or}
use Rattle.leb128.specs.Leb128.{encoded}
use Rattle.segment.specs.Written.{position_bytes}
use Rattle.common.proofs.Stores.{ToStoreParts, to_start, to_room, to_next, to_length, to_end}
use Rattle.write_lists.proofs.Left.{positions_next, positions_end}
use Rattle.write_lists.proofs.put.put_positions.Goals as goal
use Rattle.write_lists.proofs.put.put_positions.Goals.{After-gap_from}

pub loop-position-init : goal.loop-position-init
loop-position-init c = to_start c.requires

-- the number that a turn stores, before what is left
turn : (c : After-gap_from)
    → let l = c.loop-position in
    let positions = c.args.positions.now in
    ToStoreParts (position_bytes None positions) c.args.at c.args.out.now (encoded c.gap_from.result ∷ [])
    (position_bytes (Some (get_or positions l.position-index 0)) (drop (l.position-index + 1) positions)) l.next l.out
turn c =
    let l = c.loop-position in
    record {
      all =
          rw c.gap_from.ensures
          (rw (positions_next c.args.positions.now l.previous l.position-index c.loop-position-test.true) at l.invariant);
    }

pub encode_u32-next-requires : goal.encode_u32-next-requires
encode_u32-next-requires c = to_room (turn (goal.at.encode_u32-next-requires c).After-gap_from)

pub loop-position-preserved : goal.loop-position-preserved
loop-position-preserved c = (to_next (turn (goal.at.loop-position-preserved c).After-gap_from) c.encode_u32-next.ensures).all

pub shape_of-out : goal.shape_of-out
shape_of-out c = to_length c.loop-position.invariant

pub returns : goal.returns
returns c =
    let l = c.loop-position in
    to_end (rw (positions_end c.args.positions.now l.previous l.position-index c.loop-position-test.false) at l.invariant)
