use Rattle.std.specs.Prelude.{None, Some}
use mathlib.Core.List.{[], ◌∷◌}
use Prim.Native.Nat.{◌+◌}
use native.Mathlib.Omega.{arith}
use lib.ListN.{get_or}
use Rattle.leb128.specs.Leb128.{encoded}
use Rattle.segment.specs.Metadata.{document}
use Rattle.common.specs.Lists.{paired}
use Rattle.segment.specs.Written.{metadata_bytes}
use Rattle.common.proofs.Stores.{ToStoreParts, to_start, to_room, to_next, to_length, to_end}
use Rattle.write_lists.proofs.Left.{metadata_left, metadata_next, metadata_end}
use Rattle.write_lists.proofs.put.put_metadata.Goals as goal
use Rattle.write_lists.proofs.put.put_metadata.Goals.{After-gap_from}

pub loop-i-init : goal.loop-i-init
loop-i-init c = to_start c.requires.1

-- the numbers that a turn stores, before what is left
turn : (c : After-gap_from)
    → let l = c.loop-i in
    let a = c.args in
    let ids = a.ids.now in
    let lengths = a.lengths.now in
    ToStoreParts (metadata_bytes None (paired document ids lengths)) a.at a.out.now
    (encoded c.gap_from.result ∷ encoded (get_or lengths l.i 0) ∷ []) (metadata_left ids lengths (Some (get_or ids l.i 0)) (l.i + 1))
    l.next l.out
turn c =
    let l = c.loop-i in
    let a = c.args in
    record {
      all =
          rw c.gap_from.ensures
          (rw (metadata_next a.ids.now a.lengths.now l.previous l.i (omega arith) (omega arith)) at l.invariant);
    }

pub encode_u32-next-requires : goal.encode_u32-next-requires
encode_u32-next-requires c = to_room (turn (goal.at.encode_u32-next-requires c).After-gap_from)

pub encode_u32-next-requires-in-loop-i : goal.encode_u32-next-requires-in-loop-i
encode_u32-next-requires-in-loop-i c =
    to_room (to_next (turn (goal.at.encode_u32-next-requires-in-loop-i c).After-gap_from) c.encode_u32-next.ensures)

pub loop-i-preserved : goal.loop-i-preserved
loop-i-preserved c =
    (to_next (to_next (turn (goal.at.loop-i-preserved c).After-gap_from) c.encode_u32-next.ensures) c.encode_u32-next-in-loop-i.ensures).all

pub shape_of-out : goal.shape_of-out
shape_of-out c = to_length c.loop-i.invariant

pub returns : goal.returns
returns c =
    let l = c.loop-i in
    let a = c.args in
    to_end (rw (metadata_end a.ids.now a.lengths.now l.previous l.i (omega arith)) at l.invariant)
