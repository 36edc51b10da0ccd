-- Once the bytes still to come are stored too, all are: ToStore.
use Rattle.std.specs.Prelude.{None}
use lib.ListN.{drop}
use Rattle.segment.specs.Written.{position_bytes}
use Rattle.common.proofs.Stores.{ToStore}
use Rattle.write_lists.proofs.put.put_positions.Given as goal

abbrev pub invariant-loop-position : goal.invariant-loop-position
invariant-loop-position l =
    ToStore (position_bytes None l.positions) l.at l.initial.out (position_bytes l.previous (drop l.position-index l.positions)) l.next l.out
