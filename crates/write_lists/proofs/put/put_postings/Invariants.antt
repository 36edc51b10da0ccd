-- Once the bytes still to come are stored too, all are: ToStore. The positions still to come lie in their list.
use Rattle.std.specs.Prelude.{None}
use Prim.Native.Nat.{◌+◌, ◌≤◌}
use lib.ListN.{length, drop}
use Rattle.common.specs.Lists.{total}
use Rattle.segment.specs.Written.{postings_bytes}
use Rattle.calls.specs.Given.{postings_in}
use Rattle.common.proofs.Stores.{ToStore}
use Rattle.write_check_all.proofs.Left.{postings_left}
use Rattle.write_lists.proofs.put.put_postings.Given as goal

abbrev pub invariant-loop-i : goal.invariant-loop-i
invariant-loop-i l =
    (l.from + total (drop l.i l.counts) ≤ length l.positions)
    × ToStore (postings_bytes None (postings_in l.posting_ids l.counts l.positions)) l.at l.initial.out
    (postings_left l.posting_ids l.counts l.positions l.previous l.from l.i) l.next l.out
