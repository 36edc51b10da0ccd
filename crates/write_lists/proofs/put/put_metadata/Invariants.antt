-- Once the bytes still to come are stored too, all are: ToStore.
use Rattle.std.specs.Prelude.{None}
use Rattle.segment.specs.Metadata.{document}
use Rattle.common.specs.Lists.{paired}
use Rattle.segment.specs.Written.{metadata_bytes}
use Rattle.common.proofs.Stores.{ToStore}
use Rattle.write_lists.proofs.Left.{metadata_left}
use Rattle.write_lists.proofs.put.put_metadata.Given as goal

abbrev pub invariant-loop-i : goal.invariant-loop-i
invariant-loop-i l =
    ToStore (metadata_bytes None (paired document l.ids l.lengths)) l.at l.initial.out (metadata_left l.ids l.lengths l.previous l.i) l.next l.out
