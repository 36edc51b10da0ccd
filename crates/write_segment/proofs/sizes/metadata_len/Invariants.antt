-- What was counted and the length of the bytes still to come are the length of all.
use Rattle.std.specs.Prelude.{None}
use mathlib.Core.Path.{◌≡◌}
use Prim.Native.Nat.{◌+◌, ◌*◌, ◌≤◌}
use lib.ListN.{length}
use Rattle.segment.specs.Metadata.{document}
use Rattle.common.specs.Lists.{paired}
use Rattle.segment.specs.Written.{metadata_bytes}
use Rattle.write_lists.proofs.Left.{metadata_left}
use Rattle.write_segment.proofs.sizes.metadata_len.Given as goal

abbrev pub invariant-loop-i : goal.invariant-loop-i
invariant-loop-i l =
    (l.size + length (metadata_left l.ids l.lengths l.previous l.i) ≡ length (metadata_bytes None (paired document l.ids l.lengths)))
    × (length (metadata_bytes None (paired document l.ids l.lengths)) ≤ 10 * length l.ids)
