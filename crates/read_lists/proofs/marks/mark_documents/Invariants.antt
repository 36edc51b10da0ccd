use Rattle.std.specs.Prelude.{None}
use mathlib.Core.Path.{◌≡◌}
use Prim.Native.Nat.{◌≤◌, ◌<◌}
use lib.ListN.{length}
use Rattle.read_cursors.specs.Held.{held_documents}
use Rattle.read_lists.specs.Steps.{Mark}
use Rattle.read_lists.proofs.MarksHeld.{AllMarks}
use Rattle.read_lists.proofs.marks.mark_documents.Given as goal

abbrev pub invariant-loop-c : goal.invariant-loop-c
invariant-loop-c l =
    (length l.marks ≡ 128) × (l.c.remaining ≤ l.first.remaining) × AllMarks l.meta (held_documents l.count None l.meta) l.marks
    × (0 < l.c.remaining → Mark l.meta (held_documents l.count None l.meta) l.c)

abbrev pub decreases-loop-c : goal.decreases-loop-c
decreases-loop-c l = l.c.remaining
