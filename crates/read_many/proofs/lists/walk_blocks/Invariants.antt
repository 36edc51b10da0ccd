-- Each block leaves the table true, and no list is in order from its cursor on that was not before.
use Rattle.std.specs.Prelude.{None}
use Rattle.read_cursors.specs.Held.{held_documents}
use Rattle.read_many.proofs.Cursors.{Blocks}
use Rattle.read_many.proofs.lists.walk_blocks.Given as goal

abbrev pub invariant-loop-here : goal.invariant-loop-here
invariant-loop-here l =
    Blocks (held_documents l.documents None l.meta) l.bytes l.meta l.end l.initial.cursors l.cursors l.table l.here

abbrev pub decreases-loop-here : goal.decreases-loop-here
decreases-loop-here l = l.here.remaining
