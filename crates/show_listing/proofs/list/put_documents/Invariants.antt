use Rattle.std.specs.Prelude.{None}
use mathlib.Core.Path.{◌≡◌}
use Prim.Native.Nat.{◌+◌, ◌*◌}
use lib.ListN.{length}
use lib.Seq.{sets}
use Rattle.read_cursors.specs.Held.{held_documents}
use Rattle.read_cursors.specs.Steps.{documents_from}
use Rattle.calls.specs.Listing.{document_lines}
use Rattle.show_listing.proofs.list.put_documents.Given as goal

abbrev pub invariant-loop-c : goal.invariant-loop-c
invariant-loop-c l =
    (l.next + 21 * length (documents_from l.meta l.c) ≡ l.at + 21 * length (held_documents l.count None l.meta))
    × (length l.out ≡ length l.initial.out)
    × (sets l.out l.next (document_lines (documents_from l.meta l.c))
    ≡ sets l.initial.out l.at (document_lines (held_documents l.count None l.meta)))

abbrev pub decreases-loop-c : goal.decreases-loop-c
decreases-loop-c l = l.c.remaining
