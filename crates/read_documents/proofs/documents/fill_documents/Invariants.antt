use Rattle.std.specs.Prelude.{None}
use Rattle.read_cursors.specs.Held.{held_documents}
use Rattle.read_cursors.specs.Steps.{documents_from}
use Rattle.calls.specs.Replies.{ids_of, lengths_of}
use Rattle.calls.proofs.Filling.{ToStore}
use Rattle.read_documents.proofs.documents.fill_documents.Given as goal

abbrev pub invariant-loop-c : goal.invariant-loop-c
invariant-loop-c l =
    ToStore (ids_of (held_documents l.count None l.meta)) 0 l.initial.ids (ids_of (documents_from l.meta l.c)) l.i l.ids
    × ToStore (lengths_of (held_documents l.count None l.meta)) 0 l.initial.lengths (lengths_of (documents_from l.meta l.c)) l.i l.lengths

abbrev pub decreases-loop-c : goal.decreases-loop-c
decreases-loop-c l = l.c.remaining
