use Rattle.std.specs.Prelude.{None}
use Rattle.segment.specs.Steps.{id_of}
use Rattle.read_cursors.specs.Held.{held_documents}
use Rattle.read_lists.specs.Steps.{positions_in}
use Rattle.read_lists.proofs.Running.{Running}
use Rattle.read_lists.proofs.Nearer.{Agrees}
use Rattle.read_lists.proofs.lists.decode_postings_in.Given as goal

abbrev pub invariant-loop-place : goal.invariant-loop-place
invariant-loop-place l =
    Running (positions_in l.doc.0) l.list l.meta l.df l.documents l.known l.reader.at (id_of l.previous) l.total l.place
    × Agrees l.meta (held_documents l.documents None l.meta) (id_of l.previous) l.known
