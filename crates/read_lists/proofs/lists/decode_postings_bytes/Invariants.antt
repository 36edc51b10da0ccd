use Rattle.segment.specs.Postings.{total_positions}
use Rattle.segment.specs.Steps.{id_of}
use Rattle.read_lists.proofs.Running.{Running}
use Rattle.read_lists.proofs.lists.decode_postings_bytes.Given as goal

abbrev pub invariant-loop-place : goal.invariant-loop-place
invariant-loop-place l =
    Running total_positions l.list l.meta l.df l.documents l.known l.reader.at (id_of l.previous) l.total l.place
