-- The bytes after the documents that are still to be read are those after all documents, or the refusal is the same.
use Rattle.std.specs.Prelude.{None}
use mathlib.Core.Path.{◌≡◌}
use Prim.Native.Nat.{◌-◌}
use lib.ListN.{drop}
use Rattle.segment.specs.Metadata.{read_documents}
use Rattle.segment.specs.Steps.{id_of}
use Rattle.read_lists.specs.Steps.{after}
use Rattle.read_lists.proofs.metadata.decode_document_lengths.Given as goal

abbrev pub invariant-loop-index : goal.invariant-loop-index
invariant-loop-index l =
    after (read_documents (l.count - l.index) l.index (id_of l.previous) (drop l.reader.at l.meta)) ≡ after (read_documents l.count 0 None l.meta)
