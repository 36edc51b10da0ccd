use mathlib.Core.Path.{◌≡◌}
use Rattle.segment.specs.Records.{Document}
use Rattle.read_cursors.specs.Held.{seek_in}
use Rattle.read_cursors.specs.Steps.{documents_from}
use Rattle.read_cursors.proofs.documents.Documents.seek.Given as goal

abbrev pub invariant-loop-c : goal.invariant-loop-c
invariant-loop-c l =
    seek_in (λ (d : Document). d.id) l.id.0 (documents_from l.meta l.c) ≡ seek_in (λ (d : Document). d.id) l.id.0 (documents_from l.meta l.initial.c)

abbrev pub decreases-loop-c : goal.decreases-loop-c
decreases-loop-c l = l.c.remaining
