use mathlib.Core.Path.{refl}
use native.Mathlib.Omega.{arith}
use Rattle.segment.specs.Records.{Document}
use Rattle.read_cursors.specs.Steps.{documents_from}
use Rattle.read_cursors.proofs.Seeks.{Ahead, seek_stop, seek_end, seek_next}
use Rattle.read_cursors.proofs.DocumentCursors.{documents_ahead}
use Rattle.read_cursors.proofs.documents.Documents.seek.Goals as goal
use Rattle.read_cursors.proofs.documents.Documents.seek.Goals.{At-loop-c}

ahead : (l : At-loop-c)
    → let p = l.loop-c.c in Ahead (λ (d : Document). d.id) p.id.0 p.remaining
    (documents_from l.args.meta.now p)
ahead l = let p = l.loop-c.c in documents_ahead _ p.remaining p.at p.id.0 p.len

pub loop-c-init : goal.loop-c-init
loop-c-init c = refl

pub returns-then-id-c : goal.returns-then-id-c
returns-then-id-c c =
    record { list = seek_stop _ (ahead (goal.at.returns-then-id-c c).At-loop-c) c.loop-c.invariant (omega arith); reached = λ h. omega arith }

pub loop-c-preserved : goal.loop-c-preserved
loop-c-preserved c =
    seek_next _ (ahead (goal.at.loop-c-preserved c).At-loop-c) c.loop-c.invariant (omega arith) c.advance-c.ensures.list

pub returns : goal.returns
returns c =
    record { list = seek_end _ (ahead (goal.at.returns c).At-loop-c) c.loop-c.invariant (omega arith); reached = λ h. absurd (omega arith) }
