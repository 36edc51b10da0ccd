use mathlib.Core.Logic.{⊎_elim}
use native.Mathlib.Omega.{arith}
use Rattle.handle.specs.Handles.{Usable}
use Rattle.read_checked.proofs.Answers.{length_known, length_absent}
use Rattle.read_checked.proofs.documents.document_len_checked.Goals as goal
use Rattle.read_checked.proofs.documents.document_len_checked.Goals.{Else-not-usable}

-- The handle is used
used : (e : Else-not-usable) → let a = e.args in Usable a.bytes.now a.h
used e = e.usable.ensures.0 e.if-not-usable.false

pub returns-then-here-eq0 : goal.returns-then-here-eq0
returns-then-here-eq0 c =
    length_absent _ _ _ (used (goal.at.returns-then-here-eq0 c).Else-not-usable) _ _ c.start-first.ensures c.seek-here.ensures
    (⊎_elim (λ w h k. omega arith) (λ w h k. w.1 k) c.then-here-eq0.either)

pub returns : goal.returns
returns c =
    length_known _ _ _ (used (goal.at.returns c).Else-not-usable) _ _ c.start-first.ensures c.seek-here.ensures (omega arith)
    c.if-here-id.false
