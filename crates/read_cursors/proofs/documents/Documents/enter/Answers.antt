-- The list from the cursor begins with the document that was read; where it was refused both lists are empty.
use mathlib.Core.Path.{sym, ap, ◌∙◌}
use borrow.Author.Rules.{rules}
use Rattle.read_cursors.specs.Steps.{document_means}
use Rattle.read_cursors.proofs.DocumentCursors.{enter_none, enter_refused, enter_next}
use Rattle.read_cursors.proofs.documents.Documents.enter.Goals as goal

pub returns-then-remaining-eq0 : goal.returns-then-remaining-eq0
returns-then-remaining-eq0 c =
    let a = c.args in
    record { list = enter_none a.meta.now a.from.at _ a.remaining _ _ _ c.if-remaining-eq0.true; less = search rules }

pub returns-in_default : goal.returns-in_default
returns-in_default c =
    let a = c.args in
    let e = sym c.read_document_each.ensures ∙ ap (document_means a.meta.now) c.in_default.is in
    record { list = enter_refused a.meta.now a.from.at _ a.index a.remaining _ _ _ e; less = search rules }

pub returns : goal.returns
returns c =
    let a = c.args in
    let e = sym c.read_document_each.ensures ∙ ap (document_means a.meta.now) c.in-Ok.is in
    record { list = enter_next a.meta.now a.from.at _ a.index a.remaining _ _ _ e; less = search rules }
