use Rattle.std.proofs.lemmas.Result.{err_from_is_err_and}
use mathlib.Core.Path.{sym, ap, ◌∙◌}
use native.Mathlib.Omega.{arith}
use Rattle.read_cursors.specs.Steps.{document_means}
use Rattle.read_lists.proofs.DocumentsChecked.{ends, documents_next, documents_stop, documents_end, closed_short, closed_whole}
use Rattle.read_lists.proofs.metadata.decode_document_lengths.Goals as goal

pub loop-index-preserved : goal.loop-index-preserved
loop-index-preserved c =
    let s = c.args.meta.now in
    let d = c.in_ok-document.document in
    documents_next s _ _ _ c.loop-index.reader.at c.loop-index.invariant _ d.len d.next.at (omega arith)
    (sym c.read_document.ensures ∙ ap (document_means s) c.in_ok-document.was)

pub returns-in_err-document : goal.returns-in_err-document
returns-in_err-document c =
    let s = c.args.meta.now in
    let p = err_from_is_err_and c.from_residual.result c.from_residual.ensures.1 in
    rw (p.1, p.2)
    (ends s _
    (documents_stop s _ _ _ c.loop-index.reader.at c.loop-index.invariant (omega arith)
    (sym c.read_document.ensures ∙ ap (document_means s) c.in_err-document.was)))

pub returns-then-reader-meta : goal.returns-then-reader-meta
returns-then-reader-meta c =
    let l = c.loop-index in
    let s = c.args.meta.now in
    sym (closed_short s l.reader.at (omega arith)) ∙ ends s _ (documents_end s _ _ _ l.reader.at l.invariant (omega arith))

pub returns : goal.returns
returns c =
    let l = c.loop-index in
    let s = c.args.meta.now in
    sym (closed_whole s l.reader.at (omega arith)) ∙ ends s _ (documents_end s _ _ _ l.reader.at l.invariant (omega arith))
