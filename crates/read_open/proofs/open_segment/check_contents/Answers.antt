use Rattle.std.proofs.lemmas.Result.{err_from_is_err_and}
use mathlib.Core.Path.{sym, ◌∙◌}
use Rattle.read_open.proofs.Openings.{no_documents, then_terms}
use Rattle.read_open.proofs.open_segment.check_contents.Goals as goal

pub returns-in_err-decode_document_lengths : goal.returns-in_err-decode_document_lengths
returns-in_err-decode_document_lengths c =
    let p = err_from_is_err_and c.from_residual.result c.from_residual.ensures.1 in
    rw (p.1, p.2)
    (no_documents _ (sym c.in_err-decode_document_lengths.was ∙ c.decode_document_lengths.ensures))

pub returns : goal.returns
returns c =
    then_terms _ (sym c.in_ok-decode_document_lengths.was ∙ c.decode_document_lengths.ensures) c.decode_term_directory.ensures
