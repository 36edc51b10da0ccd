-- Each way out is one step of the check that fails, or the last one, with the size of the lists.
use mathlib.Core.Path.{sym, ◌∙◌}
use Rattle.calls.specs.Given.{Lists, lists}
use Rattle.calls.specs.Checks.{check_lists}
use Rattle.calls.proofs.Passing.{small_gives, shaped_gives}
use Rattle.write_checks.proofs.Measuring.{measure_stops}
use Rattle.write_check_all.proofs.ListsChecked.{lists_large, lists_unshaped, lists_documents, lists_checkable, lists_terms, lists_sized}
use Rattle.std.proofs.Common.{ap}
use Rattle.std.proofs.lemmas.Result.{err_from_is_err_and}
use mathlib.Core.Bool.{not}
use Rattle.write_check_all.proofs.lists.measure_lists.Goals as goal
use Rattle.write_check_all.proofs.lists.measure_lists.Goals.{Start}

abbrev given_lists : Start → Lists
given_lists c =
    let a = c.args in
    lists a.ids.now a.lengths.now a.text.now a.ends.now a.posting_counts.now a.posting_ids.now
    a.position_counts.now a.positions.now

pub returns-then-not-is_small : goal.returns-then-not-is_small
returns-then-not-is_small c =
    (measure_stops (check_lists (given_lists (goal.at.returns-then-not-is_small c).Start)) _
    (lists_large _ c.is_small.ensures (ap not c.if-not-is_small.true)))

pub is_shaped-requires : goal.is_shaped-requires
is_shaped-requires c =
    let s = small_gives _ (sym c.is_small.ensures ∙ c.if-not-is_small.false) in
    (s.posting_counts, s.position_counts)

pub returns-then-not-is_shaped : goal.returns-then-not-is_shaped
returns-then-not-is_shaped c =
    (measure_stops (check_lists (given_lists (goal.at.returns-then-not-is_shaped c).Start)) _
    (lists_unshaped _ c.is_small.ensures (ap not c.if-not-is_small.false) c.is_shaped.ensures (ap not c.if-not-is_shaped.true)))

pub check_document_lengths-requires : goal.check_document_lengths-requires
check_document_lengths-requires c = (shaped_gives _ (sym c.is_shaped.ensures ∙ c.if-not-is_shaped.false)).documents

pub returns-in_err-check_document_lengths : goal.returns-in_err-check_document_lengths
returns-in_err-check_document_lengths c =
    let p = err_from_is_err_and c.from_residual.result c.from_residual.ensures.1 in
    rw (p.1, p.2)
    (measure_stops (check_lists (given_lists (goal.at.returns-in_err-check_document_lengths c).Start)) _
    (lists_documents _ c.is_small.ensures (ap not c.if-not-is_small.false) c.is_shaped.ensures (ap not c.if-not-is_shaped.false)
    c.in_err-check_document_lengths.ensures))

pub measure_terms-requires : goal.measure_terms-requires
measure_terms-requires c =
    lists_checkable _ c.is_small.ensures (ap not c.if-not-is_small.false) c.is_shaped.ensures
    (ap not c.if-not-is_shaped.false) c.in_ok-check_document_lengths.ensures

pub returns : goal.returns
returns c =
    c.measure_terms.ensures
    ∙ lists_sized (given_lists (goal.at.returns c).Start)
    (lists_terms _ c.is_small.ensures (ap not c.if-not-is_small.false) c.is_shaped.ensures (ap not c.if-not-is_shaped.false)
    c.in_ok-check_document_lengths.ensures)
