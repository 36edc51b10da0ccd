use Rattle.std.proofs.lemmas.Result.{err_from_is_err_and}
use Rattle.std.specs.Prelude.{Ok, Some}
use mathlib.Core.Path.{ap, ◌∙◌}
use Rattle.handle.specs.Handles.{Usable}
use Rattle.read_checked.specs.Steps.{ListNamed}
use Rattle.read_checked.proofs.Answers.{postings_plain, postings_unnamed, postings_nowhere, ids_short, counts_short, places_short}
use Rattle.read_checked.proofs.Answers.{postings_fit, postings_listed}
use Rattle.read_checked.proofs.postings.term_postings_checked.Goals as goal
use Rattle.read_checked.proofs.postings.term_postings_checked.Goals.{Else-not-usable, In-Some}

-- The handle is used, and the list was found
used : (e : Else-not-usable) → let a = e.args in Usable a.bytes.now a.h
used e = e.usable.ensures.0 e.if-not-usable.false

listed : (k : In-Some) → let a = k.args in ListNamed a.bytes.now a.h a.name.now (Ok (Some k.in-Some.list))
listed k = rw (k.in_ok-list.was ∙ ap Ok k.in-Some.is) at k.named_list.ensures

pub returns-then-not-usable : goal.returns-then-not-usable
returns-then-not-usable c = postings_plain _ _ _ _ _ _ c.term_postings.ensures

pub returns-in_default : goal.returns-in_default
returns-in_default c =
    postings_nowhere _ _ _ _ _ _ (used (goal.at.returns-in_default c).Else-not-usable)
    (rw (c.in_ok-list.was ∙ ap Ok c.in_default.is) at c.named_list.ensures)

pub returns-in_err-list : goal.returns-in_err-list
returns-in_err-list c =
    let p = err_from_is_err_and c.from_residual.result c.from_residual.ensures.1 in
    rw (p.1, p.2)
    (postings_unnamed _ _ _ _ _ _ (used (goal.at.returns-in_err-list c).Else-not-usable) (rw c.in_err-list.was at c.named_list.ensures))

pub returns-then-ids-n : goal.returns-then-ids-n
returns-then-ids-n c =
    let g = goal.at.returns-then-ids-n c in
    ids_short _ _ _ _ _ _ (used g.Else-not-usable) _ (listed g.In-Some) c.long-n.ensures c.if-ids-n.true

pub returns-then-counts-n : goal.returns-then-counts-n
returns-then-counts-n c =
    let g = goal.at.returns-then-counts-n c in
    counts_short _ _ _ _ _ _ (used g.Else-not-usable) _ (listed g.In-Some) c.long-n.ensures c.if-ids-n.false c.if-counts-n.true

pub returns-then-positions-total : goal.returns-then-positions-total
returns-then-positions-total c =
    let g = goal.at.returns-then-positions-total c in
    places_short _ _ _ _ _ _ (used g.Else-not-usable) _ (listed g.In-Some) c.long-n.ensures c.if-ids-n.false c.if-counts-n.false
    c.count_positions-total.ensures
    c.if-positions-total.true

pub fill_postings-requires : goal.fill_postings-requires
fill_postings-requires c =
    let g = goal.at.fill_postings-requires c in
    let a = c.args in
    postings_fit _ _ _ a.ids.now a.counts.now a.positions.now (used g.Else-not-usable) _ (listed g.In-Some) c.long-n.ensures
    c.if-ids-n.false c.if-counts-n.false c.count_positions-total.ensures c.if-positions-total.false

pub returns : goal.returns
returns c =
    let g = goal.at.returns c in
    postings_listed _ _ _ _ _ _ (used g.Else-not-usable) _ (listed g.In-Some) c.long-n.ensures c.if-ids-n.false c.if-counts-n.false
    c.count_positions-total.ensures
    c.if-positions-total.false c.fill_postings.ensures
