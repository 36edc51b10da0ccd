use Rattle.std.proofs.lemmas.Result.{err_from_is_err_and}
use Rattle.std.specs.Prelude.{Ok}
use native.Mathlib.Omega.{arith}
use Rattle.read_open.specs.Steps.{SectionsFollow}
use Rattle.read_open.specs.Opened.{Opens}
use Rattle.read_documents.proofs.Lengths.{lengths_shut, no_room_for_ids, no_room_for_lengths, documents_many, lengths_filled}
use Rattle.read_documents.proofs.documents.document_lengths.Goals as goal
use Rattle.read_documents.proofs.documents.document_lengths.Goals.{In_ok-at}

opens : (k : In_ok-at) → Opens k.args.bytes.now (Ok k.in_ok-at.at)
opens k = rw k.in_ok-at.was at k.open_layout.ensures

ordered : (k : In_ok-at) → SectionsFollow k.args.bytes.now k.in_ok-at.at
ordered k = (opens k).2.ordered

pub returns-in_err-at : goal.returns-in_err-at
returns-in_err-at c =
    let p = err_from_is_err_and c.from_residual.result c.from_residual.ensures.1 in
    rw (p.1, p.2) (lengths_shut _ _ _ (rw c.in_err-at.was at c.open_layout.ensures))

pub returns-then-ids-n : goal.returns-then-ids-n
returns-then-ids-n c =
    no_room_for_ids _ _ _ c.in_ok-at.at (opens (goal.at.returns-then-ids-n c).In_ok-at) c.long-n.ensures c.if-ids-n.true

pub returns-then-lengths-n : goal.returns-then-lengths-n
returns-then-lengths-n c =
    no_room_for_lengths _ _ _ c.in_ok-at.at (opens (goal.at.returns-then-lengths-n c).In_ok-at) c.long-n.ensures c.if-ids-n.false
    c.if-lengths-n.true

pub slice_bounds-fill_documents-count : goal.slice_bounds-fill_documents-count
slice_bounds-fill_documents-count c = omega (arith, ordered (goal.at.slice_bounds-fill_documents-count c).In_ok-at)

pub slice_bounds-fill_documents-start : goal.slice_bounds-fill_documents-start
slice_bounds-fill_documents-start c = omega (arith, ordered (goal.at.slice_bounds-fill_documents-start c).In_ok-at)

pub slice_bounds-fill_documents-end : goal.slice_bounds-fill_documents-end
slice_bounds-fill_documents-end c = omega (arith, ordered (goal.at.slice_bounds-fill_documents-end c).In_ok-at)

pub fill_documents-requires : goal.fill_documents-requires
fill_documents-requires c =
    let n = documents_many _ c.in_ok-at.at (opens (goal.at.fill_documents-requires c).In_ok-at) c.long-n.ensures in
    (omega (arith, n, c.if-ids-n.false), omega (arith, n, c.if-lengths-n.false))

pub returns : goal.returns
returns c =
    lengths_filled _ _ _ c.in_ok-at.at (opens (goal.at.returns c).In_ok-at) c.long-n.ensures c.if-ids-n.false c.if-lengths-n.false
    c.fill_documents.ensures
