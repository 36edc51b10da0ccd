use Rattle.std.proofs.lemmas.Result.{err_from_is_err_and}
use Rattle.std.specs.Prelude.{Ok}
use mathlib.Core.Logic.{⊎_elim}
use native.Mathlib.Omega.{arith}
use Rattle.read_open.specs.Steps.{SectionsFollow}
use Rattle.read_open.specs.Opened.{Opens}
use Rattle.read_documents.proofs.Lengths.{len_shut, len_known, len_absent}
use Rattle.read_documents.proofs.documents.document_len.Goals as goal
use Rattle.read_documents.proofs.documents.document_len.Goals.{In_ok-at}

opens : (k : In_ok-at) → Opens k.args.bytes.now (Ok k.in_ok-at.at)
opens k = rw k.in_ok-at.was at k.open_layout.ensures

ordered : (k : In_ok-at) → SectionsFollow k.args.bytes.now k.in_ok-at.at
ordered k = (opens k).2.ordered

pub returns-in_err-at : goal.returns-in_err-at
returns-in_err-at c =
    let p = err_from_is_err_and c.from_residual.result c.from_residual.ensures.1 in
    rw (p.1, p.2) (len_shut _ _ (rw c.in_err-at.was at c.open_layout.ensures))

pub slice_bounds-meta-count : goal.slice_bounds-meta-count
slice_bounds-meta-count c = omega (arith, ordered (goal.at.slice_bounds-meta-count c).In_ok-at)

pub slice_bounds-meta-start : goal.slice_bounds-meta-start
slice_bounds-meta-start c = omega (arith, ordered (goal.at.slice_bounds-meta-start c).In_ok-at)

pub slice_bounds-meta-end : goal.slice_bounds-meta-end
slice_bounds-meta-end c = omega (arith, ordered (goal.at.slice_bounds-meta-end c).In_ok-at)

pub returns-then-here-eq0 : goal.returns-then-here-eq0
returns-then-here-eq0 c =
    len_absent _ c.in_ok-at.at (opens (goal.at.returns-then-here-eq0 c).In_ok-at) _ _ _ c.start-first.ensures c.seek-here.ensures
    (⊎_elim (λ w h k. omega arith) (λ w h k. w.1 k) c.then-here-eq0.either)

pub returns : goal.returns
returns c =
    len_known _ c.in_ok-at.at (opens (goal.at.returns c).In_ok-at) _ _ _ c.start-first.ensures c.seek-here.ensures (omega arith)
    c.if-here-id.false
