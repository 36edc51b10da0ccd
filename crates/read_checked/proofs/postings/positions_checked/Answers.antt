use Rattle.std.proofs.lemmas.Result.{err_from_is_err_and}
use Rattle.std.specs.Prelude.{Ok, Some}
use mathlib.Core.Logic.{⊎_elim}
use mathlib.Core.Path.{ap, ◌∙◌}
use native.Mathlib.Omega.{arith}
use Rattle.handle.specs.Handles.{Usable}
use Rattle.read_checked.specs.Steps.{ListNamed}
use Rattle.read_checked.proofs.Answers.{positions_plain, positions_unnamed, positions_nowhere, positions_elsewhere}
use Rattle.read_checked.proofs.Answers.{positions_short, positions_fit, positions_listed}
use Rattle.read_checked.proofs.postings.positions_checked.Goals as goal
use Rattle.read_checked.proofs.postings.positions_checked.Goals.{Else-not-usable, In-Some}

-- The handle is used, and the list was found
used : (e : Else-not-usable) → let a = e.args in Usable a.bytes.now a.h
used e = e.usable.ensures.0 e.if-not-usable.false

listed : (k : In-Some) → let a = k.args in ListNamed a.bytes.now a.h a.name.now (Ok (Some k.in-Some.list))
listed k = rw (k.in_ok-list.was ∙ ap Ok k.in-Some.is) at k.named_list.ensures

pub returns-then-not-usable : goal.returns-then-not-usable
returns-then-not-usable c = positions_plain _ _ _ _ _ c.positions.ensures

pub returns-in_default : goal.returns-in_default
returns-in_default c =
    positions_nowhere _ _ _ _ _ (used (goal.at.returns-in_default c).Else-not-usable)
    (rw (c.in_ok-list.was ∙ ap Ok c.in_default.is) at c.named_list.ensures)

pub returns-in_err-list : goal.returns-in_err-list
returns-in_err-list c =
    let p = err_from_is_err_and c.from_residual.result c.from_residual.ensures.1 in
    rw (p.1, p.2)
    (positions_unnamed _ _ _ _ _ (used (goal.at.returns-in_err-list c).Else-not-usable) (rw c.in_err-list.was at c.named_list.ensures))

pub returns-then-here-eq0 : goal.returns-then-here-eq0
returns-then-here-eq0 c =
    let g = goal.at.returns-then-here-eq0 c in
    positions_elsewhere _ _ _ _ _ (used g.Else-not-usable) _ (listed g.In-Some) _ _ c.start-first.ensures c.seek-here.ensures
    (⊎_elim (λ w h k. omega arith) (λ w h k. w.1 k) c.then-here-eq0.either)

pub returns-then-out-n : goal.returns-then-out-n
returns-then-out-n c =
    let g = goal.at.returns-then-out-n c in
    positions_short _ _ _ _ _ (used g.Else-not-usable) _ (listed g.In-Some) _ _ c.start-first.ensures c.seek-here.ensures (omega arith)
    c.if-here-id.false c.long-n.ensures c.if-out-n.true

pub fill_positions-requires : goal.fill_positions-requires
fill_positions-requires c =
    let g = goal.at.fill_positions-requires c in
    positions_fit _ _ _ _ c.args.out.now (used g.Else-not-usable) _ (listed g.In-Some) _ _ c.start-first.ensures c.seek-here.ensures
    (omega arith) c.if-here-id.false c.long-n.ensures c.if-out-n.false c.start.ensures

pub returns : goal.returns
returns c =
    let g = goal.at.returns c in
    positions_listed _ _ _ _ _ (used g.Else-not-usable) _ (listed g.In-Some) _ _ c.start-first.ensures c.seek-here.ensures (omega arith)
    c.if-here-id.false c.long-n.ensures c.if-out-n.false c.start.ensures c.fill_positions.ensures
