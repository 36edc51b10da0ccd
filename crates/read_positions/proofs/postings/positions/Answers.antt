use Rattle.std.proofs.lemmas.Result.{err_from_is_err_and}
use Rattle.std.specs.Prelude.{Ok}
use mathlib.Core.Path.{ap, ◌∙◌}
use native.Mathlib.Omega.{arith}
use Rattle.read_terms.specs.Steps.{ListIsDecoded}
use Rattle.read_positions.proofs.Seeking.{no_list, positions_stopped, not_listed, places_no_room, places_fit, positions_filled}
use Rattle.read_positions.proofs.postings.positions.Goals as goal
use Rattle.read_positions.proofs.postings.positions.Goals.{In-Some}

decoded : (k : In-Some) → let list = k.in-Some.list in
    ListIsDecoded k.args.bytes.now k.args.name.now list.start list.df list.positions
decoded k = rw (k.in_ok-list.was ∙ ap Ok k.in-Some.is) at k.decode_term.ensures

pub returns-in_default : goal.returns-in_default
returns-in_default c = no_list _ _ _ _ (rw (c.in_ok-list.was ∙ ap Ok c.in_default.is) at c.decode_term.ensures)

pub returns-in_err-list : goal.returns-in_err-list
returns-in_err-list c =
    let p = err_from_is_err_and c.from_residual.result c.from_residual.ensures.1 in
    rw (p.1, p.2) (positions_stopped _ _ _ _ (rw c.in_err-list.was at c.decode_term.ensures))

pub returns-then-here-eq0 : goal.returns-then-here-eq0
returns-then-here-eq0 c =
    not_listed _ _ _ _ (decoded (goal.at.returns-then-here-eq0 c).In-Some) _ _ c.start-first.ensures c.seek-here.ensures (λ h e. omega arith)

pub returns-then-here-id : goal.returns-then-here-id
returns-then-here-id c =
    not_listed _ _ _ _ (decoded (goal.at.returns-then-here-id c).In-Some) _ _ c.start-first.ensures c.seek-here.ensures (λ h e. c.if-here-id.true e)

pub returns-then-out-n : goal.returns-then-out-n
returns-then-out-n c =
    places_no_room _ _ _ _ (decoded (goal.at.returns-then-out-n c).In-Some) _ _ c.start-first.ensures c.seek-here.ensures (omega arith) c.if-here-id.false
    c.long-n.ensures
    c.if-out-n.true

pub fill_positions-requires : goal.fill_positions-requires
fill_positions-requires c =
    places_fit _ _ _ c.args.out.now (decoded (goal.at.fill_positions-requires c).In-Some) _ _ c.start-first.ensures c.seek-here.ensures
    (omega arith) c.if-here-id.false c.long-n.ensures
    c.if-out-n.false c.start.ensures

pub returns : goal.returns
returns c =
    positions_filled _ _ _ _ (decoded (goal.at.returns c).In-Some) _ _ c.start-first.ensures c.seek-here.ensures (omega arith) c.if-here-id.false
    c.long-n.ensures
    c.if-out-n.false c.start.ensures c.fill_positions.ensures
