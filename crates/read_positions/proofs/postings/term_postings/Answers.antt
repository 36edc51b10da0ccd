use Rattle.std.proofs.lemmas.Result.{err_from_is_err_and}
use Rattle.std.specs.Prelude.{Ok}
use mathlib.Core.Path.{ap, ◌∙◌}
use native.Mathlib.Omega.{arith}
use Rattle.read_terms.specs.Steps.{ListIsDecoded}
use Rattle.read_terms.proofs.Answering.{spots_many}
use Rattle.read_positions.proofs.Answering.{positions_many, postings_none, postings_stopped, ids_no_room, counts_no_room}
use Rattle.read_positions.proofs.Answering.{positions_no_room, postings_filled}
use Rattle.read_positions.proofs.postings.term_postings.Goals as goal
use Rattle.read_positions.proofs.postings.term_postings.Goals.{In-Some}

decoded : (k : In-Some) → let list = k.in-Some.list in
    ListIsDecoded k.args.bytes.now k.args.name.now list.start list.df list.positions
decoded k = rw (k.in_ok-list.was ∙ ap Ok k.in-Some.is) at k.decode_term.ensures

pub returns-in_default : goal.returns-in_default
returns-in_default c = postings_none _ _ _ _ _ (rw (c.in_ok-list.was ∙ ap Ok c.in_default.is) at c.decode_term.ensures)

pub returns-in_err-list : goal.returns-in_err-list
returns-in_err-list c =
    let p = err_from_is_err_and c.from_residual.result c.from_residual.ensures.1 in
    rw (p.1, p.2) (postings_stopped _ _ _ _ _ (rw c.in_err-list.was at c.decode_term.ensures))

pub returns-then-ids-n : goal.returns-then-ids-n
returns-then-ids-n c =
    ids_no_room _ _ _ _ _ (decoded (goal.at.returns-then-ids-n c).In-Some) c.long-n.ensures c.if-ids-n.true

pub returns-then-counts-n : goal.returns-then-counts-n
returns-then-counts-n c =
    counts_no_room _ _ _ _ _ (decoded (goal.at.returns-then-counts-n c).In-Some) c.long-n.ensures c.if-ids-n.false c.if-counts-n.true

pub returns-then-positions-total : goal.returns-then-positions-total
returns-then-positions-total c =
    positions_no_room _ _ _ _ _ (decoded (goal.at.returns-then-positions-total c).In-Some) c.long-n.ensures c.if-ids-n.false c.if-counts-n.false
    c.if-positions-total.true

pub fill_postings-requires : goal.fill_postings-requires
fill_postings-requires c =
    let n = spots_many (decoded (goal.at.fill_postings-requires c).In-Some) in (
      omega (arith, n, c.long-n.ensures, c.if-ids-n.false),
      omega (arith, n, c.long-n.ensures, c.if-counts-n.false),
      omega (arith, positions_many (decoded (goal.at.fill_postings-requires c).In-Some), c.if-positions-total.false),
    )

pub returns : goal.returns
returns c =
    postings_filled _ _ _ _ _ (decoded (goal.at.returns c).In-Some) c.long-n.ensures c.if-ids-n.false c.if-counts-n.false c.if-positions-total.false
    c.fill_postings.ensures
