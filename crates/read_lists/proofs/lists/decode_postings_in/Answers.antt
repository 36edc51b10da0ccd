use Rattle.std.proofs.lemmas.Result.{err_from_is_err_and}
use Rattle.std.specs.Prelude.{Some}
use Prim.Native.Nat.{◌+◌}
use native.Mathlib.Omega.{arith}
use Rattle.segment.specs.Steps.{id_of}
use Rattle.read_lists.specs.Steps.{WalkedHead, positions_in}
use Rattle.read_lists.proofs.Tallies.{one_counted}
use Rattle.read_lists.proofs.Running.{Running, runs, head_stops, positions_stop, runs_on, ends_short, ends_whole}
use Rattle.read_lists.proofs.Nearer.{agrees_all, walks_near, agrees_on}
use Rattle.read_lists.proofs.lists.decode_postings_in.Goals as goal
use Rattle.read_lists.proofs.lists.decode_postings_in.Goals.{After-count_in, After-read_head}

-- it was read from the mark as it would be from the cursor at hand
walked : (r : After-read_head) →
    let a = r.args in
    WalkedHead a.list.now r.loop-place.reader.at r.loop-place.place (id_of r.loop-place.previous) a.meta.now r.loop-place.known r.read_head.result
walked r =
    walks_near r.loop-place.invariant.1 _ (r.requires.each r.place_for.result r.place_for.ensures)
    r.peek-target.ensures r.nearer-near.ensures r.read_head.ensures

-- after a turn
again : (c : After-count_in) (w : let a = c.args in
    WalkedHead a.list.now c.loop-place.reader.at c.loop-place.place (id_of c.loop-place.previous) a.meta.now c.loop-place.known c.read_head.result) →
    let d = c.in_ok-head.head in
    let a = c.args in
    Running (positions_in a.doc.0) a.list.now a.meta.now a.df a.documents d.documents
    c.in_ok-reader.reader.at (Some d.doc.0) (c.loop-place.total + c.count_in.result) (c.loop-place.place + 1)
again c w =
    runs_on (one_counted c.args.doc.0) c.loop-place.invariant.0 (omega arith) w c.in_ok-head.was c.read_positions.ensures
    c.in_ok-reader.was c.count_in.ensures

pub loop-place-init : goal.loop-place-init
loop-place-init c = (runs _ _ _ _ _ _ c.start-known.ensures, agrees_all _ c.start-known.ensures)

pub bounds-marks-place_for : goal.bounds-marks-place_for
bounds-marks-place_for c = c.place_for.ensures

pub returns-in_err-head : goal.returns-in_err-head
returns-in_err-head c =
    let p = err_from_is_err_and c.from_residual.result c.from_residual.ensures.1 in
    rw (p.1, p.2)
    (head_stops (one_counted c.args.doc.0) c.loop-place.invariant.0 (omega arith) (walked (goal.at.returns-in_err-head c).After-read_head)
    c.in_err-head.was)

pub returns-in_err-reader : goal.returns-in_err-reader
returns-in_err-reader c =
    let p = err_from_is_err_and c.from_residual-in_err-reader.result c.from_residual-in_err-reader.ensures.1 in
    rw (p.1, p.2)
    (positions_stop (one_counted c.args.doc.0) c.loop-place.invariant.0 (omega arith)
    (walked (goal.at.returns-in_err-reader c).After-read_head) c.in_ok-head.was c.read_positions.ensures c.in_err-reader.was)

pub overflow_add-total : goal.overflow_add-total
overflow_add-total c =
    let g = goal.at.overflow_add-total c in
    omega (arith, (again g.After-count_in (walked g.After-read_head)).fits)

pub loop-place-preserved : goal.loop-place-preserved
loop-place-preserved c =
    let g = goal.at.loop-place-preserved c in
    (again g.After-count_in (walked g.After-read_head), agrees_on c.loop-place.invariant.1 (walked g.After-read_head) c.in_ok-head.was)

pub returns-then-reader-list : goal.returns-then-reader-list
returns-then-reader-list c = ends_short (one_counted c.args.doc.0) c.loop-place.invariant.0 (omega arith) c.if-reader-list.true

pub returns : goal.returns
returns c = ends_whole (one_counted c.args.doc.0) c.loop-place.invariant.0 (omega arith) c.if-reader-list.false
