use Rattle.std.proofs.lemmas.Result.{err_from_is_err_and}
use Rattle.std.specs.Prelude.{Some}
use Prim.Native.Nat.{◌+◌}
use mathlib.Core.Path.{refl}
use native.Mathlib.Omega.{arith}
use Rattle.segment.specs.Postings.{total_positions}
use Rattle.read_lists.proofs.Tallies.{all_counted}
use Rattle.read_lists.proofs.Running.{Running, runs, head_stops, positions_stop, runs_on, ends_short, ends_whole}
use Rattle.read_lists.proofs.lists.decode_postings_bytes.Goals as goal
use Rattle.read_lists.proofs.lists.decode_postings_bytes.Goals.{In_ok-reader}

-- after a turn
again : (n : In_ok-reader) →
    let d = n.in_ok-head.head in
    let a = n.args in
    Running total_positions a.list.now a.meta.now a.df a.documents d.documents n.in_ok-reader.reader.at (Some d.doc.0)
    (n.loop-place.total + d.count) (n.loop-place.place + 1)
again n =
    runs_on all_counted n.loop-place.invariant (omega arith) n.read_head.ensures n.in_ok-head.was n.read_positions.ensures n.in_ok-reader.was
    refl

pub loop-place-init : goal.loop-place-init
loop-place-init c = runs total_positions _ _ _ _ _ c.start-known.ensures

pub returns-in_err-head : goal.returns-in_err-head
returns-in_err-head c =
    let p = err_from_is_err_and c.from_residual.result c.from_residual.ensures.1 in
    rw (p.1, p.2) (head_stops all_counted c.loop-place.invariant (omega arith) c.read_head.ensures c.in_err-head.was)

pub returns-in_err-reader : goal.returns-in_err-reader
returns-in_err-reader c =
    let p = err_from_is_err_and c.from_residual-in_err-reader.result c.from_residual-in_err-reader.ensures.1 in
    rw (p.1, p.2)
    (positions_stop all_counted c.loop-place.invariant (omega arith) c.read_head.ensures c.in_ok-head.was c.read_positions.ensures
    c.in_err-reader.was)

pub overflow_add-total : goal.overflow_add-total
overflow_add-total c =
    omega (arith, (again (goal.at.overflow_add-total c).In_ok-reader).fits, c.type_inv.list, c.in_ok-reader.ensures.moved)

pub loop-place-preserved : goal.loop-place-preserved
loop-place-preserved c = again (goal.at.loop-place-preserved c).In_ok-reader

pub returns-then-reader-list : goal.returns-then-reader-list
returns-then-reader-list c = ends_short all_counted c.loop-place.invariant (omega arith) c.if-reader-list.true

pub returns : goal.returns
returns c = ends_whole all_counted c.loop-place.invariant (omega arith) c.if-reader-list.false
