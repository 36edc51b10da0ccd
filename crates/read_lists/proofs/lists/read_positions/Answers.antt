use Rattle.std.proofs.lemmas.Result.{err_from_is_err_and}
use Prim.Native.Nat.{◌+◌, ◌-◌}
use mathlib.Core.Path.{◌≡◌}
use native.Mathlib.Omega.{arith}
use Rattle.read_lists.proofs.Positions.{positions_next, positions_long, positions_stop, positions_end}
use Rattle.read_lists.proofs.lists.read_positions.Goals as goal

pub loop-i-init : goal.loop-i-init
loop-i-init c =
    let a = c.args in
    let n : a.count - 0 ≡ a.count = omega arith in
    let m : a.place + 0 ≡ a.place = omega arith in
    (omega arith, rw (n, m))

pub returns-in_err-position : goal.returns-in_err-position
returns-in_err-position c =
    let p = err_from_is_err_and c.from_residual.result c.from_residual.ensures.1 in
    rw (p.1, p.2)
    (record {
      reads =
          positions_stop c.args.list.now c.loop-i.reader.at _ _ _ _ _ c.loop-i.invariant.1 (omega arith) _ c.read_value.ensures
          c.in_err-position.was;
      moved = tt;
    })

pub returns-then-len-position : goal.returns-then-len-position
returns-then-len-position c =
    record {
      reads =
          positions_long c.args.list.now c.loop-i.reader.at _ _ _ _ _ c.loop-i.invariant.1 (omega arith) _ c.read_value.ensures
          c.in_ok-position.was c.if-len-position.true;
      moved = tt;
    }

pub loop-i-preserved : goal.loop-i-preserved
loop-i-preserved c =
    let next = positions_next c.args.list.now c.loop-i.reader.at _ _ _ _ _ c.loop-i.invariant.1 (omega arith) _ c.read_value.ensures
    c.in_ok-position.was c.if-len-position.false in
    (omega (arith, next.0, c.loop-i.invariant.0), next.1)

pub returns : goal.returns
returns c =
    record { reads = positions_end c.args.list.now c.loop-i.reader.at _ _ _ _ _ c.loop-i.invariant.1 (omega arith); moved = omega arith }
