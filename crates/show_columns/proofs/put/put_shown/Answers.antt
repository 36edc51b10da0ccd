use native.Mathlib.Omega.{arith}
use lib.ListN.{take}
use lib.Seq.{length-take-le}
use Rattle.common.proofs.Stores.{storing_start, storing_next, storing_end}
use Rattle.show_columns.proofs.Names.{shown_size, shown_step}
use Rattle.show_columns.proofs.put.put_shown.Goals as goal

pub loop-i-init : goal.loop-i-init
loop-i-init c = storing_start _ _ _

pub loop-i-preserved : goal.loop-i-preserved
loop-i-preserved c =
    let l = c.loop-i in
    let a = c.args in
    storing_next l.invariant c.shown.ensures (shown_step (take a.count a.s.now) l.i (omega arith))

pub returns : goal.returns
returns c =
    let l = c.loop-i in
    let a = c.args in
    let size = shown_size a.s.now a.count (omega arith) in
    let part = length-take-le a.count a.s.now (omega arith) in
    storing_end l.invariant (omega (arith, size, part)) (omega (arith, size))
