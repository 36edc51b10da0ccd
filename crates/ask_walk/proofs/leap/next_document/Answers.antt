use native.Mathlib.Omega.{arith}
use Rattle.ask_walk.proofs.Leaps.{leap_ok, leap_over, leap_end, leap_done}
use Rattle.ask_walk.proofs.leap.next_document.Goals as goal

pub returns-then-here-eq0 : goal.returns-then-here-eq0
returns-then-here-eq0 c =
    let l = c.loop-here in
    leap_end l.invariant.2 c.seek_list-here.ensures l.invariant.0 (omega arith)

pub returns-then-k-m : goal.returns-then-k-m
returns-then-k-m c =
    let l = c.loop-here in
    rw (← c.wide-reached.ensures, c.if-reached-next.true)
    (leap_done (leap_ok l.invariant.2 c.seek_list-here.ensures (omega arith) (omega arith)) (omega arith))

pub loop-here-preserved-else-k-m : goal.loop-here-preserved-else-k-m
loop-here-preserved-else-k-m c =
    let l = c.loop-here in
    (omega arith, l.invariant.1, leap_ok l.invariant.2 c.seek_list-here.ensures (omega arith) (omega arith))

pub loop-here-preserved : goal.loop-here-preserved
loop-here-preserved c =
    let l = c.loop-here in
    let up = c.seek_list-here.ensures.sought.reached (omega arith) in (
      omega arith,
      omega (arith, c.seek_list-here.type_inv),
      rw c.wide-reached.ensures (leap_over l.invariant.2 c.seek_list-here.ensures l.invariant.0 up),
    )
