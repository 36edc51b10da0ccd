use Prim.Native.Nat.{◌+◌, ◌<◌}
use borrow.Author.Rules.{rules}
use native.Mathlib.Omega.{arith}
use Rattle.ask_match.proofs.Leap.{leap_ok, leap_over, found_none}
use Rattle.ask_match.proofs.Places.{gone, moved, met, over}
use Rattle.ask_match.proofs.phrase.phrase_here.Goals as goal
use Rattle.ask_match.proofs.phrase.phrase_here.Goals.{Else-place-target}

-- a cursor that is not at the target is past it
higher : (c : Else-place-target) → let l = c.loop-i in l.start + l.i < c.wide-place.result
higher c = omega (arith, c.seek_in-d.ensures.sought.reached (omega arith))

pub returns-then-d-eq0 : goal.returns-then-d-eq0
returns-then-d-eq0 c =
    let l = c.loop-i in
    found_none l.invariant.1 (omega arith) (gone l.start c.seek_in-d.ensures (search rules))

pub loop-i-preserved-then-place-target : goal.loop-i-preserved-then-place-target
loop-i-preserved-then-place-target c =
    let l = c.loop-i in
    let so = c.seek_in-d.ensures in
    (l.invariant.0, leap_ok l.invariant.1 (moved l.start so) (met l.start so (omega arith) (omega arith)))

pub loop-i-preserved : goal.loop-i-preserved
loop-i-preserved c =
    let l = c.loop-i in
    let so = c.seek_in-d.ensures in (
      omega (arith, c.seek_in-d.type_inv),
      leap_over l.invariant.1 (moved l.start so) (omega arith) (omega (arith, higher c))
          (λ s k m. omega (arith, over l.start so s k m)),
    )
