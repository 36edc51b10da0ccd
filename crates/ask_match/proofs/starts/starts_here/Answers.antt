use Prim.Native.Nat.{◌+◌, ◌<◌}
use borrow.Author.Rules.{rules}
use native.Mathlib.Omega.{arith}
use Rattle.ask_match.proofs.Counting.{count_start, count_ok, count_over, count_hit, count_end, count_full}
use Rattle.ask_match.proofs.Places.{gone, moved, met, over}
use Rattle.ask_match.proofs.starts.starts_here.Goals as goal
use Rattle.ask_match.proofs.starts.starts_here.Goals.{Else-place-target}

-- a cursor that is not at the target is past it
higher : (c : Else-place-target) → let l = c.loop-count in l.start + l.i < c.wide-place.result
higher c = omega (arith, c.seek_in-d.ensures.sought.reached (omega arith))

pub loop-count-init : goal.loop-count-init
loop-count-init c = (search rules, search rules, count_start)

pub returns-then-d-eq0 : goal.returns-then-d-eq0
returns-then-d-eq0 c =
    let l = c.loop-count in
    count_end l.invariant.2 (omega arith) (gone l.start c.seek_in-d.ensures (search rules))

pub loop-count-preserved-then-i-n : goal.loop-count-preserved-then-i-n
loop-count-preserved-then-i-n c =
    let l = c.loop-count in
    let so = c.seek_in-d.ensures in
    let taken = count_ok l.invariant.2 (moved l.start so) (met l.start so (omega arith) (omega arith)) in
    (omega arith, omega (arith, c.seek_in-d.type_inv), count_hit taken (omega arith) (omega arith))

pub loop-count-preserved-else-i-n : goal.loop-count-preserved-else-i-n
loop-count-preserved-else-i-n c =
    let l = c.loop-count in
    let so = c.seek_in-d.ensures in
    (omega arith, l.invariant.1, count_ok l.invariant.2 (moved l.start so) (met l.start so (omega arith) (omega arith)))

pub loop-count-preserved : goal.loop-count-preserved
loop-count-preserved c =
    let l = c.loop-count in
    let so = c.seek_in-d.ensures in (
      omega arith,
      omega (arith, c.seek_in-d.type_inv),
      count_over l.invariant.2 (moved l.start so) (omega arith) (omega (arith, higher c))
          (λ s k m. omega (arith, over l.start so s k m)),
    )

pub returns : goal.returns
returns c = count_full _ _ c.loop-count.invariant.2 (omega arith) (omega arith)
