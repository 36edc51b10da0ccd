use lib.ListN.{length-set}
use borrow.Author.Rules.{rules}
use native.Mathlib.Omega.{arith}
use Rattle.read_lists.proofs.MarksHeld.{mark_start, mark_next, all_first, all_set}
use Rattle.read_lists.proofs.marks.mark_documents.Goals as goal

pub loop-c-init : goal.loop-c-init
loop-c-init c =
    let first = mark_start _ _ _ c.start-first.ensures in
    (search rules, omega arith, all_first _ _ _ first, λ h. first)

pub loop-c-smaller : goal.loop-c-smaller
loop-c-smaller c = omega (arith, c.advance-c.ensures.less)

pub loop-c-preserved : goal.loop-c-preserved
loop-c-preserved c =
    let here = c.loop-c.invariant.3 c.loop-c-test.true in (
      simp length-set c.loop-c.invariant.0,
      omega (arith, c.advance-c.ensures.less, c.loop-c.invariant.1),
      all_set _ _ c.loop-c.marks c.slot-k.result c.loop-c.c (omega (arith, c.loop-c.invariant.0, c.slot-k.ensures)) c.loop-c.invariant.2 here,
      mark_next _ _ _ _ c.advance-c.ensures here,
    )

pub returns : goal.returns
returns c = record { each = c.loop-c.invariant.2 }
