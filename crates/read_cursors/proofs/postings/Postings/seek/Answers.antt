use mathlib.Core.Path.{refl}
use native.Mathlib.Omega.{arith}
use Rattle.read_cursors.specs.Held.{PostingAt}
use Rattle.read_cursors.specs.Steps.{postings_from, AdvancedPostings}
use Rattle.read_cursors.proofs.Seeks.{Ahead, seek_stop, seek_end, seek_next}
use Rattle.read_cursors.proofs.Entering.{postings_ahead}
use Rattle.read_cursors.proofs.QuickSteps.{sure_posting}
use Rattle.read_cursors.proofs.postings.Postings.seek.Goals as goal
use Rattle.read_cursors.proofs.postings.Postings.seek.Goals.{At-loop-c, In-Some}

ahead : (l : At-loop-c)
    → let p = l.loop-c.c in Ahead (λ (x : PostingAt). x.doc) p.doc.0 p.remaining
    (postings_from l.args.bytes.now p)
ahead l = let p = l.loop-c.c in postings_ahead _ p.remaining p.at p.count p.doc.0

pub loop-c-init : goal.loop-c-init
loop-c-init c = refl

pub returns-then-target-c : goal.returns-then-target-c
returns-then-target-c c =
    record { holds = seek_stop _ (ahead (goal.at.returns-then-target-c c).At-loop-c) c.loop-c.invariant (omega arith); reached = λ h. omega arith }

-- the cursor that was advanced at once
short : (c : In-Some)
    → AdvancedPostings c.args.bytes.now c.loop-c.c c.in-Some.next
short c = sure_posting _ _ c.advance_short.ensures c.in-Some.is

pub loop-c-smaller-in-Some : goal.loop-c-smaller-in-Some
loop-c-smaller-in-Some c = omega (arith, (short c).less)

pub loop-c-preserved-in-Some : goal.loop-c-preserved-in-Some
loop-c-preserved-in-Some c =
    seek_next _ (ahead (goal.at.loop-c-preserved-in-Some c).At-loop-c) c.loop-c.invariant (omega arith) (short c).holds

pub loop-c-preserved : goal.loop-c-preserved
loop-c-preserved c =
    seek_next _ (ahead (goal.at.loop-c-preserved c).At-loop-c) c.loop-c.invariant (omega arith) c.advance_each-c.ensures.holds

pub returns : goal.returns
returns c =
    record { holds = seek_end _ (ahead (goal.at.returns c).At-loop-c) c.loop-c.invariant (omega arith); reached = λ h. absurd (omega arith) }
