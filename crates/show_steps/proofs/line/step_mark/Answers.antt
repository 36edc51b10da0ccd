use mathlib.Core.Bool.{false}
use mathlib.Core.Logic.{⊎_elim}
use borrow.Author.Tests.{eq-eqb, ne_eqb}
use native.Mathlib.Omega.{arith}
use Rattle.show_steps.proofs.Marks.{Here, elsewhere, none_remains, mark_hit, mark_free, mark_blank}
use Rattle.show_steps.proofs.line.step_mark.Goals as goal
use Rattle.show_steps.proofs.line.step_mark.Goals.{Joined-else-c-gt0}

pub returns-then-c-step : goal.returns-then-c-step
returns-then-c-step c =
    let a = c.args in
    mark_hit a.c a.step a.len (omega arith) (eq-eqb _ _ c.if-c-step.true)

-- No hit on this step: the next one is elsewhere, or none remains
free : (c : Joined-else-c-gt0) → let a = c.args in Here a.c a.step false
free c =
    let a = c.args in
    ⊎_elim (λ w. elsewhere a.c a.step (ne_eqb _ _ w.1)) (λ w. none_remains a.c a.step (omega arith)) c.else-c-gt0.either

pub returns-then-step-len : goal.returns-then-step-len
returns-then-step-len c =
    let a = c.args in
    mark_free a.c a.step a.len (free (goal.at.returns-then-step-len c).Joined-else-c-gt0) (omega arith)

pub returns : goal.returns
returns c =
    let a = c.args in
    mark_blank a.c a.step a.len (free (goal.at.returns c).Joined-else-c-gt0) (omega arith)
