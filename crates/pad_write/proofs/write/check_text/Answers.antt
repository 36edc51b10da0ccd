-- Each test that sends the code on leaves the next one to decide.
use mathlib.Core.Logic.{⊎_elim}
use native.Mathlib.Omega.{arith}
use Rattle.pad_write.proofs.Answered.{text_long, ends_long, ends_other, text_unshaped, text_fine}
use Rattle.pad_write.proofs.write.check_text.Goals as goal
use Rattle.pad_write.proofs.write.check_text.Goals.{then-ends-ne-SOUNDS-via-then-ends-ne-SOUNDS, then-ends-ne-SOUNDS-via-else-ends-ne-SOUNDS+then-not-ends_fit}

pub returns-then-text-gt-LIMIT : goal.returns-then-text-gt-LIMIT
returns-then-text-gt-LIMIT c =
    ⊎_elim (λ h. text_long _ _ h) (λ w. ends_long _ _ w.0 w.1) c.then-text-gt-LIMIT.either

pub returns-then-ends-ne-SOUNDS : goal.returns-then-ends-ne-SOUNDS
returns-then-ends-ne-SOUNDS c =
    let t = c.if-text-gt-LIMIT.false in
    let e = c.if-ends-gt-LIMIT.false in
    elim c.then-ends-ne-SOUNDS.branch [
      | then-ends-ne-SOUNDS-via-then-ends-ne-SOUNDS w ↦ ends_other _ _ t e (λ x. omega (arith, x, w.if-ends-ne-SOUNDS.true))
      | then-ends-ne-SOUNDS-via-else-ends-ne-SOUNDS+then-not-ends_fit w ↦
          text_unshaped _ _ t e w.if-ends-ne-SOUNDS.false w.ends_fit.ensures w.if-not-ends_fit.true
    ]

pub returns : goal.returns
returns c =
    text_fine _ _ c.if-text-gt-LIMIT.false c.if-ends-gt-LIMIT.false c.if-ends-ne-SOUNDS.false c.ends_fit.ensures c.if-not-ends_fit.false
