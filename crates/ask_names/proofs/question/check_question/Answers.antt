-- Too large, out of shape, or as the names are.
use mathlib.Core.Path.{sym, ap, ◌∙◌}
use mathlib.Core.Logic.{inl, inr, ⊎_elim}
use borrow.Author.Tests.{ltb-true, ltb-false}
use native.Mathlib.Omega.{arith}
use Rattle.segment.specs.Steps.{checked}
use Rattle.ask_names.proofs.TextTurns.{question_large, question_shape, question_names}
use Rattle.ask_names.proofs.question.check_question.Goals as goal

pub returns-then-text-gt-LIMIT : goal.returns-then-text-gt-LIMIT
returns-then-text-gt-LIMIT c =
    let t = c.args in
    ap checked
    (question_large t.text.now t.ends.now
    (⊎_elim (λ w. inl (omega arith)) (λ w. inr (omega (arith, ltb-true, w.1))) c.then-text-gt-LIMIT.either))

pub returns-then-not-ends_fit : goal.returns-then-not-ends_fit
returns-then-not-ends_fit c =
    let t = c.args in
    ap checked
    (question_shape t.text.now t.ends.now (omega arith) (omega (arith, ltb-false))
    (sym c.ends_fit.ensures ∙ c.if-not-ends_fit.true))

pub returns : goal.returns
returns c =
    let t = c.args in
    c.check_texts.ensures
    ∙ ap checked
    (question_names t.text.now t.ends.now (omega arith) (omega (arith, ltb-false))
    (sym c.ends_fit.ensures ∙ c.if-not-ends_fit.false))
