use mathlib.Core.Path.{sym, ap, ◌∙◌}
use mathlib.Core.Logic.{inl, inr, ⊎_elim}
use borrow.Author.Tests.{ltb-true, ltb-false}
use native.Mathlib.Omega.{arith}
use Rattle.segment.specs.Steps.{checked}
use Rattle.ask_names.proofs.TextTurns.{two_large, two_bytes, two_fine}
use Rattle.ask_names.proofs.question.check_two.Goals as goal
use Rattle.ask_names.proofs.question.check_two.Goals.{then-not-is_utf8-via-then-not-is_utf8, then-not-is_utf8-via-else-not-is_utf8+then-not-is_utf8-2}

pub returns-then-a-gt-LIMIT : goal.returns-then-a-gt-LIMIT
returns-then-a-gt-LIMIT c =
    let t = c.args in
    ap checked
    (two_large t.a.now t.b.now (⊎_elim (λ w. inl (omega arith)) (λ w. inr (omega (arith, ltb-true))) c.then-a-gt-LIMIT.either))

pub returns-then-not-is_utf8 : goal.returns-then-not-is_utf8
returns-then-not-is_utf8 c =
    let t = c.args in
    ap checked
    (two_bytes t.a.now t.b.now (omega arith) (omega (arith, ltb-false))
    (elim c.then-not-is_utf8.branch [
      | then-not-is_utf8-via-then-not-is_utf8 w ↦ inl (sym c.is_utf8.ensures ∙ w.if-not-is_utf8.true)
      | then-not-is_utf8-via-else-not-is_utf8+then-not-is_utf8-2 w ↦ inr (sym w.is_utf8-else-not-is_utf8.ensures ∙ w.if-not-is_utf8-2.true)
    ]))

pub returns : goal.returns
returns c =
    let t = c.args in
    ap checked
    (two_fine t.a.now t.b.now (omega arith) (omega (arith, ltb-false))
    (sym c.is_utf8.ensures ∙ c.if-not-is_utf8.false)
    (sym c.is_utf8-else-not-is_utf8.ensures ∙ c.if-not-is_utf8-2.false))
