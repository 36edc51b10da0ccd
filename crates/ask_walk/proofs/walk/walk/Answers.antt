use mathlib.Core.Path.{refl, ◌∙◌}
use borrow.Author.Rules.{rules}
use native.Mathlib.Omega.{arith}
use Rattle.ask_walk.proofs.Leaps.{cursors_start, leapt_since, ended_since, leapt_past}
use Rattle.ask_walk.proofs.Walks.{answers_start, answers_hit, answers_miss, met_told, ids_found}
use Rattle.ask_walk.proofs.walk.walk.Goals as goal
use Rattle.ask_walk.proofs.walk.walk.Goals.{then-document_meets, else-document_meets}

pub loop-next-init : goal.loop-next-init
loop-next-init c = (search rules, cursors_start _ _ _, answers_start)

pub loop-next-preserved : goal.loop-next-preserved
loop-next-preserved c =
    let l = c.loop-next in
    let at = leapt_since l.invariant.1 c.in-Some.ensures in
    let told = met_told l.invariant.2 at c.document_meets.ensures in
    let any = c.requires.1 in
    rw c.wide-from.ensures (
      omega arith,
      leapt_past at,
      (elim c.if-document_meets.branch [
        | then-document_meets w ↦
            answers_hit l.invariant.2 at any (λ q. told q ∙ w.if-document_meets.true) (λ q. refl) (w.ids-is ∙ w.put.ensures) w.found-is
        | else-document_meets w ↦ answers_miss l.invariant.2 at (λ q. told q ∙ w.if-document_meets.false) w.ids-is w.found-is
      ]),
    )

pub returns : goal.returns
returns c =
    let l = c.loop-next in
    ids_found l.invariant.2 (ended_since l.invariant.1 c.in_default.ensures)
