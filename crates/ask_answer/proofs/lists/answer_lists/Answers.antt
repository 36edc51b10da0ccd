use native.Mathlib.Omega.{arith}
use Rattle.ask_answer.proofs.Walked.{lists_short, lists_same, lists_few, lists_found}
use Rattle.ask_answer.proofs.lists.answer_lists.Goals as goal
use Rattle.ask_answer.proofs.lists.answer_lists.Goals.{then-ids-long+else-ids-count, else-ids-long}

pub returns-then-ids-count : goal.returns-then-ids-count
returns-then-ids-count c =
    let a = c.args in
    lists_short a.bytes.now a.rule a.names.now c.walk_lists-count.ensures a.ids.now c.if-ids-count.true

pub returns : goal.returns
returns c =
    let a = c.args in
    lists_found a.bytes.now a.rule a.names.now c.walk_lists.ensures
    (λ own ns f.
    elim c.if-ids-long.branch [
      | then-ids-long+else-ids-count w ↦ omega (
        arith,
        lists_same a.bytes.now a.rule a.names.now w.walk_lists-count.ensures c.walk_lists.ensures own ns f,
        w.if-ids-count.false,
      )
      | else-ids-long w ↦ omega (
        arith,
        lists_few a.bytes.now a.rule a.names.now c.walk_lists.ensures own ns f,
        w.if-ids-long.false,
        c.long.ensures,
      )
    ])
