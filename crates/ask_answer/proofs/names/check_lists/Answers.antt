use mathlib.Core.Path.{sym, ◌∙◌}
use Rattle.common.proofs.Loops.{true_false}
use Rattle.ask_answer.proofs.Own.{together_so, checked_so}
use Rattle.ask_answer.proofs.names.check_lists.Goals as goal
use Rattle.ask_answer.proofs.names.check_lists.Goals.{then-sure-via-then-sure, then-sure-via-else-sure+then-lists_decode}

pub returns-then-sure : goal.returns-then-sure
returns-then-sure c e =
    let a = c.args in
    elim c.then-sure.branch [
      | then-sure-via-then-sure w ↦ true_false (sym w.if-sure.true ∙ e)
      | then-sure-via-else-sure+then-lists_decode w ↦
          together_so a.bytes.now a.at a.sure a.lists.now (w.lists_decode.ensures w.if-lists_decode.true) e
    ]

pub returns : goal.returns
returns c =
    let a = c.args in
    checked_so a.bytes.now a.at a.sure a.lists.now c.decode_lists.result c.decode_lists.ensures
