use mathlib.Core.Path.{sym, ap, ◌∙◌}
use native.Mathlib.Omega.{arith}
use Rattle.std.proofs.lemmas.Result.{err_from_is_err_and}
use Rattle.segment.specs.Steps.{checked}
use Rattle.ask_names.proofs.ListTurns.{lists_next, lists_stop, lists_end}
use Rattle.ask_names.proofs.lists.decode_lists.Goals as goal

pub loop-list-preserved : goal.loop-list-preserved
loop-list-preserved c =
    let l = c.loop-list in
    lists_next _ _ _ l.list-index l.invariant (omega arith) (sym c.in_ok-decode_postings.was ∙ c.decode_postings.ensures)

pub returns-in_err-decode_postings : goal.returns-in_err-decode_postings
returns-in_err-decode_postings c =
    let l = c.loop-list in
    let p = err_from_is_err_and c.from_residual.result c.from_residual.ensures.1 in
    rw (p.1, p.2)
    (ap checked
    (lists_stop _ _ _ l.list-index l.invariant (omega arith) (sym c.in_err-decode_postings.was ∙ c.decode_postings.ensures)))

pub returns : goal.returns
returns c = let l = c.loop-list in ap checked (lists_end _ _ _ l.list-index l.invariant (omega arith))
