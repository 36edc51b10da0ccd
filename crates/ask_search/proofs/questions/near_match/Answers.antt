use Rattle.std.specs.Prelude.{Ok}
use mathlib.Core.Path.{◌≡◌, sym, ◌∙◌}
use Rattle.std.proofs.lemmas.Result.{err_from_is_err_and}
use Rattle.common.proofs.Loops.{true_false}
use Rattle.segment.specs.Steps.{checked}
use Rattle.read_open.specs.Opened.{Opens}
use Rattle.read_open.proofs.Fitting.{own_fits}
use Rattle.calls.specs.Questions.{two_checks}
use Rattle.ask_search.proofs.Called.{two_refused, two_closed, two_answered}
use Rattle.ask_search.proofs.questions.near_match.Goals as goal
use Rattle.ask_search.proofs.questions.near_match.Goals.{In_ok-at, In_ok-check_two}

passed : (c : In_ok-check_two) → (Ok tt) ≡ checked (two_checks c.args.a.now c.args.b.now)
passed c = sym c.in_ok-check_two.was ∙ c.check_two.ensures

opens : (c : In_ok-at) → Opens c.args.bytes.now (Ok c.in_ok-at.at)
opens c = rw c.in_ok-at.was at c.open_layout.ensures

pub returns-in_err-check_two : goal.returns-in_err-check_two
returns-in_err-check_two c =
    let a = c.args in
    let p = err_from_is_err_and c.from_residual.result c.from_residual.ensures.1 in
    rw (p.1, p.2) (two_refused a.bytes.now a.window a.a.now a.b.now a.ids.now (sym c.in_err-check_two.was ∙ c.check_two.ensures))

pub returns-in_err-at : goal.returns-in_err-at
returns-in_err-at c =
    let a = c.args in
    let p = err_from_is_err_and c.from_residual-in_err-at.result c.from_residual-in_err-at.ensures.1 in
    rw (p.1, p.2)
    (two_closed a.bytes.now a.window a.a.now a.b.now a.ids.now (passed (goal.at.returns-in_err-at c).In_ok-check_two)
    (rw c.in_err-at.was at c.open_layout.ensures))

pub answer_two-requires : goal.answer_two-requires
answer_two-requires c = own_fits (opens (goal.at.answer_two-requires c).In_ok-at).2

pub returns : goal.returns
returns c =
    let a = c.args in
    let g = goal.at.returns c in
    let o = opens g.In_ok-at in
    two_answered a.bytes.now a.window a.a.now a.b.now a.ids.now (passed g.In_ok-check_two) o.1
    (c.answer_two.ensures.plain o.0 o.2 (λ e. true_false (sym e)))
