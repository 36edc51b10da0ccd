use Rattle.std.specs.Prelude.{Ok}
use mathlib.Core.Path.{◌≡◌, sym, ◌∙◌}
use Rattle.std.proofs.lemmas.Result.{err_from_is_err_and}
use Rattle.common.proofs.Loops.{true_false}
use Rattle.segment.specs.Steps.{checked}
use Rattle.read_open.specs.Opened.{Opens}
use Rattle.read_open.proofs.Fitting.{own_fits}
use Rattle.calls.specs.Questions.{check_question}
use Rattle.calls.proofs.WellFormed.{text_fits}
use Rattle.ask_search.proofs.Called.{text_refused, text_closed, text_answered}
use Rattle.ask_search.proofs.questions.search_text.Goals as goal
use Rattle.ask_search.proofs.questions.search_text.Goals.{In_ok-at, In_ok-check_question}

passed : (c : In_ok-check_question) → (Ok tt) ≡ checked (check_question c.args.text.now c.args.ends.now)
passed c = sym c.in_ok-check_question.was ∙ c.check_question.ensures

opens : (c : In_ok-at) → Opens c.args.bytes.now (Ok c.in_ok-at.at)
opens c = rw c.in_ok-at.was at c.open_layout.ensures

pub returns-in_err-check_question : goal.returns-in_err-check_question
returns-in_err-check_question c =
    let a = c.args in
    let p = err_from_is_err_and c.from_residual.result c.from_residual.ensures.1 in
    rw (p.1, p.2)
    (text_refused a.bytes.now a.rule a.text.now a.ends.now a.ids.now (sym c.in_err-check_question.was ∙ c.check_question.ensures))

pub returns-in_err-at : goal.returns-in_err-at
returns-in_err-at c =
    let a = c.args in
    let p = err_from_is_err_and c.from_residual-in_err-at.result c.from_residual-in_err-at.ensures.1 in
    rw (p.1, p.2)
    (text_closed a.bytes.now a.rule a.text.now a.ends.now a.ids.now (passed (goal.at.returns-in_err-at c).In_ok-check_question)
    (rw c.in_err-at.was at c.open_layout.ensures))

pub answer_text-requires : goal.answer_text-requires
answer_text-requires c =
    let g = goal.at.answer_text-requires c in
    let f = text_fits c.args.text.now c.args.ends.now (passed g.In_ok-check_question) in
    (own_fits (opens g.In_ok-at).2, f.0, f.1)

pub returns : goal.returns
returns c =
    let a = c.args in
    let g = goal.at.returns c in
    let o = opens g.In_ok-at in
    text_answered a.bytes.now a.rule a.text.now a.ends.now a.ids.now (passed g.In_ok-check_question) o.1
    (c.answer_text.ensures.plain o.0 o.2 (λ e. true_false (sym e)))
