use Rattle.std.specs.Prelude.{Ok}
use mathlib.Core.Path.{◌≡◌, sym, ◌∙◌}
use Rattle.std.proofs.lemmas.Result.{err_from_is_err_and}
use Rattle.segment.specs.Steps.{checked}
use Rattle.segment.proofs.Shapes.{names_count}
use Rattle.read_open.specs.Opened.{Opens}
use Rattle.read_open.proofs.Fitting.{own_fits}
use Rattle.calls.specs.Questions.{check_question}
use Rattle.calls.proofs.WellFormed.{text_fits}
use Rattle.ask_ranked.proofs.Called.{call_refused, call_closed, call_idle, call_answered}
use Rattle.ask_ranked.proofs.questions.phrase_match_ranked.Goals as goal
use Rattle.ask_ranked.proofs.questions.phrase_match_ranked.Goals.{In_ok-at, In_ok-check_question}

passed : (c : In_ok-check_question) → (Ok tt) ≡ checked (check_question c.args.text.now c.args.ends.now)
passed c = sym c.in_ok-check_question.was ∙ c.check_question.ensures

opens : (c : In_ok-at) → Opens c.args.bytes.now (Ok c.in_ok-at.at)
opens c = rw c.in_ok-at.was at c.open_layout.ensures

pub returns-in_err-check_question : goal.returns-in_err-check_question
returns-in_err-check_question c =
    let a = c.args in
    let p = err_from_is_err_and c.from_residual.result c.from_residual.ensures.1 in
    rw (p.1, p.2)
    (call_refused a.bytes.now a.text.now a.ends.now a.ids.now a.counts.now (sym c.in_err-check_question.was ∙ c.check_question.ensures))

pub returns-in_err-at : goal.returns-in_err-at
returns-in_err-at c =
    let a = c.args in
    let p = err_from_is_err_and c.from_residual-in_err-at.result c.from_residual-in_err-at.ensures.1 in
    rw (p.1, p.2)
    (call_closed a.bytes.now a.text.now a.ends.now a.ids.now a.counts.now (passed (goal.at.returns-in_err-at c).In_ok-check_question)
    (rw c.in_err-at.was at c.open_layout.ensures))

pub returns-then-is_idle : goal.returns-then-is_idle
returns-then-is_idle c =
    let a = c.args in
    let g = goal.at.returns-then-is_idle c in
    call_idle a.bytes.now a.text.now a.ends.now a.ids.now a.counts.now (passed g.In_ok-check_question) (opens g.In_ok-at).1
    (rw (names_count 0 a.ends.now a.text.now) (sym c.is_idle.ensures ∙ c.if-is_idle.true))

pub rank_text-requires : goal.rank_text-requires
rank_text-requires c =
    let g = goal.at.rank_text-requires c in
    let f = text_fits c.args.text.now c.args.ends.now (passed g.In_ok-check_question) in
    (own_fits (opens g.In_ok-at).2, f.0, f.1, sym c.is_idle.ensures ∙ c.if-is_idle.false)

pub returns : goal.returns
returns c =
    let a = c.args in
    let g = goal.at.returns c in
    let o = opens g.In_ok-at in
    call_answered a.bytes.now a.text.now a.ends.now a.ids.now a.counts.now (passed g.In_ok-check_question) o.1
    (c.rank_text.ensures.replies o.0 o.2)
