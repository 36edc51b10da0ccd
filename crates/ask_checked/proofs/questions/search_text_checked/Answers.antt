use Rattle.std.specs.Prelude.{Ok}
use mathlib.Core.Path.{◌≡◌, refl, sym, ◌∙◌}
use Rattle.std.proofs.lemmas.Result.{err_from_is_err_and}
use Rattle.segment.specs.Steps.{checked}
use Rattle.calls.specs.Questions.{check_question}
use Rattle.calls.proofs.Kept.{text_kept}
use Rattle.calls.proofs.WellFormed.{text_fits}
use Rattle.ask_search.proofs.Called.{text_refused, text_answered}
use Rattle.ask_checked.proofs.Own.{own_handle}
use Rattle.ask_checked.proofs.questions.search_text_checked.Goals as goal
use Rattle.ask_checked.proofs.questions.search_text_checked.Goals.{In_ok-check_question}

passed : (c : In_ok-check_question) → (Ok tt) ≡ checked (check_question c.args.text.now c.args.ends.now)
passed c = sym c.in_ok-check_question.was ∙ c.check_question.ensures

pub returns-in_err-check_question : goal.returns-in_err-check_question
returns-in_err-check_question c =
    let a = c.args in
    let p = err_from_is_err_and c.from_residual.result c.from_residual.ensures.1 in
    rw (p.1, p.2)
    (record {
      kept = refl;
      plain = λ of.
          text_refused a.bytes.now a.rule a.text.now a.ends.now a.ids.now (sym c.in_err-check_question.was ∙ c.check_question.ensures);
    })

pub answer_text-requires : goal.answer_text-requires
answer_text-requires c =
    let f = text_fits c.args.text.now c.args.ends.now (passed (goal.at.answer_text-requires c).In_ok-check_question) in
    (rw c.layout_of.ensures (c.usable.ensures.0 c.if-usable.true).fits, f.0, f.1)

pub returns-then-usable : goal.returns-then-usable
returns-then-usable c =
    let a = c.args in
    let q = passed (goal.at.returns-then-usable c).In_ok-check_question in
    record {
      kept = c.answer_text.ensures.kept;
      plain = λ of.
          let own = own_handle a.bytes.now a.h c.layout_of.result c.layout_of.ensures (c.usable.ensures.0 c.if-usable.true) of in
          text_answered a.bytes.now a.rule a.text.now a.ends.now a.ids.now q own.opens
          (c.answer_text.ensures.plain own.segment own.is_open own.lists);
    }

pub returns : goal.returns
returns c =
    let a = c.args in
    record {
      kept = text_kept a.ids.now a.bytes.now a.rule a.text.now a.ends.now c.search_text.ensures.reply c.search_text.ensures.left;
      plain = λ of. c.search_text.ensures;
    }
