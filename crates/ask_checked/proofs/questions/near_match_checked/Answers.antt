use Rattle.std.specs.Prelude.{Ok}
use mathlib.Core.Path.{◌≡◌, refl, sym, ◌∙◌}
use Rattle.std.proofs.lemmas.Result.{err_from_is_err_and}
use Rattle.segment.specs.Steps.{checked}
use Rattle.calls.specs.Questions.{two_checks}
use Rattle.calls.proofs.Kept.{two_kept}
use Rattle.ask_search.proofs.Called.{two_refused, two_answered}
use Rattle.ask_checked.proofs.Own.{own_handle}
use Rattle.ask_checked.proofs.questions.near_match_checked.Goals as goal
use Rattle.ask_checked.proofs.questions.near_match_checked.Goals.{In_ok-check_two}

passed : (c : In_ok-check_two) → (Ok tt) ≡ checked (two_checks c.args.a.now c.args.b.now)
passed c = sym c.in_ok-check_two.was ∙ c.check_two.ensures

pub returns-in_err-check_two : goal.returns-in_err-check_two
returns-in_err-check_two c =
    let a = c.args in
    let p = err_from_is_err_and c.from_residual.result c.from_residual.ensures.1 in
    rw (p.1, p.2)
    (record {
      kept = refl;
      plain = λ of. two_refused a.bytes.now a.window a.a.now a.b.now a.ids.now (sym c.in_err-check_two.was ∙ c.check_two.ensures);
    })

pub answer_two-requires : goal.answer_two-requires
answer_two-requires c = rw c.layout_of.ensures (c.usable.ensures.0 c.if-usable.true).fits

pub returns-then-usable : goal.returns-then-usable
returns-then-usable c =
    let a = c.args in
    let q = passed (goal.at.returns-then-usable c).In_ok-check_two in
    record {
      kept = c.answer_two.ensures.kept;
      plain = λ of.
          let own = own_handle a.bytes.now a.h c.layout_of.result c.layout_of.ensures (c.usable.ensures.0 c.if-usable.true) of in
          two_answered a.bytes.now a.window a.a.now a.b.now a.ids.now q own.opens
          (c.answer_two.ensures.plain own.segment own.is_open own.lists);
    }

pub returns : goal.returns
returns c =
    let a = c.args in
    record {
      kept = two_kept a.ids.now a.bytes.now a.window a.a.now a.b.now c.near_match.ensures.reply c.near_match.ensures.left;
      plain = λ of. c.near_match.ensures;
    }
