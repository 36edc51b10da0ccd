use mathlib.Core.Path.{sym, ◌∙◌}
use mathlib.Core.List.{[], ◌∷◌}
use native.Mathlib.Omega.{arith}
use Rattle.ask_names.specs.Steps.{NamesResolved}
use Rattle.ask_names.proofs.Resolving.{names_none, names_room, names_more}
use Rattle.ask_answer.proofs.Idle.{idle_answered}
use Rattle.ask_answer.proofs.layout.answer_two.Goals as goal
use Rattle.ask_answer.proofs.layout.answer_two.Goals.{After-take-2}

both : (c : After-take-2) → NamesResolved c.args.bytes.now c.args.at (c.args.a.now ∷ c.args.b.now ∷ []) c.take-2.new.self
both c =
    let one = names_more (names_none c.new-found.ensures) c.args.a.now c.find_term.result c.find_term.ensures c.take.ensures in
    names_more one c.args.b.now c.find_term-2.result c.find_term-2.ensures c.take-2.ensures

pub returns-then-is_idle : goal.returns-then-is_idle
returns-then-is_idle c =
    let a = c.args in
    idle_answered a.bytes.now a.at a.sure a.rule (a.a.now ∷ a.b.now ∷ []) a.ids.now (sym c.is_idle.ensures ∙ c.if-is_idle.true)

pub take-requires : goal.take-requires
take-requires c = names_room {bytes = c.args.bytes.now} {at = c.args.at} (names_none c.new-found.ensures) (omega arith)

pub take-requires-2 : goal.take-requires-2
take-requires-2 c =
    let one = names_more (names_none c.new-found.ensures) c.args.a.now c.find_term.result c.find_term.ensures c.take.ensures in
    names_room one (omega arith)

pub answer_names-requires : goal.answer_names-requires
answer_names-requires c =
    record {
      fits = c.requires;
      names = c.args.a.now ∷ c.args.b.now ∷ [];
      resolved = both (goal.at.answer_names-requires c).After-take-2;
      few = omega arith;
      some = omega arith;
    }

pub returns : goal.returns
returns c =
    record {
      kept = c.answer_names.ensures.answered.kept;
      plain = λ s is known.
          c.answer_names.ensures.answered.plain
          (record {
            segment = s;
            is_open = is;
            names = c.args.a.now ∷ c.args.b.now ∷ [];
            resolved = both (goal.at.returns c).After-take-2;
            few = omega arith;
            not_idle = sym c.is_idle.ensures ∙ c.if-is_idle.false;
          })
          known;
    }
