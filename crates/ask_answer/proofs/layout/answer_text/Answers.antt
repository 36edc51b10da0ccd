use mathlib.Core.Path.{◌≡◌, sym, ◌∙◌}
use mathlib.Core.Bool.{false}
use mathlib.Core.List.{List}
use Prim.Native.Nat.{ℕ, ◌≤◌}
use native.Mathlib.Omega.{arith}
use lib.ListN.{length}
use Rattle.segment.specs.Texts.{names}
use Rattle.segment.proofs.Shapes.{names_count}
use Rattle.rules.specs.Kinds.{idle}
use Rattle.rules.proofs.Idle.{not_idle_is, some_named}
use Rattle.ask_answer.proofs.Idle.{idle_answered}
use Rattle.ask_answer.proofs.layout.answer_text.Goals as goal
use Rattle.ask_answer.proofs.layout.answer_text.Goals.{After-resolve}

abbrev asked : After-resolve → List (List ℕ)
asked c = names 0 c.args.ends.now c.args.text.now

few : (c : After-resolve) → length (asked c) ≤ 128
few c = omega (arith, names_count 0 c.args.ends.now c.args.text.now, c.requires.2)

not_idle : (c : After-resolve) → idle c.args.rule (length (asked c)) ≡ false
not_idle c = rw (names_count 0 c.args.ends.now c.args.text.now) (sym c.is_idle.ensures ∙ c.if-is_idle.false)

pub returns-then-is_idle : goal.returns-then-is_idle
returns-then-is_idle c =
    let a = c.args in
    idle_answered a.bytes.now a.at a.sure a.rule (names 0 a.ends.now a.text.now) a.ids.now
    (rw (names_count 0 a.ends.now a.text.now) (sym c.is_idle.ensures ∙ c.if-is_idle.true))

pub answer_names-requires : goal.answer_names-requires
answer_names-requires c =
    let w = (goal.at.answer_names-requires c).After-resolve in
    let count = length (asked w) in
    record {
      fits = c.requires.0;
      names = asked w;
      resolved = c.resolve.ensures;
      few = few w;
      some = some_named c.args.rule count ((not_idle_is c.args.rule count).0 (not_idle w));
    }

pub returns : goal.returns
returns c =
    let w = (goal.at.returns c).After-resolve in
    record {
      kept = c.answer_names.ensures.answered.kept;
      plain = λ s is known.
          c.answer_names.ensures.answered.plain
          (record {
            segment = s;
            is_open = is;
            names = asked w;
            resolved = c.resolve.ensures;
            few = few w;
            not_idle = not_idle w;
          })
          known;
    }
