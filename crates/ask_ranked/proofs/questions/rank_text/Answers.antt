use mathlib.Core.Path.{◌≡◌}
use mathlib.Core.Bool.{false}
use mathlib.Core.List.{List}
use Prim.Native.Nat.{ℕ, ◌≤◌}
use native.Mathlib.Omega.{arith}
use lib.ListN.{length}
use Rattle.segment.specs.Texts.{names}
use Rattle.segment.proofs.Shapes.{names_count}
use Rattle.rules.specs.declared.rule.Rule.TheVariants.{Phrase}
use Rattle.rules.specs.Kinds.{idle}
use Rattle.rules.proofs.Idle.{not_idle_is, some_named}
use Rattle.ask_ranked.proofs.questions.rank_text.Goals as goal
use Rattle.ask_ranked.proofs.questions.rank_text.Goals.{After-resolve}

abbrev asked : After-resolve → List (List ℕ)
asked c = names 0 c.args.ends.now c.args.text.now

few : (c : After-resolve) → length (asked c) ≤ 128
few c = omega (arith, names_count 0 c.args.ends.now c.args.text.now, c.requires.2)

not_idle : (c : After-resolve) → idle Phrase (length (asked c)) ≡ false
not_idle c = rw (names_count 0 c.args.ends.now c.args.text.now) c.requires.3

pub rank_names-requires : goal.rank_names-requires
rank_names-requires c =
    let w = (goal.at.rank_names-requires c).After-resolve in
    let count = length (asked w) in
    record {
      fits = c.requires.0;
      names = asked w;
      resolved = c.resolve.ensures;
      few = few w;
      some = some_named Phrase count ((not_idle_is Phrase count).0 (not_idle w));
    }

pub returns : goal.returns
returns c =
    let w = (goal.at.returns c).After-resolve in
    record {
      replies = λ s is.
          c.rank_names.ensures.answered.replies
          (record {
            segment = s;
            is_open = is;
            names = asked w;
            resolved = c.resolve.ensures;
            few = few w;
            not_idle = not_idle w;
          });
    }
