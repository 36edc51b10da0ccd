-- What is left of the names, from the last end taken on, passes exactly as all do; the ends that are left fit the text.
use mathlib.Core.Path.{◌≡◌}
use mathlib.Core.Bool.{true}
use lib.ListN.{length, drop}
use Rattle.segment.specs.Texts.{ends_fit, names}
use Rattle.calls.specs.Questions.{check_names}
use Rattle.ask_names.proofs.question.check_texts.Given as goal

abbrev pub invariant-loop-end : goal.invariant-loop-end
invariant-loop-end l =
    (ends_fit l.from (drop l.end-index l.ends) (length l.text) ≡ true)
    × (check_names (names l.from (drop l.end-index l.ends) (drop l.from l.text)) ≡ check_names (names 0 l.ends l.text))
