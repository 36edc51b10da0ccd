-- The call: the checks of a question, the opening, the ranked search behind them.
-- Assumes nothing.
use Rattle.std.specs.Prelude.{Err, Ok}
use Rattle.segment.specs.Results.{Answer}
use mathlib.Core.Path.{◌≡◌, refl}
use mathlib.Core.Bool.{true}
use mathlib.Core.List.{List}
use Prim.Native.Nat.{ℕ}
use native.Mathlib.Omega.{arith}
use lib.ListN.{length}
use borrow.Author.Tests.{le-leb}
use Rattle.segment.specs.declared.refusal.Refusal.{Refusal}
use Rattle.segment.specs.Records.{Segment}
use Rattle.segment.specs.Texts.{names}
use Rattle.segment.specs.Opening.{open_segment}
use Rattle.segment.specs.Steps.{checked}
use Rattle.segment.proofs.Accepted.{passed_ok, refused_is}
use Rattle.rules.specs.declared.rule.Rule.TheVariants.{Phrase}
use Rattle.rules.specs.Kinds.{idle}
use Rattle.calls.specs.Questions.{check_question}
use Rattle.calls.specs.Ranked.{search_ranked}
use Rattle.calls.proofs.Answering.{ranked_idle}
use Rattle.ask_ranked.specs.Promise.{RankedAnswered}
use Rattle.ask_ranked.specs.Steps.{ranked_in, BothFilled}

module _ (bytes text ends ids counts : List ℕ) where
  answered : {r : (Answer ℕ)} {ids' counts' : List ℕ}
      → BothFilled (search_ranked bytes text ends (length ids) (length counts)) ids counts r ids' counts'
      → RankedAnswered bytes text ends ids counts r ids' counts'
  answered p = record { reply = p.0; ids_left = p.1; counts_left = p.2 }

  pub call_refused : {x : Refusal} → Err x ≡ checked (check_question text ends)
      → RankedAnswered bytes text ends ids counts (Err x) ids counts
  unfolding search_ranked
  call_refused e = answered (rw (refused_is (check_question text ends) e) (refl, refl, refl))

  module _ (passed : (Ok tt) ≡ checked (check_question text ends)) where
    pub call_closed : {x : Refusal} → open_segment bytes ≡ Err x
        → RankedAnswered bytes text ends ids counts (Err x) ids counts
    unfolding search_ranked
    call_closed e = answered (rw ((passed_ok (check_question text ends) passed).1, e) (refl, refl, refl))

    module _ {s : Segment} (opens : open_segment bytes ≡ Ok s) where
      pub call_idle : idle Phrase (length (names 0 ends text)) ≡ true
          → RankedAnswered bytes text ends ids counts (Ok 0) ids counts
      unfolding search_ranked
      call_idle t =
          answered
          (rw (
            (passed_ok (check_question text ends) passed).1,
            opens,
            ranked_idle s (names 0 ends text) t,
            le-leb 0 (length ids) (omega arith),
            le-leb 0 (length counts) (omega arith),
          )
          (refl, refl, refl))

      pub call_answered : {r : (Answer ℕ)} {ids' counts' : List ℕ}
          → BothFilled (ranked_in s (names 0 ends text) (length ids) (length counts)) ids counts r ids' counts'
          → RankedAnswered bytes text ends ids counts r ids' counts'
      unfolding search_ranked
      call_answered p = answered (rw ((passed_ok (check_question text ends) passed).1, opens) p)
