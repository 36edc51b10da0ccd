-- The calls: the checks of a question, the opening, the search behind them.
-- Assumes nothing.
use Rattle.std.specs.Prelude.{Err, Ok}
use mathlib.Core.Path.{◌≡◌, refl}
use mathlib.Core.List.{List, [], ◌∷◌}
use Prim.Native.Nat.{ℕ}
use lib.ListN.{length}
use Rattle.segment.specs.declared.refusal.Refusal.{Refusal}
use Rattle.segment.specs.Results.{Answer}
use Rattle.segment.specs.Records.{Segment}
use Rattle.segment.specs.Texts.{names}
use Rattle.segment.specs.Opening.{open_segment}
use Rattle.segment.specs.Steps.{checked}
use Rattle.segment.proofs.Accepted.{passed_ok, refused_is}
use Rattle.rules.specs.declared.rule.Rule.{Rule}
use Rattle.rules.specs.declared.rule.Rule.TheVariants.{Unordered}
use Rattle.calls.specs.Questions.{check_question, two_checks, search, search_text, search_two}
use Rattle.ask_search.specs.Promise.{TextAnswered, TwoAnswered}
use Rattle.ask_answer.specs.Promise.{answer_in, Replies}

-- ---- names in one text

module _ (bytes : List ℕ) (rule : Rule) (text ends ids : List ℕ) where
  text_reply : {r : (Answer ℕ)} {after : List ℕ}
      → Replies (search_text bytes rule text ends (length ids)) ids r after → TextAnswered bytes rule text ends ids r after
  text_reply p = record { reply = p.0; left = p.1 }

  pub text_refused : {x : Refusal} → Err x ≡ checked (check_question text ends) → TextAnswered bytes rule text ends ids (Err x) ids
  unfolding search_text
  text_refused e = text_reply (rw (refused_is (check_question text ends) e) (refl, refl))

  module _ (passed : (Ok tt) ≡ checked (check_question text ends)) where
    pub text_closed : {x : Refusal} → open_segment bytes ≡ Err x → TextAnswered bytes rule text ends ids (Err x) ids
    unfolding search_text search
    text_closed e = text_reply (rw ((passed_ok (check_question text ends) passed).1, e) (refl, refl))

    pub text_answered : {s : Segment} → open_segment bytes ≡ Ok s → {r : (Answer ℕ)} {after : List ℕ}
        → Replies (answer_in s rule (names 0 ends text) (length ids)) ids r after → TextAnswered bytes rule text ends ids r after
    unfolding search_text search
    text_answered opens p = text_reply (rw ((passed_ok (check_question text ends) passed).1, opens) p)

-- ---- two names

module _ (bytes : List ℕ) (window : ℕ) (a b ids : List ℕ) where
  two_reply : {r : (Answer ℕ)} {after : List ℕ}
      → Replies (search_two bytes window a b (length ids)) ids r after → TwoAnswered bytes window a b ids r after
  two_reply p = record { reply = p.0; left = p.1 }

  pub two_refused : {x : Refusal} → Err x ≡ checked (two_checks a b) → TwoAnswered bytes window a b ids (Err x) ids
  unfolding search_two
  two_refused e = two_reply (rw (refused_is (two_checks a b) e) (refl, refl))

  module _ (passed : (Ok tt) ≡ checked (two_checks a b)) where
    pub two_closed : {x : Refusal} → open_segment bytes ≡ Err x → TwoAnswered bytes window a b ids (Err x) ids
    unfolding search_two search
    two_closed e = two_reply (rw ((passed_ok (two_checks a b) passed).1, e) (refl, refl))

    pub two_answered : {s : Segment} → open_segment bytes ≡ Ok s → {r : (Answer ℕ)} {after : List ℕ}
        → Replies (answer_in s (Unordered window) (a ∷ b ∷ []) (length ids)) ids r after → TwoAnswered bytes window a b ids r after
    unfolding search_two search
    two_answered opens p = two_reply (rw ((passed_ok (two_checks a b) passed).1, opens) p)
