-- What writing and then asking promises: demand 3, and beside it the promises of the two calls, one after the other, for every outcome:
-- what the writer promises, and what the search promises of exactly the bytes written.
use Rattle.std.specs.Prelude.{Err, Ok, ℕ, ◌≡◌, List, length, take}
use Rattle.segment.specs.Results.{Answer}
use Rattle.calls.specs.Replies.{count_of, filled}
use Rattle.rules.specs.declared.rule.Rule.TheVariants.{Phrase}
use Rattle.rules.specs.Kinds.{near_rule}
use Rattle.calls.specs.Questions.{search_text, search_two}
use Rattle.calls.specs.Given.{Lists}
use Rattle.write_segment.specs.Promise.{Wrote}
use Rattle.claim_joint.specs.declared.ask.Question.{Question}
use Rattle.claim_joint.specs.declared.ask.Question.TheVariants as question
use Rattle.claim_joint.specs.declared.ask.Asked.{Asked}
use Rattle.claim_joint.specs.Demand.{Demand3, rule_of, names_of, Proper}

-- a question put to the bytes of a segment
abbrev pub put_to : (bytes : List ℕ) → Question → (name ends other : List ℕ) (room : ℕ) → Answer (List ℕ)
put_to bytes question.Phrase name ends other room = search_text bytes Phrase name ends room
put_to bytes (question.Near window ordered) name ends other room = search_text bytes (near_rule ordered window) name ends room
put_to bytes (question.Two window) name ends other room = search_two bytes window name other room

-- the reply, and the lent buffer afterwards
pub record Put (bytes : List ℕ) (q : Question) (name ends other found : List ℕ) (r : Answer ℕ) (found' : List ℕ) : Type 0 where
  pub reply : r ≡ count_of (put_to bytes q name ends other (length found))
  pub left : found' ≡ filled (λ xs. xs) (put_to bytes q name ends other (length found)) found

-- the writer's refusal is handed on, and nothing is asked; else exactly the bytes written are asked
abbrev pub Called : (l : Lists) (out : List ℕ) → Question → (name ends other found : List ℕ) → Answer Asked → (out' found' : List ℕ) → Type 0
Called l out q name ends other found (Err x) out' found' = Wrote l out (Err x) out' × (found' ≡ found)
Called l out q name ends other found (Ok a) out' found' =
    Wrote l out (Ok a.written) out' × Put (take a.written out') q name ends other found a.answer found'

pub record WrittenThenAsked (l : Lists) (out : List ℕ) (q : Question) (name ends other found : List ℕ) (r : Answer Asked) (out' found' : List ℕ)
    : Type 0 where
  pub demand : Demand3 l out (rule_of q) (names_of q name ends other) (Proper q name ends other) found r out' found'
  pub called : Called l out q name ends other found r out' found'
