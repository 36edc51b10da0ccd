-- What writing and then asking for the ranked answer promises: the claim of specs/Demand.antt, and beside it the promises of the two calls,
-- one after the other, for every outcome.
use Rattle.segment.specs.Results.{Answer}
use Rattle.std.specs.Prelude.{Err, Ok, ℕ, ◌≡◌, List, take}
use Rattle.segment.specs.Texts.{names}
use Rattle.rules.specs.declared.rule.Rule.TheVariants.{Phrase}
use Rattle.calls.specs.Given.{Lists}
use Rattle.write_segment.specs.Promise.{Wrote}
use Rattle.ask_ranked.specs.Promise.{RankedAnswered}
use Rattle.claim_joint.specs.declared.ask.Asked.{Asked}
use Rattle.claim_joint.specs.Demand.{ProperText}
use Rattle.claim_ranked.specs.Demand.{Demand3Ranked}

-- the writer's refusal is handed on, and nothing is asked; else exactly the bytes written are asked
abbrev pub Called : (l : Lists) (out name ends ids counts : List ℕ) → Answer Asked → (out' ids' counts' : List ℕ) → Type 0
Called l out name ends ids counts (Err x) out' ids' counts' =
    Wrote l out (Err x) out' × (ids' ≡ ids) × (counts' ≡ counts)
Called l out name ends ids counts (Ok a) out' ids' counts' =
    Wrote l out (Ok a.written) out' × RankedAnswered (take a.written out') name ends ids counts a.answer ids' counts'

pub record WrittenThenRanked (l : Lists) (out name ends ids counts : List ℕ) (r : Answer Asked) (out' ids' counts' : List ℕ) : Type 0 where
  pub demand : Demand3Ranked l out (names 0 ends name) (ProperText Phrase name ends) ids counts r out' ids' counts'
  pub called : Called l out name ends ids counts r out' ids' counts'
