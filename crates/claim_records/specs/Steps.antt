-- What is said of the call while the lent lists hold the ids and lengths of the records; `count` is the number of records.
use Rattle.claim_joint.specs.Demand.{not_written}
use Rattle.segment.specs.Results.{Answer}
use Rattle.std.specs.Prelude.{Err, Ok, ℕ, ◌≡◌, List}
use Rattle.segment.specs.declared.refusal.Refusal.{Refusal}
use Rattle.calls.specs.Given.{Lists}
use Rattle.write_records.specs.Steps.{check_places}
use Rattle.claim_joint.specs.declared.ask.Question.{Question}
use Rattle.claim_joint.specs.declared.ask.Asked.{Asked}
use Rattle.claim_joint.specs.Promise.{WrittenThenAsked}

pub record AskedApart (count : ℕ) (l : Lists) (out : List ℕ) (q : Question) (name ends other found : List ℕ)
    (r : Answer Asked) (out' found' : List ℕ) : Type 0 where
  pub passed : check_places count l ≡ Ok tt → WrittenThenAsked l out q name ends other found r out' found'
  pub refused : (x : Refusal) → check_places count l ≡ Err x → (r ≡ not_written x) × (out' ≡ out) × (found' ≡ found)
