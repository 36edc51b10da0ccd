-- Demand 3 over records: the claim of crate claim_joint, of the lists that the records make, and every lent list as it was.
use Rattle.claim_joint.specs.Demand.{not_written}
use Rattle.segment.specs.Results.{Answer}
use Rattle.std.specs.Prelude.{ℕ, ◌≡◌, cond, List, length}
use Rattle.segment.specs.Refusals.{too_large, list_shape}
use Rattle.calls.specs.Given.{Lists}
use Rattle.calls.specs.Checks.{small}
use Rattle.write_records.specs.declared.exchange.DocumentLength.{DocumentLength}
use Rattle.claim_joint.specs.declared.ask.Asked.{Asked}
use Rattle.claim_joint.specs.declared.ask.Question.{Question}
use Rattle.claim_joint.specs.Promise.{WrittenThenAsked}

-- a lent list has too few or too many places for the records: 12 if something handed in is too large, else 11, and nothing is changed
pub record Misfits (l : Lists) (out found : List ℕ) (r : Answer Asked) (out' found' : List ℕ) : Type 0 where
  pub reply : r ≡ not_written (cond (small l) list_shape too_large)
  pub left : (out' ≡ out) × (found' ≡ found)

-- `l` is what the records and the other lists make
pub record Demand3Records (l : Lists) (documents : List DocumentLength) (ids lengths out : List ℕ) (q : Question)
    (name ends other found : List ℕ) (r : Answer Asked) (documents' : List DocumentLength) (ids' lengths' out' found' : List ℕ) : Type 0 where
  -- with a place for each record in both lent lists, demand 3 itself and the two calls' promises
  pub demand : length ids ≡ length documents → length lengths ≡ length documents
      → WrittenThenAsked l out q name ends other found r out' found'
  pub misfits : (length ids ≡ length documents → length lengths ≡ length documents → ⊥) → Misfits l out found r out' found'
  -- on every outcome the records and the two lent lists are as they were
  pub records_left : documents' ≡ documents
  pub ids_left : ids' ≡ ids
  pub lengths_left : lengths' ≡ lengths
