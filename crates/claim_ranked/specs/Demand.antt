-- Demand 3 beside document 02, wish 5: one claim across writer and ranked search. Nothing here names what the writer or the search
-- computes: only what is handed in, document 01's format, the phrase rule in words and the order in words.
use Rattle.claim_joint.specs.Demand.{answered, not_written, NoRefusal, GivenBack, AnsweredBy}
use Rattle.std.specs.Prelude.{Err, Ok, ℕ, ◌≤◌, ◌≡◌, List, ◌++◌, map, ◌↔◌, length, drop}
use Rattle.segment.specs.Results.{Answer}
use Rattle.common.specs.Elements.{◌∈◌}
use Rattle.segment.specs.declared.refusal.Refusal.{Refusal}
use Rattle.rules.specs.Words.{HasPhrase, FitsSoOften}
use Rattle.calls.specs.Given.{Lists, given}
use Rattle.calls.specs.Order.{Match, BestFirst}
use Rattle.calls.specs.Ranked.{match_ids, match_counts}
use Rattle.claim_joint.specs.declared.ask.Asked.{Asked}
use Rattle.claim_joint.specs.Own.{own}

-- the documents handed in whose own positions meet the phrase, each with the number of its own starts, the best first
pub record ThoseRanked (l : Lists) (ns : List (List ℕ)) (found : List Match) : Type 0 where
  pub only : (m : Match) → m ∈ found
      → (m.doc ∈ map (λ x. x.id) (given l).documents) × HasPhrase (own l m.doc) ns × FitsSoOften (own l m.doc) ns m.count
  pub every : (d : ℕ) → d ∈ map (λ x. x.id) (given l).documents → HasPhrase (own l d) ns → d ∈ match_ids found
  pub sorted : BestFirst found

-- the search does not refuse: it answers their number, and they fill that many first places of both buffers, side by side
pub record RankedListed (l : Lists) (ns : List (List ℕ)) (ids counts : List ℕ) (r : Answer ℕ) (ids' counts' : List ℕ) : Type 0 where
  pub there_are : (found : List Match) × ThoseRanked l ns found
  pub answer : (found : List Match) → ThoseRanked l ns found → length found ≤ length ids → length found ≤ length counts
      → (r ≡ Ok (length found)) × (ids' ≡ match_ids found ++ drop (length found) ids)
      × (counts' ≡ match_counts found ++ drop (length found) counts)

-- ---- the claim of a call that writes and then asks exactly the bytes written, ranked

-- `Proper`: the question is one that demand 3 names
pub record Demand3Ranked (l : Lists) (out : List ℕ) (ns : List (List ℕ)) (Proper : Type 0) (ids counts : List ℕ) (r : Answer Asked)
    (out' ids' counts' : List ℕ) : Type 0 where
  -- the writer accepts exactly when document 01 names no refusal, and a refusal changes no lent place
  pub accepts : AnsweredBy r ↔ NoRefusal l (length out)
  pub refuses : (x : Refusal) → r ≡ not_written x → (out' ≡ out) × (ids' ≡ ids) × (counts' ≡ counts)
  -- a search that refuses leaves both buffers
  pub search_refuses : (n : ℕ) (x : Refusal) → r ≡ answered n (Err x) → (ids' ≡ ids) × (counts' ≡ counts)
  -- the bytes give back what was handed in
  pub gives_back : (n : ℕ) (c : Answer ℕ) → r ≡ answered n c → GivenBack l out n out'
  -- the search lists exactly the documents whose own positions meet the phrase, each with the number of its own starts
  pub lists : (n : ℕ) (c : Answer ℕ) → r ≡ answered n c → Proper → RankedListed l ns ids counts c ids' counts'
