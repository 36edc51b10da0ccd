-- The documents that have a phrase, each with the number of its starts, the best first: one list, and the ranked answer is that list.
-- Assumes nothing.
use mathlib.Core.Path.{◌≡◌, sym, fun_ext, subst}
use mathlib.Core.List.{List}
use Prim.Native.Nat.{ℕ, ◌<◌}
use native.Mathlib.Omega.{arith}
use lib.ListN.{length}
use Rattle.common.specs.Elements.{◌∈◌}
use Rattle.common.proofs.Elements.{map_from}
use Rattle.rules.specs.declared.rule.Rule.TheVariants.{Phrase}
use Rattle.rules.specs.Words.{FitsSoOften}
use Rattle.rules.specs.Rules.{starts_count}
use Rattle.rules.proofs.Counts.{starts_counted}
use Rattle.calls.specs.Given.{Lists, given}
use Rattle.calls.specs.Acceptance.{ListsFine}
use Rattle.calls.specs.Questions.{decoded_positions}
use Rattle.calls.specs.Order.{Match}
use Rattle.calls.specs.Ranked.{ranked_answer, match_ids}
use Rattle.calls.specs.Claims.{Ranking}
use Rattle.calls.proofs.OwnRising.{named_rises}
use Rattle.calls.proofs.Sorted.{occurs_there, occurs_gives, best_unique}
use Rattle.calls.proofs.Beside.{counted_ranking, also_counted}
use Rattle.roundtrip.specs.Claims.{Typed}
use Rattle.claim_joint.specs.Own.{own}
use Rattle.claim_joint.proofs.Once.{own_is}
use Rattle.claim_joint.proofs.LookupsBack.{written, postings_back}
use Rattle.claim_joint.proofs.Meeting.{ids_of, those_are}
use Rattle.claim_joint.proofs.Answered.{decodes}
use Rattle.claim_ranked.specs.Demand.{ThoseRanked}

-- ---- one list

module _ (l : Lists) (ns : List (List ℕ)) where
  among : (xs ys : List Match) → ThoseRanked l ns xs → ThoseRanked l ns ys → (m : Match) → m ∈ xs → m ∈ ys
  among xs ys a b m k =
      let (known, has, often) = a.only m k in
      also_counted (own l) ns xs ys (λ m k. (a.only m k).2) (λ m k. (b.only m k).2) m k (b.every m.doc known has)

  pub those_unique : (xs ys : List Match) → ThoseRanked l ns xs → ThoseRanked l ns ys → xs ≡ ys
  those_unique xs ys a b = best_unique xs ys a.sorted b.sorted (λ m. (among xs ys a b m, among ys xs b a m))

-- ---- the answer by the definitions

abbrev pub matches_of : Lists → List (List ℕ) → List Match
matches_of l ns = ranked_answer ns (given l).documents (given l).terms

module _ (l : Lists) (typed : Typed l) (fine : ListsFine l) (ns : List (List ℕ)) (some : 0 < length ns) where
  -- positions handed in rise under each name, as what is written decodes
  often : (d : ℕ) → FitsSoOften (decoded_positions (given l).terms d) ns (starts_count (decoded_positions (given l).terms d) ns)
  often d =
      let documents = (given l).documents in
      let ts = (given l).terms in
      starts_counted (decoded_positions ts d) ns some
      (λ n. named_rises (written documents ts) n (postings_back documents ts (decodes l typed fine) n) d)

  own_decoded : decoded_positions (given l).terms ≡ own l
  own_decoded = fun_ext (λ d. fun_ext (λ n. sym (own_is l fine d n)))

  ranking : Ranking (ids_of l Phrase ns) (own l) ns (matches_of l ns)
  unfolding ranked_answer
  ranking =
      subst (λ (f : ℕ → List ℕ → List ℕ). Ranking (ids_of l Phrase ns) f ns (matches_of l ns)) own_decoded
      (counted_ranking (decoded_positions (given l).terms) ns (ids_of l Phrase ns) (those_are l fine Phrase ns some).rising often)

  pub those_are_ranked : ThoseRanked l ns (matches_of l ns)
  those_are_ranked =
      let plain = those_are l fine Phrase ns some in
      let found = matches_of l ns in
      record {
        only = λ m k.
            let there = occurs_there m.doc (match_ids found) (map_from (λ m. m.doc) found m k) in
            let (known, has) = plain.only m.doc
            (occurs_gives m.doc (ids_of l Phrase ns) (omega (arith, there, ranking.permutes m.doc))) in
            (known, has, ranking.counts m k);
        every = λ d known has.
            let there = occurs_there d (ids_of l Phrase ns) (plain.every d known has) in
            occurs_gives d (match_ids found) (omega (arith, there, ranking.permutes d));
        sorted = ranking.sorted;
      }
