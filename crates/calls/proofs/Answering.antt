-- The answer: the ids of the documents that meet the rule, rising; it is enough to look at the documents of one of the names asked.
-- Assumes nothing.
use Rattle.std.specs.Prelude.{Err, Ok}
use mathlib.Core.Path.{◌≡◌, sym, ap, ◌∙◌}
use mathlib.Core.Bool.{Bool, true, false}
use mathlib.Core.List.{List, []}
use mathlib.Core.Logic.{◌↔◌}
use Prim.Native.Nat.{ℕ}
use lib.ListN.{length}
use Rattle.segment.specs.declared.refusal.Refusal.{Refusal}
use Rattle.segment.specs.Records.{Document, Term, Segment}
use Rattle.calls.specs.Lookups.{positions_of}
use Rattle.common.specs.Members.{kept}
use Rattle.common.specs.Elements.{◌∈◌, Rising}
use Rattle.rules.specs.declared.rule.Rule.{Rule}
use Rattle.rules.specs.declared.rule.Rule.TheVariants.{Phrase}
use Rattle.rules.specs.Kinds.{meets, idle}
use Rattle.rules.specs.Rules.{starts_count}
use Rattle.rules.specs.Different.{different}
use Rattle.calls.specs.Questions.{under, decoded_positions, decode_names, answer, answers}
use Rattle.calls.specs.Order.{match_of, ranked}
use Rattle.calls.specs.Ranked.{ranked_answer, ranked_answers}
use Rattle.common.proofs.Membership.{kept_gives, kept_from}
use Rattle.common.proofs.Kept.{kept_same, map_kept, map_same}
use Rattle.common.proofs.Rising.{kept_rises, kept_of_part}
use Rattle.rules.proofs.Asked.{starts_same, meets_same, needs_each}
use Rattle.calls.proofs.Posted.{docs, ids, positions_some}

-- ---- the answer

-- a document meets the rule by its own positions
abbrev pub met : Rule → List (List ℕ) → List Term → ℕ → Bool
met rule ns ts d = meets rule (decoded_positions ts d) ns

module _ (rule : Rule) (ns : List (List ℕ)) (documents : List Document) where
  pub answer_is : (ts : List Term) → answer rule ns documents ts ≡ kept (met rule ns ts) (ids documents)
  unfolding answer
  answer_is ts = map_kept (λ d. d.id) (met rule ns ts) documents

  pub answer_are : (ts : List Term) (d : ℕ) → (d ∈ answer rule ns documents ts) ↔ ((d ∈ ids documents) × (met rule ns ts d ≡ true))
  answer_are ts d =
      rw (answer_is ts)
      (kept_gives (met rule ns ts) (ids documents) d, λ (m, t). kept_from (met rule ns ts) (ids documents) d m t)

  pub answer_rises : (ts : List Term) → Rising (ids documents) → Rising (answer rule ns documents ts)
  answer_rises ts r = rw (answer_is ts) (kept_rises (met rule ns ts) (ids documents) r)

  -- what stands under the names asked decides
  pub answer_same : (ts us : List Term) → ((n : List ℕ) → n ∈ ns → under ts n ≡ under us n)
      → answer rule ns documents ts ≡ answer rule ns documents us
  answer_same ts us h =
      answer_is ts
      ∙ kept_same (met rule ns ts) (met rule ns us) (ids documents)
      (λ d m. meets_same (decoded_positions ts d) (decoded_positions us d) rule ns (λ n k. ap (λ ps. positions_of ps d) (h n k)))
      ∙ sym (answer_is us)

  -- a document that meets the rule is one of the documents of each name asked
  pub met_named : (ts : List Term) (n : List ℕ) → n ∈ ns → (d : ℕ) → met rule ns ts d ≡ true → d ∈ docs (under ts n)
  met_named ts n asked d t = positions_some (under ts n) d (needs_each (decoded_positions ts d) ns n asked rule t)

  -- so the documents of one of the names are enough
  pub answer_of_name : (ts : List Term) (n : List ℕ) → n ∈ ns → Rising (ids documents) → Rising (docs (under ts n))
      → ((d : ℕ) → d ∈ docs (under ts n) → d ∈ ids documents)
      → answer rule ns documents ts ≡ kept (met rule ns ts) (docs (under ts n))
  answer_of_name ts n asked r s known =
      answer_is ts ∙ kept_of_part (met rule ns ts) (ids documents) (docs (under ts n)) r s known (λ d m t. met_named ts n asked d t)

-- ---- the answers

module _ (s : Segment) (rule : Rule) (ns : List (List ℕ)) where
  pub answers_idle : idle rule (length ns) ≡ true → answers s rule ns ≡ Ok []
  unfolding answers
  answers_idle e = rw e

  module _ (busy : idle rule (length ns) ≡ false) where
    pub answers_found : {ts : List Term} → decode_names s (different ns) ≡ Ok ts → answers s rule ns ≡ Ok (answer rule ns s.documents ts)
    unfolding answers
    answers_found e = rw (busy, e)

    pub answers_refused : {x : Refusal} → decode_names s (different ns) ≡ Err x → answers s rule ns ≡ Err x
    unfolding answers
    answers_refused e = rw (busy, e)

-- ---- the ranked answers

-- what stands under the names asked decides
pub ranked_answer_same : (ns : List (List ℕ)) (documents : List Document) (ts us : List Term)
    → ((n : List ℕ) → n ∈ ns → under ts n ≡ under us n) → ranked_answer ns documents ts ≡ ranked_answer ns documents us
unfolding ranked_answer
ranked_answer_same ns documents ts us h =
    rw (answer_same Phrase ns documents ts us h)
    (ap ranked
    (map_same
    (λ d. match_of d (starts_count (decoded_positions ts d) ns))
    (λ d. match_of d (starts_count (decoded_positions us d) ns))
    (answer Phrase ns documents us)
    (λ d m.
    ap (λ xs. match_of d (length xs))
    (starts_same (decoded_positions ts d) (decoded_positions us d) ns (λ n k. ap (λ ps. positions_of ps d) (h n k))))))

module _ (s : Segment) (ns : List (List ℕ)) where
  pub ranked_idle : idle Phrase (length ns) ≡ true → ranked_answers s ns ≡ Ok []
  unfolding ranked_answers
  ranked_idle e = rw e

  module _ (busy : idle Phrase (length ns) ≡ false) where
    pub ranked_found : {ts : List Term} → decode_names s (different ns) ≡ Ok ts
        → ranked_answers s ns ≡ Ok (ranked_answer ns s.documents ts)
    unfolding ranked_answers
    ranked_found e = rw (busy, e)

    pub ranked_refused : {x : Refusal} → decode_names s (different ns) ≡ Err x → ranked_answers s ns ≡ Err x
    unfolding ranked_answers
    ranked_refused e = rw (busy, e)
