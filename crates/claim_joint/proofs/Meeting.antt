-- The documents that meet a question: one list of ids, and the answer is that list.
-- Assumes nothing.
use mathlib.Core.Path.{◌≡◌, sym, fun_ext, subst}
use mathlib.Core.Bool.{true}
use mathlib.Core.List.{List}
use mathlib.Core.Logic.{◌↔◌}
use Prim.Native.Nat.{ℕ, ◌<◌}
use lib.ListN.{length}
use Rattle.calls.specs.Given.{Lists, given}
use Rattle.calls.specs.Acceptance.{ListsFine}
use Rattle.rules.specs.declared.rule.Rule.{Rule}
use Rattle.rules.specs.Kinds.{meets, Meets}
use Rattle.calls.specs.Questions.{answer}
use Rattle.calls.specs.Questions as search
use Rattle.common.proofs.Rising.{rising_unique}
use Rattle.rules.proofs.RulesHold.{rules_agree}
use Rattle.calls.proofs.Answering.{answer_are, answer_rises}
use Rattle.claim_joint.specs.Own.{own}
use Rattle.claim_joint.specs.Demand.{ThoseThatMeet}
use Rattle.claim_joint.proofs.Once.{own_is}

-- two lists of those that meet are one
pub those_unique : (l : Lists) (rule : Rule) (ns : List (List ℕ)) (xs ys : List ℕ)
    → ThoseThatMeet l rule ns xs → ThoseThatMeet l rule ns ys → xs ≡ ys
those_unique l rule ns xs ys a b =
    rising_unique xs ys a.rising b.rising
    (λ d m. let (k, w) = a.only d m in b.every d k w)
    (λ d m. let (k, w) = b.only d m in a.every d k w)

-- the answer by the definitions
abbrev pub ids_of : Lists → Rule → List (List ℕ) → List ℕ
ids_of l rule ns = answer rule ns (given l).documents (given l).terms

module _ (l : Lists) (fine : ListsFine l) (rule : Rule) (ns : List (List ℕ)) (some : 0 < length ns) where
  -- the test by the search's own positions is the rule in words by what was handed in
  met_is : (d : ℕ) → (meets rule (search.decoded_positions (given l).terms d) ns ≡ true) ↔ Meets rule (own l d) ns
  met_is d =
      subst (λ (f : List ℕ → List ℕ). (meets rule (search.decoded_positions (given l).terms d) ns ≡ true) ↔ Meets rule f ns)
      (sym (fun_ext (own_is l fine d)))
      (rules_agree rule (search.decoded_positions (given l).terms d) ns some)

  pub those_are : ThoseThatMeet l rule ns (ids_of l rule ns)
  those_are = record {
    only = λ d m. let (k, t) = (answer_are rule ns (given l).documents (given l).terms d).0 m in (k, (met_is d).0 t);
    every = λ d m w. (answer_are rule ns (given l).documents (given l).terms d).1 (m, (met_is d).1 w);
    rising = answer_rises rule ns (given l).documents (given l).terms fine.documents_rise;
  }
