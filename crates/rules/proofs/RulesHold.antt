-- The tests are the rules in words.
-- Assumes nothing.
use mathlib.Core.Path.{◌≡◌, refl}
use mathlib.Core.Bool.{Bool, true, false}
use mathlib.Core.List.{List}
use Prim.Native.Nat.{ℕ, ◌<◌}
use lib.ListN.{length}
use Rattle.rules.specs.declared.rule.Rule.{Rule}
use Rattle.rules.specs.declared.rule.Rule.TheVariants.{Phrase, Ordered, Unordered}
use Rattle.rules.specs.Kinds.{meets, Meets}
use Rattle.rules.specs.Claims as claims
use Rattle.rules.proofs.Starts.{phrase_is}
use Rattle.rules.proofs.Chains.{ordered_is}
use Rattle.rules.proofs.Windows.{unordered_is}

pub rules_agree : claims.RulesAgree
rules_agree Phrase own ns h = phrase_is own ns h
rules_agree (Ordered w) own ns h = ordered_is w own ns h
rules_agree (Unordered w) own ns h = unordered_is own ns w h

-- a test fails where the rule is met by nothing
pub rules_fail : (rule : Rule) (own : List ℕ → List ℕ) (ns : List (List ℕ)) → 0 < length ns → (Meets rule own ns → ⊥)
    → meets rule own ns ≡ false
rules_fail rule own ns h none = by_test (meets rule own ns) refl
  where
    by_test : (t : Bool) → meets rule own ns ≡ t → t ≡ false
    by_test true e = absurd (none ((rules_agree rule own ns h).0 e))
    by_test false e = refl
