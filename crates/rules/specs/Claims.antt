-- What is claimed of the rules; proved in proofs/.
use Rattle.std.specs.Prelude.{ℕ, ◌<◌, ◌≡◌, true, false, List, ◌↔◌, length}
use Rattle.common.specs.Elements.{Rising}
use Rattle.rules.specs.declared.rule.Rule.{Rule}
use Rattle.rules.specs.Words.{FitsSoOften}
use Rattle.rules.specs.Rules.{phrase, starts_count}
use Rattle.rules.specs.Kinds.{meets, Meets, idle, Enough}

-- the tests are the rules in words, of every question that names something
abbrev pub RulesAgree : Type 0
RulesAgree = (rule : Rule) (own : List ℕ → List ℕ) (ns : List (List ℕ)) → 0 < length ns → (meets rule own ns ≡ true) ↔ Meets rule own ns

-- a question is put, and not idle, exactly when it names enough
abbrev pub IdleExactly : Type 0
IdleExactly = (rule : Rule) (names : ℕ) → (idle rule names ≡ false) ↔ Enough rule names

-- where own positions rise, as in every segment, the starts of a phrase of one name or more are counted as in words
abbrev pub StartsCounted : Type 0
StartsCounted =
    (own : List ℕ → List ℕ) (ns : List (List ℕ)) → 0 < length ns → ((n : List ℕ) → Rising (own n))
    → FitsSoOften own ns (starts_count own ns)

-- and in words there is one number
abbrev pub StartsNumber : Type 0
StartsNumber = (own : List ℕ → List ℕ) (ns : List (List ℕ)) (c d : ℕ) → FitsSoOften own ns c → FitsSoOften own ns d → c ≡ d

-- a document meets the phrase exactly when it fits at one start or more
abbrev pub StartsSome : Type 0
StartsSome = (own : List ℕ → List ℕ) (ns : List (List ℕ)) → (phrase own ns ≡ true) ↔ (0 < starts_count own ns)
