-- What may be asked: a rule, met as a test or in words, and which questions are put at all.
use Rattle.std.specs.Prelude.{ℕ, ◌≤◌, Bool, true, false, ◌||◌, List, eqb, ltb}
use Rattle.rules.specs.declared.rule.Rule.{Rule}
use Rattle.rules.specs.declared.rule.Rule.TheVariants.{Phrase, Ordered, Unordered}
use Rattle.rules.specs.Words.{HasPhrase, HasOrdered, HasUnordered}
use Rattle.rules.specs.Rules.{phrase, ordered, unordered}

-- near, in the order named or in any
abbrev pub near_rule : Bool → ℕ → Rule
near_rule true w = Ordered w
near_rule false w = Unordered w

-- a document meets the rule: as a test, and in words
abbrev pub meets : Rule → (own : List ℕ → List ℕ) → List (List ℕ) → Bool
meets Phrase own ns = phrase own ns
meets (Ordered w) own ns = ordered w own ns
meets (Unordered w) own ns = unordered w own ns

abbrev pub Meets : Rule → (own : List ℕ → List ℕ) → List (List ℕ) → Type 0
Meets Phrase own ns = HasPhrase own ns
Meets (Ordered w) own ns = HasOrdered w own ns
Meets (Unordered w) own ns = HasUnordered w own ns

-- a phrase of no sounds, a near question of under two, or a window of 0 decodes nothing and gives none
abbrev pub idle : Rule → (how_many : ℕ) → Bool
idle Phrase n = eqb n 0
idle (Ordered w) n = ltb n 2 || eqb w 0
idle (Unordered w) n = ltb n 2 || eqb w 0

-- in words, a question that is put: a phrase of 1 name or more, a near question of 2 or more with a window of 1 or more
abbrev pub Enough : Rule → (names : ℕ) → Type 0
Enough Phrase n = 1 ≤ n
Enough (Ordered w) n = (2 ≤ n) × (1 ≤ w)
Enough (Unordered w) n = (2 ≤ n) × (1 ≤ w)
