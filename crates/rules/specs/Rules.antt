-- The rules of specs/Words.antt as tests that compute. specs/Claims.antt: they agree.
use Rattle.std.specs.Prelude.{ℕ, suc, ◌+◌, Bool, true, false, ◌&&◌, List, [], ◌∷◌, map, eqb, ltb, leb, length}
use Rattle.common.specs.Members.{every, some_of, kept}
use Rattle.common.specs.Lists.{joined}
use Rattle.rules.specs.Words.{mentions, within}

-- a position is among the positions
abbrev pub has : List ℕ → ℕ → Bool
has positions p = some_of (eqb p) positions

-- the names have consecutive positions from start on
unfoldable pub phrase_at : (start : ℕ) (own : List ℕ → List ℕ) → List (List ℕ) → Bool
phrase_at start own [] = true
phrase_at start own (n ∷ names) = has (own n) start && phrase_at (suc start) own names

-- every start at which the phrase fits: a position of its first name
unfoldable pub starts : (own : List ℕ → List ℕ) → List (List ℕ) → List ℕ
starts own [] = []
starts own (n ∷ names) = kept (λ start. phrase_at start own (n ∷ names)) (own n)

abbrev pub not_empty : {A : Type 0} → List A → Bool
not_empty [] = false
not_empty (x ∷ xs) = true

abbrev pub phrase : (own : List ℕ → List ℕ) → List (List ℕ) → Bool
phrase own names = not_empty (starts own names)

-- how many they are
abbrev pub starts_count : (own : List ℕ → List ℕ) → List (List ℕ) → ℕ
starts_count own names = length (starts own names)

-- each further name has a position above the one before, and not above the last allowed
unfoldable pub chain_from : (previous last : ℕ) (own : List ℕ → List ℕ) → List (List ℕ) → Bool
chain_from previous last own [] = true
chain_from previous last own (n ∷ names) = some_of (λ p. ltb previous p && leb p last && chain_from p last own names) (own n)

unfoldable pub ordered : (window : ℕ) (own : List ℕ → List ℕ) → List (List ℕ) → Bool
ordered window own [] = false
ordered window own (n ∷ names) = some_of (λ first. chain_from first (first + window) own names) (own n)

-- the steps from start on hold each name as often as it is mentioned
unfoldable pub unordered_at : (start window : ℕ) (own : List ℕ → List ℕ) → List (List ℕ) → Bool
unordered_at start window own names = every (λ n. leb (mentions n names) (within start window (own n))) names

-- it is enough to start on a position of one of the names
unfoldable pub unordered : (window : ℕ) (own : List ℕ → List ℕ) → List (List ℕ) → Bool
unordered window own names = some_of (λ start. unordered_at start window own names) (joined (map own names))
