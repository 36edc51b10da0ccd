-- The rules in the customer's words (demand 3), for one document. `own n` are the document's own positions (document 01: a bar's own
-- steps) of the term named n; `names` are the names of the question in turn.
use Rattle.std.specs.Prelude.{ℕ, suc, ◌+◌, ◌-◌, ◌≤◌, ◌<◌, ◌&&◌, ◌≡◌, List, [], ◌↔◌, leb, length, get_or}
use Rattle.segment.specs.Names.{same}
use Rattle.common.specs.Members.{kept}
use Rattle.common.specs.Elements.{◌∈◌, Rising}

-- phrase: some start has sound i on start + i
pub record HasPhrase (own : List ℕ → List ℕ) (names : List (List ℕ)) : Type 0 where
  pub start : ℕ
  pub on : (i : ℕ) → i < length names → (start + i) ∈ own (get_or names i [])

-- the phrase fits at a start: sound i is on start + i
pub record FitsAt (own : List ℕ → List ℕ) (names : List (List ℕ)) (start : ℕ) : Type 0 where
  pub on : (i : ℕ) → i < length names → (start + i) ∈ own (get_or names i [])

-- document 02, wish 5: the number of different starts at which the phrase fits; a list has just these, each once
pub record FitsSoOften (own : List ℕ → List ℕ) (names : List (List ℕ)) (count : ℕ) : Type 0 where
  pub starts : List ℕ
  pub different : Rising starts
  pub just : (start : ℕ) → (start ∈ starts) ↔ FitsAt own names start
  pub number : count ≡ length starts

-- ordered near: strictly rising steps, one for each sound in turn, last minus first at most the window
pub record HasOrdered (window : ℕ) (own : List ℕ → List ℕ) (names : List (List ℕ)) : Type 0 where
  pub step : ℕ → ℕ
  pub on : (i : ℕ) → i < length names → step i ∈ own (get_or names i [])
  pub rising : (i : ℕ) → suc i < length names → step i < step (suc i)
  pub near : step (length names - 1) - step 0 ≤ window

-- how often a name is mentioned
unfoldable pub mentions : List ℕ → List (List ℕ) → ℕ
mentions n names = length (kept (same n) names)

-- how many positions lie on the window + 1 consecutive steps from start on
unfoldable pub within : (start window : ℕ) → List ℕ → ℕ
within start window positions = length (kept (λ p. leb start p && leb p (start + window)) positions)

-- unordered near: some window + 1 consecutive steps hold each different sound at least as often as it is named
pub record HasUnordered (window : ℕ) (own : List ℕ → List ℕ) (names : List (List ℕ)) : Type 0 where
  pub start : ℕ
  pub holds : (n : List ℕ) → n ∈ names → mentions n names ≤ within start window (own n)
