-- Several names in one text, by their ends (document 01: one text with u32 ends).
use Rattle.std.specs.Prelude.{ℕ, suc, ◌-◌, ◌≤◌, ◌<◌, ◌≡◌, Bool, ◌&&◌, List, [], ◌∷◌, leb, eqb, length, take, drop, get_or}

-- The shape of a text in words: no end is below the one before it, the last is the text's length, a text without ends is empty
pub record TextShape (text ends : List ℕ) : Type 0 where
  pub never_fall : (i : ℕ) → suc i < length ends → get_or ends i 0 ≤ get_or ends (suc i) 0
  pub last : (i : ℕ) → suc i ≡ length ends → get_or ends i 0 ≡ length text
  pub without : length ends ≡ 0 → length text ≡ 0

-- The same as a test: ends that start from a place and come to n
unfoldable pub ends_fit : (from : ℕ) (ends : List ℕ) (n : ℕ) → Bool
ends_fit from [] n = eqb from n
ends_fit from (e ∷ es) n = leb from e && ends_fit e es n

-- The names, one after the other; `text` is what is left of the text from a place on
unfoldable pub names : (from : ℕ) (ends text : List ℕ) → List (List ℕ)
names from [] text = []
names from (e ∷ es) text = take (e - from) text ∷ names e es (drop (e - from) text)
