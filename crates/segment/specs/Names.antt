-- Names of terms (document 01: sounds) as lists of bytes: the same name, and the byte order, as tests and in words.
use Rattle.std.specs.Prelude.{ℕ, ◌<◌, ◌≡◌, Bool, true, false, ◌&&◌, ◌||◌, List, [], ◌∷◌, ◌++◌, ◌⊎◌, eqb, ltb}

-- Two names are the same when their bytes are
unfoldable pub same : List ℕ → List ℕ → Bool
same [] [] = true
same [] (y ∷ ys) = false
same (x ∷ xs) [] = false
same (x ∷ xs) (y ∷ ys) = eqb x y && same xs ys

-- Byte order: the first difference decides, and a beginning comes before what it begins
unfoldable pub precedes : List ℕ → List ℕ → Bool
precedes [] [] = false
precedes [] (y ∷ ys) = true
precedes (x ∷ xs) [] = false
precedes (x ∷ xs) (y ∷ ys) = ltb x y || (eqb x y && precedes xs ys)

-- The same in words: a is a proper beginning of b, or after a common beginning a has the lower byte
pub record Beginning (a b : List ℕ) : Type 0 where
  pub next : ℕ
  pub rest : List ℕ
  pub whole : b ≡ a ++ (next ∷ rest)

pub record Lower (a b : List ℕ) : Type 0 where
  pub common : List ℕ
  pub x : ℕ
  pub y : ℕ
  pub xs : List ℕ
  pub ys : List ℕ
  pub of_a : a ≡ common ++ (x ∷ xs)
  pub of_b : b ≡ common ++ (y ∷ ys)
  pub less : x < y

abbrev pub Before : List ℕ → List ℕ → Type 0
Before a b = Beginning a b ⊎ Lower a b
