-- Lists side by side, cut into parts, and added up.
use Rattle.std.specs.Prelude.{ℕ, ◌+◌, List, [], ◌∷◌, ◌++◌, take, drop}

-- two lists side by side, as far as the shorter goes
abbrev pub paired : {A B C : Type 0} → (A → B → C) → List A → List B → List C
paired f [] ys = []
paired f (x ∷ xs) [] = []
paired f (x ∷ xs) (y ∷ ys) = f x y ∷ paired f xs ys

-- a list cut into parts of these lengths
abbrev pub parts : {A : Type 0} → (counts : List ℕ) → List A → List (List A)
parts [] xs = []
parts (c ∷ cs) xs = take c xs ∷ parts cs (drop c xs)

-- the sum of the counts; no width, so it never wraps
abbrev pub total : List ℕ → ℕ
total [] = 0
total (c ∷ cs) = c + total cs

-- lists one behind the other
abbrev pub joined : {A : Type 0} → List (List A) → List A
joined [] = []
joined (xs ∷ xss) = xs ++ joined xss
