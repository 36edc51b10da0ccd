-- Lists: which elements pass a test.
use Rattle.std.specs.Prelude.{Bool, true, false, cond, ◌&&◌, ◌||◌, List, [], ◌∷◌}

module _ {A : Type 0} where
  -- every element passes
  unfoldable pub every : (A → Bool) → List A → Bool
  every f [] = true
  every f (x ∷ xs) = f x && every f xs

  -- some element passes
  unfoldable pub some_of : (A → Bool) → List A → Bool
  some_of f [] = false
  some_of f (x ∷ xs) = f x || some_of f xs

  -- the elements that pass, in their order
  unfoldable pub kept : (A → Bool) → List A → List A
  kept f [] = []
  kept f (x ∷ xs) = let later = kept f xs in cond (f x) (x ∷ later) later
