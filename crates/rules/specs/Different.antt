-- The different names of a question.
use Rattle.std.specs.Prelude.{ℕ, not, List, [], ◌∷◌}
use Rattle.segment.specs.Names.{same}
use Rattle.common.specs.Members.{kept}

-- the different names, in the order in which each is first named
unfoldable pub different : List (List ℕ) → List (List ℕ)
different [] = []
different (n ∷ ns) = n ∷ kept (λ m. not (same n m)) (different ns)
