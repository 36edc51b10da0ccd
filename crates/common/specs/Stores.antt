-- What a function that stores into a lent slice leaves there.
use Rattle.std.specs.Prelude.{ℕ, ◌+◌, ◌≡◌, List, length}
use Rattle.std.proofs.lemmas.List.Edits.{sets}

-- values stored from an offset on: the answer is the offset past them, and every other place is as it was
pub record Stored (values : List ℕ) (at : ℕ) (entry : List ℕ) (next : ℕ) (exit : List ℕ) : Type 0 where
  pub past : next ≡ at + length values
  pub left : exit ≡ sets entry at values
