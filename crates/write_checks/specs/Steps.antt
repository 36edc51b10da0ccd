-- The value of a definition for what the code answers of a part that it checks and measures.
use Rattle.std.specs.Prelude.{Err, Ok, ℕ}
use Rattle.segment.specs.Results.{Answer}

-- the size of what passes its check
abbrev pub measured : {A : Type 0} → Answer A → (size : ℕ) → Answer ℕ
measured (Ok a) size = Ok size
measured (Err x) size = Err x
