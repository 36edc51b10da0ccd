-- The calls' replies and what they leave in the lent buffer, made of what the definitions answer.
use Rattle.segment.specs.Results.{Answer}
use Rattle.std.specs.Prelude.{ℕ, ◌≡◌, List, length}
use Rattle.calls.specs.Replies.{count_of, filled}
use Rattle.calls.specs.Reads.{docs_with_term}

-- ---- the promise

pub record DocsAnswered (bytes name ids : List ℕ) (r : Answer ℕ) (ids' : List ℕ) : Type 0 where
  pub reply : r ≡ count_of (docs_with_term bytes name (length ids))
  pub ids_left : ids' ≡ filled (λ xs. xs) (docs_with_term bytes name (length ids)) ids
