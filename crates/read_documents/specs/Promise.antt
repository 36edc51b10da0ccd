-- The calls' replies and what they leave in the lent buffers, made of what the definitions answer.
use Rattle.segment.specs.Results.{Answer}
use Rattle.std.specs.Prelude.{ℕ, ◌≡◌, List, length}
use Rattle.calls.specs.Replies.{count_of, filled, ids_of, lengths_of}
use Rattle.calls.specs.Reads.{document_lengths}

-- ---- the promise

pub record LengthsAnswered (bytes ids lengths : List ℕ) (r : Answer ℕ) (ids' lengths' : List ℕ) : Type 0 where
  pub reply : r ≡ count_of (document_lengths bytes (length ids) (length lengths))
  pub ids_left : ids' ≡ filled ids_of (document_lengths bytes (length ids) (length lengths)) ids
  pub lengths_left : lengths' ≡ filled lengths_of (document_lengths bytes (length ids) (length lengths)) lengths
