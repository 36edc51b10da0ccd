-- The calls' replies and what they leave in the lent buffers, made of what the definitions answer.
use Rattle.segment.specs.Results.{Answer}
use Rattle.segment.specs.declared.replies.Totals.{Totals}
use Rattle.std.specs.Prelude.{ℕ, ◌≡◌, List, length}
use Rattle.calls.specs.Replies.{count_of, filled, docs_of, totals, counts_of}
use Rattle.calls.specs.Reads.{term_postings, positions, joined_positions}

-- ---- the promises

pub record PostingsAnswered (bytes name ids counts places : List ℕ) (r : Answer Totals) (ids' counts' places' : List ℕ) : Type 0 where
  pub reply : r ≡ totals (term_postings bytes name (length ids) (length counts) (length places))
  pub ids_left : ids' ≡ filled docs_of (term_postings bytes name (length ids) (length counts) (length places)) ids
  pub counts_left : counts' ≡ filled counts_of (term_postings bytes name (length ids) (length counts) (length places)) counts
  pub positions_left : places' ≡ filled joined_positions (term_postings bytes name (length ids) (length counts) (length places)) places

pub record PositionsAnswered (bytes name : List ℕ) (doc : ℕ) (places : List ℕ) (r : Answer ℕ) (places' : List ℕ) : Type 0 where
  pub reply : r ≡ count_of (positions bytes name doc (length places))
  pub positions_left : places' ≡ filled (λ xs. xs) (positions bytes name doc (length places)) places
