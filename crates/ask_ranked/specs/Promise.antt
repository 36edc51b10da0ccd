-- What the ranked search promises: the reply, and both lent buffers afterwards.
use Rattle.segment.specs.Results.{Answer}
use Rattle.std.specs.Prelude.{ℕ, ◌≡◌, List, length}
use Rattle.calls.specs.Replies.{count_of, filled}
use Rattle.calls.specs.Ranked.{search_ranked, match_ids, match_counts}

pub record RankedAnswered (bytes text ends ids counts : List ℕ) (r : Answer ℕ) (ids' counts' : List ℕ) : Type 0 where
  pub reply : r ≡ count_of (search_ranked bytes text ends (length ids) (length counts))
  pub ids_left : ids' ≡ filled match_ids (search_ranked bytes text ends (length ids) (length counts)) ids
  pub counts_left : counts' ≡ filled match_counts (search_ranked bytes text ends (length ids) (length counts)) counts
