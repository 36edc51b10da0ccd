-- What the filling of the lent buffers leaves: an answer at the front, all else as it was.
use Rattle.std.specs.Prelude.{ℕ, ◌≡◌, List, [], ◌∷◌, ◌++◌, map}
use Rattle.read_cursors.specs.Held.{PostingAt, positions_there}
use Rattle.calls.specs.Replies.{fronted}

abbrev pub all_positions : List PostingAt → List ℕ
all_positions [] = []
all_positions (s ∷ ss) = positions_there s ++ all_positions ss

pub record FilledPostings (postings_there : List PostingAt) (ids counts places ids' counts' places' : List ℕ) : Type 0 where
  pub ids_left : ids' ≡ fronted (map (λ s. s.doc) postings_there) ids
  pub counts_left : counts' ≡ fronted (map (λ s. s.count) postings_there) counts
  pub positions_left : places' ≡ fronted (all_positions postings_there) places
