-- What the filling of the lent buffers leaves: an answer at the front, all else as it was.
use Rattle.std.specs.Prelude.{ℕ, ◌≡◌, List}
use Rattle.segment.specs.Records.{Document}
use Rattle.calls.specs.Replies.{fronted, ids_of, lengths_of}

pub record FilledDocuments (docs : List Document) (ids lengths ids' lengths' : List ℕ) : Type 0 where
  pub ids_left : ids' ≡ fronted (ids_of docs) ids
  pub lengths_left : lengths' ≡ fronted (lengths_of docs) lengths
