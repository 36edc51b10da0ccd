-- What writing a pad out promises: the reply, and the lent slice afterwards.
use Rattle.segment.specs.Results.{Answer}
use Rattle.std.specs.Prelude.{ℕ, ◌≡◌, List, length}
use Rattle.calls.specs.Replies.{length_of_written, filled}
use Rattle.pad_words.specs.Calls.{pad_write}

pub record PadWritten (pad text ends out : List ℕ) (r : Answer ℕ) (out' : List ℕ) : Type 0 where
  pub reply : r ≡ length_of_written (pad_write pad text ends (length out))
  pub left : out' ≡ filled (λ xs. xs) (pad_write pad text ends (length out)) out
