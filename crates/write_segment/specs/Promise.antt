-- What the writer promises: the reply, and the lent slice afterwards.
use Rattle.segment.specs.Results.{Answer}
use Rattle.std.specs.Prelude.{ℕ, ◌≡◌, List, length}
use Rattle.calls.specs.Given.{Lists}
use Rattle.calls.specs.Writing.{write}
use Rattle.calls.specs.Replies.{length_of_written, filled}

pub record Wrote (l : Lists) (out : List ℕ) (r : Answer ℕ) (out' : List ℕ) : Type 0 where
  pub reply : r ≡ length_of_written (write l (length out))
  pub left : out' ≡ filled (λ xs. xs) (write l (length out)) out
