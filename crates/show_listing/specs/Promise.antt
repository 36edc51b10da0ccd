-- What the listing promises: the reply, and the lent slice afterwards.
use Rattle.segment.specs.Results.{Answer}
use Rattle.std.specs.Prelude.{ℕ, ◌≡◌, List, length}
use Rattle.calls.specs.Replies.{fronted, count_of, filled}
use Rattle.calls.specs.Listing.{listing, list_into}

pub record ListedInto (bytes out : List ℕ) (r : Answer ℕ) (out' : List ℕ) : Type 0 where
  pub reply : r ≡ count_of (list_into bytes (length out))
  pub left : out' ≡ filled (λ text. text) (list_into bytes (length out)) out

-- with room for every listing: the text and its length, and no refusal
pub record ListedWhole (bytes out : List ℕ) (r : ℕ) (out' : List ℕ) : Type 0 where
  pub reply : r ≡ length (listing bytes)
  pub left : out' ≡ fronted (listing bytes) out
