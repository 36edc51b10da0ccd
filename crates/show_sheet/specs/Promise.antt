-- What `bar_sheet` promises: the reply, and the lent buffer afterwards.
use Rattle.segment.specs.Results.{Answer}
use Rattle.std.specs.Prelude.{ℕ, ◌≡◌, List, length}
use Rattle.calls.specs.Replies.{count_of, filled}
use Rattle.calls.specs.Sheet.{sheet_into}

pub record SheetAnswered (bytes : List ℕ) (id : ℕ) (out : List ℕ) (r : Answer ℕ) (out' : List ℕ) : Type 0 where
  pub reply : r ≡ count_of (sheet_into bytes id (length out))
  pub left : out' ≡ filled (λ text. text) (sheet_into bytes id (length out)) out
