-- A lent buffer after a call, whatever it was asked of: a refusal leaves it; an acceptance leaves the places past the answer.
use Rattle.std.specs.Prelude.{Err, Ok, ℕ, ◌≤◌, ◌≡◌, List, length, drop}
use Rattle.segment.specs.Results.{Answer}
use Rattle.segment.specs.declared.replies.Totals.{Totals}

-- an answer of n elements has room, and what is past it is as before
pub record Past (n : ℕ) (before after : List ℕ) : Type 0 where
  pub room : n ≤ length before
  pub same_length : length after ≡ length before
  pub rest : drop n after ≡ drop n before

abbrev pub Kept : (before : List ℕ) (r : Answer ℕ) (after : List ℕ) → Type 0
Kept before (Ok n) after = Past n before after
Kept before (Err x) after = after ≡ before

-- three buffers: ids and counts, one for each posting, and positions
abbrev pub KeptPostings : (ids counts positions : List ℕ) (r : Answer Totals) (ids' counts' positions' : List ℕ) → Type 0
KeptPostings ids counts positions (Ok t) ids' counts' positions' =
    Past t.postings ids ids' × Past t.postings counts counts' × Past t.positions positions positions'
KeptPostings ids counts positions (Err x) ids' counts' positions' = (ids' ≡ ids) × (counts' ≡ counts) × (positions' ≡ positions)
