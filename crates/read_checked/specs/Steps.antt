-- What a list found by a handle means.
use Rattle.std.specs.Prelude.{Err, None, Ok, Option, Some, ℕ, ◌≡◌, List, [], map}
use Rattle.segment.specs.Results.{Answer}
use Rattle.read_checked.specs.declared.named.ListPlace.{ListPlace}
use Rattle.common.specs.Lists.{total}
use Rattle.calls.specs.Reads.{term_list}
use Rattle.read_cursors.specs.Held.{PostingAt}
use Rattle.read_terms.specs.Steps.{ListIsDecoded}
use Rattle.handle.specs.declared.handle.Handle.{Handle}
use Rattle.handle.specs.Handles.{Vouches}

-- as the plain call's decoding of the name, of which the number of positions is not told
abbrev pub NamedMeans : (bytes name : List ℕ) → Answer (Option ListPlace) → Type 0
NamedMeans bytes name (Ok (Some p)) = (positions : ℕ) × ListIsDecoded bytes name p.start p.df positions
NamedMeans bytes name (Ok None) = term_list bytes name ≡ Ok []
NamedMeans bytes name (Err x) = term_list bytes name ≡ Err x

-- this is so where the handle vouches for the bytes
abbrev pub ListNamed : (bytes : List ℕ) (h : Handle) (name : List ℕ) → Answer (Option ListPlace) → Type 0
ListNamed bytes h name r = Vouches bytes h → NamedMeans bytes name r

-- how many positions postings say that they have
abbrev pub counts_in : List PostingAt → ℕ
counts_in ss = total (map (λ s. s.count) ss)
