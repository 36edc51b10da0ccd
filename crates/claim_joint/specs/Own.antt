-- A document's own positions in the lists handed in (document 01, "The search").
use Rattle.std.specs.Prelude.{ℕ, ◌≡◌, cond, List, [], ◌∷◌, ◌++◌, eqb}
use Rattle.common.specs.Elements.{◌∈◌}
use Rattle.segment.specs.Records.{Posting, Term}
use Rattle.segment.specs.Names.{same}
use Rattle.calls.specs.Given.{Lists, given}

-- a document's own positions of a name: the positions in the writer's lists under that name and that document's id, in their order
unfoldable pub own_of : List Posting → (doc : ℕ) → List ℕ
own_of [] d = []
own_of (p ∷ ps) d = let later = own_of ps d in cond (eqb p.doc d) (p.positions ++ later) later

unfoldable pub own_under : List Term → (doc : ℕ) (name : List ℕ) → List ℕ
own_under [] d n = []
own_under (t ∷ ts) d n = let later = own_under ts d n in cond (same t.name n) (own_of t.postings d ++ later) later

abbrev pub own : Lists → (doc : ℕ) (name : List ℕ) → List ℕ
own l d n = own_under (given l).terms d n

-- the same in words: a position is own exactly when some list under that name and id holds it
pub record Stands (l : Lists) (doc : ℕ) (name : List ℕ) (p : ℕ) : Type 0 where
  pub term : Term
  pub posting : Posting
  pub handed_in : term ∈ (given l).terms
  pub of_name : term.name ≡ name
  pub under : posting ∈ term.postings
  pub of : posting.doc ≡ doc
  pub on : p ∈ posting.positions
