-- What is looked up in an open segment, and the test of a name that is asked for.
use Rattle.std.specs.Prelude.{None, Ok, Option, Some, ℕ, cond, List, [], ◌∷◌, leb, eqb, length}
use Rattle.utf8.specs.Utf8.{utf8}
use Rattle.segment.specs.Refusals.{too_large, invalid_utf8}
use Rattle.segment.specs.Results.{Answer, ◌>>=◌, check}
use Rattle.segment.specs.Records.{Document, Posting, Entry, Segment}
use Rattle.segment.specs.Directory.{entry_of}
use Rattle.segment.specs.Postings.{decode}

-- a questioned name: 12, then 10
unfoldable pub well_named : (name : List ℕ) → Answer (Unit {0})
well_named name = do
  _ ← check (leb (length name) 16777216) too_large
  check (utf8 name) invalid_utf8

-- the postings of a term, decoded; none for an unknown term
abbrev pub found : List Document → Option Entry → Answer (List Posting)
found documents None = Ok []
found documents (Some e) = decode documents e

unfoldable pub postings_of : Segment → (name : List ℕ) → Answer (List Posting)
postings_of s name = found s.documents (entry_of s.entries name)

-- the positions of one document; none where the list does not name it
unfoldable pub positions_of : List Posting → (doc : ℕ) → List ℕ
positions_of [] doc = []
positions_of (p ∷ ps) doc = let later = positions_of ps doc in cond (eqb p.doc doc) p.positions later
