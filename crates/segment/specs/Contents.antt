-- A segment opened and decoded whole: what it says.
use Rattle.std.specs.Prelude.{Ok, ℕ, List, [], ◌∷◌}
use Rattle.segment.specs.Results.{Answer, ◌>>=◌}
use Rattle.segment.specs.Records.{Document, Term, Entry, Given}
use Rattle.segment.specs.Postings.{decode}
use Rattle.segment.specs.Opening.{open_segment}

-- every list of the directory decoded, in the directory's order
unfoldable pub decode_all : List Document → List Entry → Answer (List Term)
decode_all documents [] = Ok []
decode_all documents (e ∷ es) = do
  ps ← decode documents e
  more ← decode_all documents es
  Ok (record { name = e.name; postings = ps } ∷ more)

unfoldable pub decode_segment : List ℕ → Answer Given
decode_segment bytes = do
  s ← open_segment bytes
  ts ← decode_all s.documents s.entries
  Ok (record { documents = s.documents; terms = ts })
