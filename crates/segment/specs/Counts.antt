-- The position counts that are stored in a segment's bytes, added up (document 01: "adding up every list's position counts").
use Rattle.std.specs.Prelude.{Err, None, Ok, Option, Some, ℕ, zero, suc, ◌+◌, List, [], ◌∷◌}
use Rattle.segment.specs.Results.{Answer, ◌>>=◌}
use Rattle.segment.specs.Records.{Document, Entry, Segment}
use Rattle.segment.specs.Postings.{read_head, read_positions}

-- the counts of a list's postings, added up: for each posting the count stored in front of its positions, which are read and passed over
unfoldable pub stored_counts : (df place : ℕ) (documents : List Document) (previous : Option ℕ) (bytes : List ℕ) → Answer ℕ
stored_counts zero place documents previous bytes = Ok 0
stored_counts (suc n) place documents previous bytes = do
  head ← read_head place documents previous bytes
  all ← read_positions head.got.count place head.got.len None head.rest
  more ← stored_counts n (suc place) documents (Some head.got.doc) all.rest
  Ok (head.got.count + more)

-- 0 where the list does not decode
abbrev pub or_none : Answer ℕ → ℕ
or_none (Ok n) = n
or_none (Err x) = 0

unfoldable pub entry_counts : List Document → List Entry → ℕ
entry_counts documents [] = 0
entry_counts documents (e ∷ es) = or_none (stored_counts e.df 0 documents None e.list) + entry_counts documents es

-- of every list that the directory names; 0 where the bytes do not open
abbrev pub position_counts_of : Answer Segment → ℕ
position_counts_of (Ok s) = entry_counts s.documents s.entries
position_counts_of (Err x) = 0
