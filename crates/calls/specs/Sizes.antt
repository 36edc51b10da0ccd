-- How many bytes a segment of what is handed in takes, from document 01's format, with every number in its shortest form (decision 4).
use Rattle.std.specs.Prelude.{None, Option, Some, ℕ, ◌+◌, List, [], ◌∷◌, length}
use Rattle.leb128.specs.Leb128.{encoded}
use Rattle.segment.specs.Records.{Document, Posting, Term, header_size, entry_size, gap}
use Rattle.calls.specs.Given.{Lists, given}

abbrev pub number_size : ℕ → ℕ
number_size x = length (encoded x)

unfoldable pub documents_size : Option ℕ → List Document → ℕ
documents_size previous [] = 0
documents_size previous (d ∷ ds) = number_size (gap previous d.id) + number_size d.len + documents_size (Some d.id) ds

unfoldable pub positions_size : Option ℕ → List ℕ → ℕ
positions_size previous [] = 0
positions_size previous (p ∷ ps) = number_size (gap previous p) + positions_size (Some p) ps

unfoldable pub postings_size : Option ℕ → List Posting → ℕ
postings_size previous [] = 0
postings_size previous (p ∷ ps) =
    number_size (gap previous p.doc) + number_size (length p.positions) + positions_size None p.positions
    + postings_size (Some p.doc) ps

-- per term 32 bytes of directory, its name, its list
unfoldable pub terms_size : List Term → ℕ
terms_size [] = 0
terms_size (t ∷ ts) = entry_size + length t.name + postings_size None t.postings + terms_size ts

abbrev pub segment_size : Lists → ℕ
segment_size l = header_size + documents_size None (given l).documents + terms_size (given l).terms
