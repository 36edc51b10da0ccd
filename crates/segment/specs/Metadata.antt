-- Document metadata: per document an id gap and a length. Its checks in document 01's order: both numbers, overflow, order; at the end
-- trailing bytes.
use Rattle.std.specs.Prelude.{None, Ok, Option, Some, ℕ, zero, suc, ◌^◌, cond, List, [], ◌∷◌, ltb, eqb, length}
use Rattle.segment.specs.Refusals.{document_metadata, doc_id_overflow, invalid_layout, non_increasing_document_id}
use Rattle.segment.specs.Refusals.{trailing_document_metadata}
use Rattle.segment.specs.Results.{Answer, ◌>>=◌, check}
use Rattle.segment.specs.Records.{Document, Read, number, at_gap, rises}

abbrev pub document : ℕ → ℕ → Document
document i l = record { id = i; len = l }

-- one document; its place from 0 is the index of a refusal
unfoldable pub read_document : (place : ℕ) (previous : Option ℕ) (bytes : List ℕ) → Answer (Read Document)
read_document place previous bytes = do
  gap ← number document_metadata place bytes
  len ← number document_metadata place gap.rest
  _ ← check (ltb (at_gap previous gap.got) (2 ^ 32)) (doc_id_overflow place)
  _ ← check (rises previous (at_gap previous gap.got)) (invalid_layout non_increasing_document_id)
  Ok (record { got = document (at_gap previous gap.got) len.got; rest = len.rest })

unfoldable pub read_documents : (count place : ℕ) (previous : Option ℕ) (bytes : List ℕ) → Answer (Read (List Document))
read_documents zero place previous bytes = Ok (record { got = []; rest = bytes })
read_documents (suc n) place previous bytes = do
  d ← read_document place previous bytes
  more ← read_documents n (suc place) (Some d.got.id) d.rest
  Ok (record { got = d.got ∷ more.got; rest = more.rest })

-- the whole section
unfoldable pub metadata : (count : ℕ) (bytes : List ℕ) → Answer (List Document)
metadata count bytes = do
  all ← read_documents count 0 None bytes
  _ ← check (eqb (length all.rest) 0) (invalid_layout trailing_document_metadata)
  Ok all.got

-- the length of the document with this id, or none where it is unknown
unfoldable pub length_of : List Document → ℕ → Option ℕ
length_of [] id = None
length_of (d ∷ ds) id = let later = length_of ds id in cond (eqb d.id id) (Some d.len) later
