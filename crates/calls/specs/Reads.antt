-- The calls that read: what each answers, its tests in document 01's order. `room` is how many places a lent buffer has.
use Rattle.std.specs.Prelude.{None, Ok, Option, Some, ℕ, List, map, [], ◌∷◌, ◌++◌, length}
use Rattle.segment.specs.Results.{Answer, roomy, ◌>>=◌}
use Rattle.segment.specs.Records.{Document, Posting, Entry}
use Rattle.segment.specs.Metadata.{length_of}
use Rattle.segment.specs.Opening.{open_segment}
use Rattle.segment.specs.Directory.{entry_of}
use Rattle.calls.specs.Lookups.{well_named, postings_of, positions_of}
use Rattle.segment.specs.Postings.{total_positions}

-- ---- documents

-- buffers in the order ids, lengths
unfoldable pub document_lengths : (bytes : List ℕ) (room₁ room₂ : ℕ) → Answer (List Document)
document_lengths bytes room₁ room₂ = do
  s ← open_segment bytes
  _ ← roomy 1 (length s.documents) room₁
  _ ← roomy 2 (length s.documents) room₂
  Ok s.documents

-- a document's length; none where the document is unknown
unfoldable pub document_len : (bytes : List ℕ) (id : ℕ) → Answer (Option ℕ)
document_len bytes id = do
  s ← open_segment bytes
  Ok (length_of s.documents id)

-- ---- terms and the documents that contain them

-- the stored df; 0 for an unknown term
abbrev pub frequency : Option Entry → ℕ
frequency None = 0
frequency (Some e) = e.df

-- no list is decoded
unfoldable pub df : (bytes name : List ℕ) → Answer ℕ
df bytes name = do
  _ ← well_named name
  s ← open_segment bytes
  Ok (frequency (entry_of s.entries name))

-- a term's list, decoded
unfoldable pub term_list : (bytes name : List ℕ) → Answer (List Posting)
term_list bytes name = do
  _ ← well_named name
  s ← open_segment bytes
  postings_of s name

unfoldable pub docs_with_term : (bytes name : List ℕ) (room : ℕ) → Answer (List ℕ)
docs_with_term bytes name room = do
  ps ← term_list bytes name
  _ ← roomy 1 (length ps) room
  Ok (map (λ p. p.doc) ps)

-- ---- positions

-- buffers in the order ids, counts, positions
unfoldable pub term_postings : (bytes name : List ℕ) (room₁ room₂ room₃ : ℕ) → Answer (List Posting)
term_postings bytes name room₁ room₂ room₃ = do
  ps ← term_list bytes name
  _ ← roomy 1 (length ps) room₁
  _ ← roomy 2 (length ps) room₂
  _ ← roomy 3 (total_positions ps) room₃
  Ok ps

-- the whole list is decoded, whichever document is named
unfoldable pub positions : (bytes name : List ℕ) (doc room : ℕ) → Answer (List ℕ)
positions bytes name doc room = do
  ps ← term_list bytes name
  _ ← roomy 1 (length (positions_of ps doc)) room
  Ok (positions_of ps doc)

-- all positions, posting after posting
unfoldable pub joined_positions : List Posting → List ℕ
joined_positions [] = []
joined_positions (p ∷ ps) = p.positions ++ joined_positions ps
