-- What the code's answers on the way mean, as the definitions have it: a step that read something means what it read and the bytes
-- from the next offset on.
use Rattle.std.specs.Prelude.{Err, None, Ok, Option, Result, Some, ℕ, zero, suc, ◌-◌, ◌^◌, ◌≤◌, ◌<◌, List, [], ◌∷◌, drop, ◌≡◌}
use Rattle.std.specs.Prelude.{cond, ltb}
use Rattle.read_cursors.specs.declared.documents.DocumentRead.{DocumentRead}
use Rattle.leb128.specs.declared.varint.Number.{Number}
use Rattle.leb128.specs.Leb128.{Leb, stored}
use Rattle.segment.specs.Results.{Answer}
use Rattle.segment.specs.Records.{Document, Read, at_gap, rises}
use Rattle.segment.specs.Metadata.{document}
use Rattle.read_cursors.specs.declared.documents.Documents.{Documents}
use Rattle.read_cursors.specs.Held.{rest_of, seek_in, held_documents, skipped, PostingAt, held_postings, held_positions}
use Rattle.read_cursors.specs.declared.postings.Postings.{Postings}
use Rattle.read_cursors.specs.declared.positions.Positions.{Positions}

abbrev pub document_means : List ℕ → Answer DocumentRead → Answer (Read Document)
document_means meta (Ok d) = Ok (record { got = document d.id.0 d.len; rest = drop d.next.at meta })
document_means meta (Err x) = Err x

-- a document that was read at once is the one that is there; of any other nothing is said
abbrev pub ShortRead : List ℕ → Answer (Read Document) → Option DocumentRead → Type 0
ShortRead meta there (Some d) = document_means meta (Ok d) ≡ there
ShortRead meta there None = Unit {0}

-- ---- posting lists

abbrev pub value_means : {E : Type 0} → List ℕ → Result Number E → Result (Read ℕ) E
value_means list (Ok n) = Ok (record { got = n.value; rest = drop n.next.at list })
value_means list (Err x) = Err x

-- a stored number, or what is refused with where there is none
abbrev pub number_else : {E : Type 0} (malformed : E) (bytes : List ℕ) → Option Leb → Result (Read ℕ) E
number_else malformed bytes (Some n) = Ok (record { got = n.value; rest = drop n.size bytes })
number_else malformed bytes None = Err malformed

-- the value at a gap that was read: overflow, order
abbrev pub value_after : {E : Type 0} (overflow order : E) (previous : Option ℕ) → Result (Read ℕ) E → Result (Read ℕ) E
value_after overflow order previous (Ok gap) =
    cond (ltb (at_gap previous gap.got) (2 ^ 32))
    (cond (rises previous (at_gap previous gap.got))
    (Ok (record { got = at_gap previous gap.got; rest = gap.rest }))
    (Err order))
    (Err overflow)
value_after overflow order previous (Err x) = Err x

-- A value that rises, whatever the refusals are: the number, overflow, order. With the refusals of a segment it is `read_value` of crate
-- segment (proofs/Gaps.antt, `value_is`).
unfoldable pub read_rising : {E : Type 0} (malformed overflow order : E) (previous : Option ℕ) (bytes : List ℕ) → Result (Read ℕ) E
read_rising malformed overflow order previous bytes = value_after overflow order previous (number_else malformed bytes (stored bytes))

unfoldable pub documents_at : (remaining at id len : ℕ) (bytes : List ℕ) → List Document
documents_at zero at id len bytes = []
documents_at (suc n) at id len bytes = document id len ∷ held_documents n (Some id) (drop at bytes)

-- the documents from a cursor on
abbrev pub documents_from : List ℕ → Documents → List Document
documents_from bytes c = documents_at c.remaining c.at c.id.0 c.len bytes

pub record EnteredDocuments (bytes : List ℕ) (remaining : ℕ) (previous : Option ℕ) (at : ℕ) (r : Documents) : Type 0 where
  pub list : documents_from bytes r ≡ held_documents remaining previous (drop at bytes)
  pub less : r.remaining ≤ remaining

pub record AdvancedDocuments (bytes : List ℕ) (c r : Documents) : Type 0 where
  pub list : documents_from bytes r ≡ rest_of (documents_from bytes c)
  pub less : r.remaining ≤ c.remaining - 1

pub record SoughtDocument (bytes : List ℕ) (id : ℕ) (c r : Documents) : Type 0 where
  pub list : documents_from bytes r ≡ seek_in (λ (d : Document). d.id) id (documents_from bytes c)
  pub reached : 0 < r.remaining → id ≤ r.id.0

-- What the bytes still hold from a cursor on. Nothing is demanded of them: a list ends where its next element would be refused.

-- ---- postings

unfoldable pub postings_at : (remaining at count doc : ℕ) (bytes : List ℕ) → List PostingAt
postings_at zero at count doc bytes = []
postings_at (suc n) at count doc bytes =
    record { doc = doc; count = count; bytes = drop at bytes } ∷ held_postings n (Some doc) (skipped count (drop at bytes))

abbrev pub postings_from : List ℕ → Postings → List PostingAt
postings_from bytes c = postings_at c.remaining c.at c.count c.doc.0 bytes

pub record EnteredPostings (bytes : List ℕ) (remaining : ℕ) (previous : Option ℕ) (at : ℕ) (r : Postings) : Type 0 where
  pub holds : postings_from bytes r ≡ held_postings remaining previous (drop at bytes)
  pub less : r.remaining ≤ remaining

pub record AdvancedPostings (bytes : List ℕ) (c r : Postings) : Type 0 where
  pub holds : postings_from bytes r ≡ rest_of (postings_from bytes c)
  pub less : r.remaining ≤ c.remaining - 1

-- a cursor that was advanced at once is the advanced one; of any other nothing is said
abbrev pub ShortAdvanced : List ℕ → Postings → Option Postings → Type 0
ShortAdvanced bytes c (Some r) = AdvancedPostings bytes c r
ShortAdvanced bytes c None = Unit {0}

pub record SoughtPosting (bytes : List ℕ) (target : ℕ) (c r : Postings) : Type 0 where
  pub holds : postings_from bytes r ≡ seek_in (λ (s : PostingAt). s.doc) target (postings_from bytes c)
  pub reached : 0 < r.remaining → target ≤ r.doc.0

-- ---- positions

unfoldable pub positions_at : (remaining at pos : ℕ) (bytes : List ℕ) → List ℕ
positions_at zero at pos bytes = []
positions_at (suc n) at pos bytes = pos ∷ held_positions n (Some pos) (drop at bytes)

abbrev pub positions_from : List ℕ → Positions → List ℕ
positions_from bytes c = positions_at c.remaining c.at c.pos.0 bytes

pub record EnteredPositions (bytes : List ℕ) (remaining : ℕ) (previous : Option ℕ) (at : ℕ) (r : Positions) : Type 0 where
  pub holds : positions_from bytes r ≡ held_positions remaining previous (drop at bytes)
  pub less : r.remaining ≤ remaining

pub record AdvancedPositions (bytes : List ℕ) (c r : Positions) : Type 0 where
  pub holds : positions_from bytes r ≡ rest_of (positions_from bytes c)
  pub less : r.remaining ≤ c.remaining - 1

pub record SoughtPosition (bytes : List ℕ) (target : ℕ) (c r : Positions) : Type 0 where
  pub holds : positions_from bytes r ≡ seek_in (λ (p : ℕ). p) target (positions_from bytes c)
  pub reached : 0 < r.remaining → target ≤ r.pos.0
