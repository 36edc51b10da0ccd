-- What a segment holds.
use Rattle.segment.specs.declared.refusal.Section.{Section}
use Rattle.std.specs.Prelude.{Err, None, Ok, Option, Some, ℕ, ◌+◌, ◌-◌, ◌*◌, Bool, true, List, [], ◌∷◌, ltb, take, drop}
use Rattle.leb128.specs.Leb128.{Leb, stored}
use Rattle.segment.specs.Refusals.{invalid_varint}
use Rattle.segment.specs.Results.{Answer}

-- A document (document 01: a bar): its id and its length
pub record Document : Type 0 where
  pub id : ℕ
  pub len : ℕ

-- A posting (PositionalPosting, RawPositionalPosting): a document's id, and the positions (document 01: steps) of the term in it
pub record Posting : Type 0 where
  pub doc : ℕ
  pub positions : List ℕ

-- A term (document 01: a sound) with its postings (PositionalTermPostings)
pub record Term : Type 0 where
  pub name : List ℕ
  pub postings : List Posting

-- What a segment says, and what is handed to the writer: documents, and terms with their postings
pub record Given : Type 0 where
  pub documents : List Document
  pub terms : List Term

-- A directory entry by content: the name, the bytes of its posting list, the number of postings, the checksum of those bytes
pub record Entry : Type 0 where
  pub name : List ℕ
  pub list : List ℕ
  pub df : ℕ
  pub checksum : ℕ

-- A segment opened
pub record Segment : Type 0 where
  pub documents : List Document
  pub entries : List Entry

-- ---- parts of the bytes

-- the header has 72 bytes
abbrev pub header_size : ℕ
header_size = 72

-- a directory entry has 32 bytes
abbrev pub entry_size : ℕ
entry_size = 32

-- the bytes from a place up to another
abbrev pub between : ℕ → ℕ → List ℕ → List ℕ
between from to bytes = take (to - from) (drop from bytes)

-- ---- numbers of fixed width, little-endian

abbrev pub little_endian : List ℕ → ℕ
little_endian [] = 0
little_endian (b ∷ bs) = b + 256 * little_endian bs

-- the number of n bytes at a place
abbrev pub field : (n at : ℕ) → List ℕ → ℕ
field n at bytes = little_endian (take n (drop at bytes))

-- ---- stored numbers, read off the front

-- a value, and the bytes after it
pub record Read (A : Type 0) : Type 0 where
  pub got : A
  pub rest : List ℕ

-- a stored number, or kind 7 with its section and index
abbrev pub number_or : (section : Section) (index : ℕ) (bytes : List ℕ) → Option Leb → Answer (Read ℕ)
number_or section index bytes None = Err (invalid_varint section index)
number_or section index bytes (Some n) = Ok (record { got = n.value; rest = drop n.size bytes })

abbrev pub number : (section : Section) (index : ℕ) (bytes : List ℕ) → Answer (Read ℕ)
number section index bytes = number_or section index bytes (stored bytes)

-- ---- values that are stored as gaps; before the first there is none

-- the value at a gap: the first gap is the value itself
abbrev pub at_gap : Option ℕ → ℕ → ℕ
at_gap None g = g
at_gap (Some p) g = p + g

-- strictly above the one before
abbrev pub rises : Option ℕ → ℕ → Bool
rises None v = true
rises (Some p) v = ltb p v

-- the gap to a value: the first gap is the value itself
abbrev pub gap : Option ℕ → ℕ → ℕ
gap None v = v
gap (Some p) v = v - p
