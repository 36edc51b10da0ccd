-- What the code promises on the way. A step says: if the list is in order from here on, then it was from there on.
use Rattle.std.specs.Prelude.{None, Ok, Some, ℕ, zero, suc, ◌≤◌, ◌<◌, ◌+◌, ◌/◌, ◌%◌, ◌^◌, ◌≡◌, List, length, drop, take, get_or}
use Rattle.segment.specs.Refusals.{postings}
use Rattle.segment.specs.Results.{Answer}
use Rattle.segment.specs.Records.{Document, Posting, Read, number, between}
use Rattle.segment.specs.Metadata.{length_of}
use Rattle.segment.specs.Postings.{read_positions, read_postings}
use Rattle.read_cursors.specs.declared.documents.Documents.{Documents}
use Rattle.read_lists.specs.Steps.{Mark}
use Rattle.read_many.specs.declared.postings.Cursor.{Cursor}
use Rattle.read_many.specs.Promise.{Decodes}

-- ---- one posting

-- a reading succeeds and leaves these bytes, whichever index its refusals would name
abbrev pub Leaves : {A : Type 0} → (ℕ → Answer (Read A)) → List ℕ → Type 0
Leaves {A} reads rest = (index : ℕ) → (a : A) × (reads index ≡ Ok (record { got = a; rest = rest }))

-- positions in order, below a document's length
abbrev pub Placed : (count len : ℕ) (bytes rest : List ℕ) → Type 0
Placed count len bytes rest = Leaves (λ index. read_positions count index len None bytes) rest

-- the rest of a list is read to its end, whichever index its refusals would name
pub record EndsWell (reads : Answer (Read (List Posting))) : Type 0 where
  pub all : Read (List Posting)
  pub is : reads ≡ Ok all
  pub ends : length all.rest ≡ 0

-- a posting past its gap: the number of its positions, and the positions, in a document of this length
pub record Posted (len : ℕ) (bytes rest : List ℕ) : Type 0 where
  pub count : ℕ
  pub first : List ℕ
  pub counted : (index : ℕ) → number postings index bytes ≡ Ok (record { got = count; rest = first })
  pub has_positions : 0 < count
  pub placed : Placed count len first rest

-- a short posting past its gap: its numbers take a byte each, and so does the gap of the next
pub record Short (list : List ℕ) (at len count : ℕ) : Type 0 where
  pub room : at + 2 + count ≤ length list
  pub posted : Posted len (drop at list) (drop (at + 1 + count) list)
  pub low : get_or list (at + 1 + count) 0 < 128
  pub up : 0 < get_or list (at + 1 + count) 0

-- past the gap of a posting: that posting is in order, its document is known, and those after it are in order to the list's end
pub record SurePosting (documents : List Document) (later doc : ℕ) (bytes : List ℕ) : Type 0 where
  pub len : ℕ
  pub rest : List ℕ
  pub known : length_of documents doc ≡ Some len
  pub posted : Posted len bytes rest
  pub follow : (index : ℕ) → EndsWell (read_postings later index documents (Some doc) rest)

abbrev pub SureFrom : (documents : List Document) (remaining doc : ℕ) (bytes : List ℕ) → Type 0
SureFrom documents zero doc bytes = length bytes ≡ 0
SureFrom documents (suc later) doc bytes = SurePosting documents later doc bytes

-- the list is in order from a cursor on
abbrev pub Sure : (documents : List Document) (list : List ℕ) → Cursor → Type 0
Sure documents list c = SureFrom documents c.remaining c.doc (drop c.at list)

-- a cursor further on in a list: if the list is in order from there, it is from here
pub record Stepped (list : List ℕ) (len : ℕ) (c r : Cursor) : Type 0 where
  pub fewer : r.remaining < c.remaining
  pub sure : (documents : List Document) → length_of documents c.doc ≡ Some len → Sure documents list r → Sure documents list c

-- ---- the table of lengths

-- what an entry of the table says is true of the documents: the document's id, and below it its length; length 0 says nothing
abbrev pub Truth : List Document → ℕ → Type 0
Truth documents entry = 0 < entry % 2 ^ 32 → length_of documents (entry / 2 ^ 32) ≡ Some (entry % 2 ^ 32)

pub record Truthful (documents : List Document) (table : List ℕ) : Type 0 where
  pub each : (j : ℕ) → Truth documents (get_or table j 0)

-- a length is the entry's, which is the document's and not empty
pub record LengthTold (entry doc r : ℕ) : Type 0 where
  pub named : entry / 2 ^ 32 ≡ doc
  pub told : r ≡ entry % 2 ^ 32
  pub some_length : 0 < r

-- a length is what the documents say, if the table is true of them
pub record LengthKnown (table : List ℕ) (doc r : ℕ) : Type 0 where
  pub known : (documents : List Document) → Truthful documents table → length_of documents doc ≡ Some r

-- a cursor that is not at the metadata's end says of every document from its own id on what the documents say
abbrev pub MarkHere : (meta : List ℕ) (documents : List Document) → Documents → Type 0
MarkHere meta documents c = 0 < c.remaining → Mark meta documents c

-- a table stays true as a block's documents are put into it
pub record BlockFilled (meta : List ℕ) (c r : Documents) (before after : List ℕ) : Type 0 where
  pub fewer : 0 < c.remaining → r.remaining < c.remaining
  pub stays : (documents : List Document) → MarkHere meta documents c → Truthful documents before → Truthful documents after
  pub marks : (documents : List Document) → MarkHere meta documents c → MarkHere meta documents r

-- ---- lists

-- a list taken through a block: if it is in order from the new cursor, it is from the old
pub record Walked (list table : List ℕ) (c r : Cursor) : Type 0 where
  pub sure : (documents : List Document) → Truthful documents table → Sure documents list r → Sure documents list c

-- what is read of a table of cursors past its end
abbrev pub no_cursor : Cursor
no_cursor = record { at = 0; doc = 0; remaining = 0 }

-- list k is in order from its cursor on
abbrev pub SureList : (documents : List Document) (bytes ends : List ℕ) (cursors : List Cursor) (k : ℕ) → Type 0
SureList documents bytes ends cursors k = Sure documents (take (get_or ends k 0) bytes) (get_or cursors k no_cursor)

-- m lists lie in the bytes; the tables have a place for each
pub record Walkable (bytes : List ℕ) (m : ℕ) (ends : List ℕ) : Type 0 where
  pub few : m ≤ 128
  pub inside : (k : ℕ) → k < m → get_or ends k 0 ≤ length bytes

-- lists taken through a block: if one is in order from its new cursor on, it is from its old
pub record ListsWalked (bytes ends table : List ℕ) (cursors cursors' : List Cursor) : Type 0 where
  pub sure : (documents : List Document) → Truthful documents table → (k : ℕ)
      → SureList documents bytes ends cursors' k → SureList documents bytes ends cursors k

-- past the first gap of each list: if a list is in order from there, it decodes
pub record Entered (bytes : List ℕ) (m : ℕ) (starts ends dfs : List ℕ) (cursors : List Cursor) : Type 0 where
  pub inside : (k : ℕ) → k < m → get_or ends k 0 ≤ length bytes
  pub decodes : (documents : List Document) (k : ℕ) → k < m → SureList documents bytes ends cursors k
      → Decodes (get_or dfs k 0) documents (between (get_or starts k 0) (get_or ends k 0) bytes)

-- no posting of a list remains, and its cursor is at its end
pub record Ended (m : ℕ) (ends : List ℕ) (cursors : List Cursor) : Type 0 where
  pub none_remains : (k : ℕ) → k < m → (get_or cursors k no_cursor).remaining ≡ 0
  pub at_end : (k : ℕ) → k < m → get_or ends k 0 ≤ (get_or cursors k no_cursor).at

-- and the table of lengths is true
pub record BlocksWalkable (documents : List Document) (bytes : List ℕ) (m : ℕ) (ends table : List ℕ) : Type 0 where
  pub lists : Walkable bytes m ends
  pub truthful : Truthful documents table

-- every list is in order from its cursor on
pub record BlocksWalked (documents : List Document) (bytes : List ℕ) (m : ℕ) (ends : List ℕ) (cursors : List Cursor) : Type 0 where
  pub sure : (k : ℕ) → k < m → SureList documents bytes ends cursors k
