-- What the code that checks documents and lists answers on the way, as the definitions of crate segment have it.
use Rattle.std.specs.Prelude.{Err, None, Ok, Option, ℕ, ◌+◌, ◌≤◌, ◌<◌, ◌≡◌, cond, List, [], ◌∷◌, eqb, ltb, leb, length, drop, get_or}
use Rattle.read_lists.specs.declared.lists.Head.{Head as ReadHead}
use Rattle.leb128.specs.declared.varint.Reader.{Reader}
use Rattle.read_cursors.specs.declared.documents.Documents.{Documents}
use Rattle.segment.specs.Results.{Answer}
use Rattle.segment.specs.Records.{Document, Posting, Read}
use Rattle.segment.specs.Metadata.{length_of}
use Rattle.segment.specs.Postings.{Head, read_positions, read_head, total_positions}
use Rattle.read_cursors.specs.Held.{value_at}
use Rattle.read_cursors.specs.Steps.{documents_from}

-- the bytes after what was read
abbrev pub after : {A : Type 0} → Answer (Read A) → Answer (List ℕ)
after (Ok a) = Ok a.rest
after (Err x) = Err x

abbrev pub positions_mean : List ℕ → Answer Reader → Answer (List ℕ)
positions_mean list (Ok r) = Ok (drop r.at list)
positions_mean list (Err x) = Err x

-- the reader advanced by a byte for each position at least, and stayed in the list
abbrev pub Moved : List ℕ → (count at : ℕ) → Answer Reader → Type 0
Moved list count at (Ok r) = at + count ≤ r.at
Moved list count at (Err x) = Unit {0}

pub record WalkedPositions (list : List ℕ) (count place len at : ℕ) (r : Answer Reader) : Type 0 where
  pub reads : positions_mean list r ≡ after (read_positions count place len None (drop at list))
  pub moved : Moved list count at r

abbrev pub head_means : List ℕ → Answer ReadHead → Answer (Read Head)
head_means list (Ok h) =
    Ok (record { got = record { doc = h.doc.0; len = h.documents.len; count = h.count }; rest = drop h.next.at list })
head_means list (Err x) = Err x

-- from the returned cursor, the metadata says the same of every later document as from the given one
abbrev pub Kept : (meta : List ℕ) (documents : Documents) → Answer ReadHead → Type 0
Kept meta documents (Ok h) =
    (id : ℕ) → h.doc.0 ≤ id → length_of (documents_from meta h.documents) id ≡ length_of (documents_from meta documents) id
Kept meta documents (Err x) = Unit {0}

pub record WalkedHead (list : List ℕ) (at place : ℕ) (previous : Option ℕ) (meta : List ℕ) (documents : Documents)
    (r : Answer ReadHead) : Type 0 where
  pub reads : head_means list r ≡ read_head place (documents_from meta documents) previous (drop at list)
  pub kept : Kept meta documents r

-- a number of the postings of a list that was decoded
abbrev pub tallied_by : (List Posting → ℕ) → Answer (List Posting) → Answer ℕ
tallied_by number (Ok ps) = Ok (number ps)
tallied_by number (Err x) = Err x

-- the number of positions of a list that was decoded
abbrev pub tallied : Answer (List Posting) → Answer ℕ
tallied r = tallied_by total_positions r

-- how many positions the postings have in one document
unfoldable pub positions_in : (doc : ℕ) → List Posting → ℕ
positions_in doc [] = 0
positions_in doc (p ∷ ps) = cond (eqb p.doc doc) (length p.positions) 0 + positions_in doc ps

-- the number of one document's positions in a list that was decoded
abbrev pub tallied_in : (doc : ℕ) → Answer (List Posting) → Answer ℕ
tallied_in doc r = tallied_by (positions_in doc) r

-- ---- cursors spread over the metadata

abbrev pub no_cursor : Documents
no_cursor = record { at = 0; remaining = 0; id = record { 0 = 0 }; len = 0 }

-- a cursor from which the metadata says of every document from its own id on what the documents ds say
abbrev pub Mark : (meta : List ℕ) (ds : List Document) → Documents → Type 0
Mark meta ds m = (id : ℕ) → m.id.0 ≤ id → length_of (documents_from meta m) id ≡ length_of ds id

-- 128 of them
pub record Marks (meta : List ℕ) (ds : List Document) (marks : List Documents) : Type 0 where
  pub each : (k : ℕ) → k < 128 → Mark meta ds (get_or marks k no_cursor)

-- the value at an offset, if there is one
pub record Peeked (list : List ℕ) (previous : Option ℕ) (at r : ℕ) : Type 0 where
  pub same : (v : Read ℕ) → value_at previous (drop at list) ≡ Ok v → r ≡ v.got

-- the mark, where it is further on than the cursor at hand and not past the document
abbrev pub nearer_of : (known mark : Documents) (doc : ℕ) → Documents
nearer_of known mark doc = cond (ltb doc mark.id.0) known (cond (leb mark.id.0 known.id.0) known mark)
