-- What the bytes still hold from a cursor on. Nothing is demanded of the bytes: the list ends where the next element would be refused.
use Rattle.std.specs.Prelude.{Err, None, Ok, Option, Some, ℕ, zero, suc, ◌<◌, cond, true, List, [], ◌∷◌, ltb, drop, length, ◌≡◌}
use Rattle.segment.specs.Results.{Answer, ◌>>=◌}
use Rattle.segment.specs.Records.{Document, Read, Posting, number, rises}
use Rattle.segment.specs.Metadata.{read_document}
use Rattle.leb128.specs.Leb128.{Leb, stored}
use Rattle.segment.specs.Refusals.{postings, doc_id_overflow, invalid_layout, non_increasing_posting_id}
use Rattle.segment.specs.Postings.{read_value}

-- all but the first
abbrev pub rest_of : {A : Type 0} → List A → List A
rest_of [] = []
rest_of (x ∷ xs) = xs

-- without those at the front whose keys are below a target
abbrev pub seek_in : {A : Type 0} → (A → ℕ) → ℕ → List A → List A
seek_in key target [] = []
seek_in key target (x ∷ xs) = let later = seek_in key target xs in cond (ltb (key x) target) later (x ∷ xs)

-- ---- documents

abbrev pub on_document : (ℕ → List ℕ → List Document) → Answer (Read Document) → List Document
on_document next (Ok d) = d.got ∷ next d.got.id d.rest
on_document next (Err x) = []

-- the documents that the bytes hold, at most `count`
unfoldable pub held_documents : (count : ℕ) (previous : Option ℕ) (bytes : List ℕ) → List Document
held_documents zero previous bytes = []
held_documents (suc n) previous bytes = on_document (λ id rest. held_documents n (Some id) rest) (read_document 0 previous bytes)

-- on past one number; stay where it is malformed
abbrev pub past : (List ℕ → List ℕ) → (bytes : List ℕ) → Option Leb → List ℕ
past next bytes None = bytes
past next bytes (Some n) = next (drop n.size bytes)

-- the bytes after `count` numbers, or from the first malformed one
unfoldable pub skipped : (count : ℕ) (bytes : List ℕ) → List ℕ
skipped zero bytes = bytes
skipped (suc n) bytes = past (skipped n) bytes (stored bytes)

-- What a posting list's bytes hold, posting by posting, as cursors walk them. Nothing is demanded of the bytes: a list ends where the next
-- element would be refused.

-- the value at the front; which refusal does not matter
abbrev pub value_at : (previous : Option ℕ) (bytes : List ℕ) → Answer (Read ℕ)
value_at previous bytes = read_value (doc_id_overflow 0) (invalid_layout non_increasing_posting_id) 0 previous bytes

-- ---- positions

abbrev pub on_value : (Read ℕ → List ℕ) → Answer (Read ℕ) → List ℕ
on_value next (Ok v) = v.got ∷ next v
on_value next (Err x) = []

-- the positions that the bytes hold, at most `count`
unfoldable pub held_positions : (count : ℕ) (previous : Option ℕ) (bytes : List ℕ) → List ℕ
held_positions zero previous bytes = []
held_positions (suc n) previous bytes = on_value (λ v. held_positions n (Some v.got) v.rest) (value_at previous bytes)

-- ---- postings

-- A posting by offset: its document, how many positions it has, the bytes where they start
pub record PostingAt : Type 0 where
  pub doc : ℕ
  pub count : ℕ
  pub bytes : List ℕ

unfoldable pub posting_here : (previous : Option ℕ) (bytes : List ℕ) → Answer PostingAt
posting_here previous bytes = do
  doc ← value_at previous bytes
  count ← number postings 0 doc.rest
  Ok (record { doc = doc.got; count = count.got; bytes = count.rest })

abbrev pub on_posting : (PostingAt → List PostingAt) → Answer PostingAt → List PostingAt
on_posting next (Ok s) = s ∷ next s
on_posting next (Err x) = []

-- the postings that the bytes hold, at most `count`
unfoldable pub held_postings : (count : ℕ) (previous : Option ℕ) (bytes : List ℕ) → List PostingAt
held_postings zero previous bytes = []
held_postings (suc n) previous bytes =
    on_posting (λ s. held_postings n (Some s.doc) (skipped s.count s.bytes)) (posting_here previous bytes)

-- ---- a posting by offset, by content

abbrev pub positions_there : PostingAt → List ℕ
positions_there s = held_positions s.count None s.bytes

abbrev pub posting_of : PostingAt → Posting
posting_of s = record { doc = s.doc; positions = positions_there s }

-- ---- postings that were checked

-- numbers in order, each above the one before
abbrev pub Rises : Option ℕ → List ℕ → Type 0
Rises previous [] = Unit {0}
Rises previous (x ∷ xs) = (rises previous x ≡ true) × Rises (Some x) xs

-- a posting has as many positions as it says, at least one, and they rise
pub record Full (s : PostingAt) : Type 0 where
  pub has_positions : 0 < s.count
  pub long : length (positions_there s) ≡ s.count
  pub rise : Rises None (positions_there s)

-- all are full, and their documents rise
abbrev pub AllFull : Option ℕ → List PostingAt → Type 0
AllFull previous [] = Unit {0}
AllFull previous (s ∷ ss) = (rises previous s.doc ≡ true) × Full s × AllFull (Some s.doc) ss
