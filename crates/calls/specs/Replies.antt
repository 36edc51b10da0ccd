-- Replies and lent buffers, made of what the definitions answer.
use Rattle.std.specs.Prelude.{Err, None, Ok, Option, Some, ℕ, List, ◌++◌, map, length, drop}
use Rattle.segment.specs.declared.replies.Counts.{Counts}
use Rattle.segment.specs.declared.replies.Totals.{Totals}
use Rattle.segment.specs.Results.{Answer}
use Rattle.segment.specs.Records.{Segment, Document, Posting}
use Rattle.segment.specs.Postings.{total_positions}

-- a buffer with an answer at its front; places past the answer are as before
abbrev pub fronted : List ℕ → List ℕ → List ℕ
fronted answer buffer = answer ++ drop (length answer) buffer

-- a lent buffer afterwards: a refusal leaves it
abbrev pub filled : {A : Type 0} → (A → List ℕ) → Answer A → List ℕ → List ℕ
filled f (Ok a) buffer = fronted (f a) buffer
filled f (Err x) buffer = buffer

-- a call that fills buffers: how many elements
abbrev pub count_of : {A : Type 0} → Answer (List A) → Answer ℕ
count_of (Ok xs) = Ok (length xs)
count_of (Err x) = Err x

-- `open`: the counts of documents and terms
abbrev pub opened : Answer Segment → Answer Counts
opened (Ok s) = Ok (record { documents = length s.documents; terms = length s.entries })
opened (Err x) = Err x

-- `document_len`, `length_of`: the length, or that the document is unknown
abbrev pub length_answer : Answer (Option ℕ) → Answer (Option ℕ)
length_answer (Ok None) = (Ok None)
length_answer (Ok (Some n)) = (Ok (Some n))
length_answer (Err x) = Err x

-- what goes into the buffers: ids and lengths of documents
abbrev pub ids_of : List Document → List ℕ
ids_of ds = map (λ d. d.id) ds

abbrev pub lengths_of : List Document → List ℕ
lengths_of ds = map (λ d. d.len) ds

-- `df`
abbrev pub df_answer : Answer ℕ → Answer ℕ
df_answer (Ok n) = Ok n
df_answer (Err x) = Err x

-- ids of documents
abbrev pub docs_of : List Posting → List ℕ
docs_of ps = map (λ p. p.doc) ps

-- `term_postings`: how many postings and positions
abbrev pub totals : Answer (List Posting) → Answer Totals
totals (Ok ps) = Ok (record { postings = length ps; positions = total_positions ps })
totals (Err x) = Err x

-- numbers of positions
abbrev pub counts_of : List Posting → List ℕ
counts_of ps = map (λ p. length p.positions) ps

-- the writer: the length of what was written, or the refusal
abbrev pub length_of_written : Answer (List ℕ) → Answer ℕ
length_of_written (Ok bytes) = Ok (length bytes)
length_of_written (Err x) = Err x
