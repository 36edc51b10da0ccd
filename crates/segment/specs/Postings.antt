-- A posting list decoded. Document 01's order: its checksum; per posting the gap, overflow, order, known document, count, count 0;
-- per position the number, overflow, order, length; at the end trailing bytes.
use Rattle.std.specs.Prelude.{Err, None, Ok, Option, Some, ℕ, zero, suc, ◌+◌, ◌^◌, List, [], ◌∷◌, ltb, eqb, length}
use Rattle.crc32.specs.Crc32.{crc32_of}
use Rattle.segment.specs.declared.refusal.Refusal.{Refusal}
use Rattle.segment.specs.Refusals.{postings, term_postings, checksum_mismatch, doc_id_overflow, position_overflow, invalid_layout}
use Rattle.segment.specs.Refusals.{non_increasing_posting_id, unknown_document, empty_position_list, non_increasing_position}
use Rattle.segment.specs.Refusals.{position_exceeds_length, trailing_posting_bytes}
use Rattle.segment.specs.Results.{Answer, ◌>>=◌, check}
use Rattle.segment.specs.Records.{Document, Posting, Entry, Read, number, at_gap, rises}
use Rattle.segment.specs.Metadata.{length_of}

-- a value that rises: the number, overflow, order
unfoldable pub read_value : (overflow order : Refusal) (index : ℕ) (previous : Option ℕ) (bytes : List ℕ) → Answer (Read ℕ)
read_value overflow order index previous bytes = do
  gap ← number postings index bytes
  _ ← check (ltb (at_gap previous gap.got) (2 ^ 32)) overflow
  _ ← check (rises previous (at_gap previous gap.got)) order
  Ok (record { got = at_gap previous gap.got; rest = gap.rest })

-- one position of a document of this length; the index of a refusal is the posting's place plus the position's
unfoldable pub read_position : (index len : ℕ) (previous : Option ℕ) (bytes : List ℕ) → Answer (Read ℕ)
read_position index len previous bytes = do
  p ← read_value (position_overflow index) (invalid_layout non_increasing_position) index previous bytes
  _ ← check (ltb p.got len) (invalid_layout position_exceeds_length)
  Ok p

unfoldable pub read_positions : (count index len : ℕ) (previous : Option ℕ) (bytes : List ℕ) → Answer (Read (List ℕ))
read_positions zero index len previous bytes = Ok (record { got = []; rest = bytes })
read_positions (suc n) index len previous bytes = do
  p ← read_position index len previous bytes
  more ← read_positions n (suc index) len (Some p.got) p.rest
  Ok (record { got = p.got ∷ more.got; rest = more.rest })

-- the length of a posting's document
abbrev pub known : Option ℕ → Answer ℕ
known None = Err (invalid_layout unknown_document)
known (Some len) = Ok len

-- a posting up to its positions: its document, the document's length, the number of positions
pub record Head : Type 0 where
  pub doc : ℕ
  pub len : ℕ
  pub count : ℕ

unfoldable pub read_head : (place : ℕ) (documents : List Document) (previous : Option ℕ) (bytes : List ℕ) → Answer (Read Head)
read_head place documents previous bytes = do
  doc ← read_value (doc_id_overflow place) (invalid_layout non_increasing_posting_id) place previous bytes
  len ← known (length_of documents doc.got)
  count ← number postings place doc.rest
  _ ← check (ltb 0 count.got) (invalid_layout empty_position_list)
  Ok (record { got = record { doc = doc.got; len = len; count = count.got }; rest = count.rest })

unfoldable pub read_posting : (place : ℕ) (documents : List Document) (previous : Option ℕ) (bytes : List ℕ) → Answer (Read Posting)
read_posting place documents previous bytes = do
  head ← read_head place documents previous bytes
  all ← read_positions head.got.count place head.got.len None head.rest
  Ok (record { got = record { doc = head.got.doc; positions = all.got }; rest = all.rest })

unfoldable pub read_postings : (count place : ℕ) (documents : List Document) (previous : Option ℕ) (bytes : List ℕ)
    → Answer (Read (List Posting))
read_postings zero place documents previous bytes = Ok (record { got = []; rest = bytes })
read_postings (suc n) place documents previous bytes = do
  p ← read_posting place documents previous bytes
  more ← read_postings n (suc place) documents (Some p.got.doc) p.rest
  Ok (record { got = p.got ∷ more.got; rest = more.rest })

-- all postings of a list's bytes
unfoldable pub all_postings : (df : ℕ) (documents : List Document) (bytes : List ℕ) → Answer (List Posting)
all_postings df documents bytes = do
  all ← read_postings df 0 documents None bytes
  _ ← check (eqb (length all.rest) 0) (invalid_layout trailing_posting_bytes)
  Ok all.got

-- the postings of an entry
unfoldable pub decode : (documents : List Document) (entry : Entry) → Answer (List Posting)
decode documents entry = do
  _ ← check (eqb (crc32_of entry.list) entry.checksum) (checksum_mismatch term_postings)
  all_postings entry.df documents entry.list

-- how many positions the postings have in all
unfoldable pub total_positions : List Posting → ℕ
total_positions [] = 0
total_positions (p ∷ ps) = length p.positions + total_positions ps
