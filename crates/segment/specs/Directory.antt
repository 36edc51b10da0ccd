-- The term directory: entries of 32 bytes. Checks per entry in document 01's order: term range, UTF-8, empty, order, postings range, df 0.
use Rattle.segment.specs.declared.refusal.Section.{Section}
use Rattle.std.specs.Prelude.{None, Ok, Option, Some}
use Rattle.std.specs.Prelude.{ℕ, zero, suc, ◌+◌, ◌*◌, ◌^◌, Bool, true, cond, List, [], ◌∷◌, ltb, leb, eqb, length, take, drop}
use Rattle.utf8.specs.Utf8.{utf8}
use Rattle.segment.specs.Refusals.{postings, term_bytes, truncated, invalid_utf8, invalid_layout, section_range_overflow}
use Rattle.segment.specs.Refusals.{directory_length_mismatch, empty_term, non_increasing_term, empty_term_posting_list}
use Rattle.segment.specs.Results.{Answer, ◌>>=◌, check}
use Rattle.segment.specs.Records.{Entry, field, entry_size}
use Rattle.segment.specs.Names.{same, precedes}

-- n bytes of a section from a place on: the end is a number of 64 bits, and it lies within the section
unfoldable pub part : (section : Section) (at n : ℕ) (whole : List ℕ) → Answer (List ℕ)
part section at n whole = do
  _ ← check (ltb (at + n) (2 ^ 64)) (invalid_layout section_range_overflow)
  _ ← check (leb (at + n) (length whole)) (truncated section)
  Ok (take n (drop at whole))

-- names rise strictly in byte order
abbrev pub follows : Option (List ℕ) → List ℕ → Bool
follows None name = true
follows (Some previous) name = precedes previous name

-- the posting list's bytes: its range, and that it has postings
unfoldable pub read_list_range : (bytes lists : List ℕ) → Answer (List ℕ)
read_list_range bytes lists = do
  list ← part postings (field 8 8 bytes) (field 8 16 bytes) lists
  _ ← check (ltb 0 (field 4 24 bytes)) (invalid_layout empty_term_posting_list)
  Ok list

-- u32 term offset, u32 term length, u64 postings offset, u64 postings length, u32 df, u32 checksum of these postings
unfoldable pub read_entry : (previous : Option (List ℕ)) (bytes names lists : List ℕ) → Answer Entry
read_entry previous bytes names lists = do
  name ← part term_bytes (field 4 0 bytes) (field 4 4 bytes) names
  _ ← check (utf8 name) invalid_utf8
  _ ← check (ltb 0 (length name)) (invalid_layout empty_term)
  _ ← check (follows previous name) (invalid_layout non_increasing_term)
  list ← read_list_range bytes lists
  Ok (record { name = name; list = list; df = field 4 24 bytes; checksum = field 4 28 bytes })

unfoldable pub read_entries : (count : ℕ) (previous : Option (List ℕ)) (directory names lists : List ℕ) → Answer (List Entry)
read_entries zero previous directory names lists = Ok []
read_entries (suc n) previous directory names lists = do
  e ← read_entry previous directory names lists
  more ← read_entries n (Some e.name) (drop entry_size directory) names lists
  Ok (e ∷ more)

-- the whole section: 32 bytes for each term, then each entry
unfoldable pub directory : (count : ℕ) (bytes names lists : List ℕ) → Answer (List Entry)
directory count bytes names lists = do
  _ ← check (eqb (length bytes) (entry_size * count)) (invalid_layout directory_length_mismatch)
  read_entries count None bytes names lists

-- the entry of a name, or none where no term has it
unfoldable pub entry_of : List Entry → List ℕ → Option Entry
entry_of [] name = None
entry_of (e ∷ es) name = let later = entry_of es name in cond (same e.name name) (Some e) later
