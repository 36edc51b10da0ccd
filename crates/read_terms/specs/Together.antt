-- What lists that were decoded together promise.
use Rattle.std.specs.Prelude.{None, Ok, ℕ, ◌+◌, ◌<◌, ◌≡◌, List, length, get_or}
use Rattle.crc32.specs.Crc32.{crc32_of}
use Rattle.segment.specs.Records.{Document, Posting, Entry}
use Rattle.segment.specs.Postings.{decode}
use Rattle.read_cursors.specs.Held.{held_documents}
use Rattle.read_open.specs.declared.header.Layout.{Layout}
use Rattle.read_open.specs.Steps.{cut}
use Rattle.read_terms.specs.declared.find.TermList.{TermList}
use Rattle.read_terms.specs.Steps.{list_entry, bytes_of_list, EntryList}

abbrev pub no_list : TermList
no_list = record { entry = 0; start = 0; end = 0; df = 0; checksum = 0 }

pub record ListDecodes (documents : List Document) (e : Entry) : Type 0 where
  pub postings : List Posting
  pub decoded : decode documents e ≡ Ok postings

-- every one of the lists decodes
pub record ListsDecode (documents : List Document) (bytes : List ℕ) (lists : List TermList) : Type 0 where
  pub each : (k : ℕ) → k < length lists → ListDecodes documents (list_entry bytes (get_or lists k no_list))

-- the list of the directory's entry i decodes
pub record EntryDecodes (bytes : List ℕ) (l : Layout) (i : ℕ) : Type 0 where
  pub list : TermList
  pub is : EntryList bytes l i list
  pub decodes : ListDecodes (held_documents l.documents None (cut bytes l).metadata) (list_entry bytes list)

-- the lists of m entries from an index on decode
pub record EntriesDecode (bytes : List ℕ) (l : Layout) (from m : ℕ) : Type 0 where
  pub each : (k : ℕ) → k < m → EntryDecodes bytes l (from + k)

-- ---- on the way

-- every one of the lists has the checksum that the directory stores
abbrev pub SumMatches : List ℕ → TermList → Type 0
SumMatches bytes l = crc32_of (bytes_of_list bytes l) ≡ l.checksum

pub record SumsMatch (bytes : List ℕ) (lists : List TermList) : Type 0 where
  pub each : (k : ℕ) → k < length lists → SumMatches bytes (get_or lists k no_list)

-- the tables have the lists' places and numbers of postings
pub record Spread (lists : List TermList) (starts ends dfs : List ℕ) : Type 0 where
  pub start : (k : ℕ) → k < length lists → get_or starts k 0 ≡ (get_or lists k no_list).start
  pub end : (k : ℕ) → k < length lists → get_or ends k 0 ≡ (get_or lists k no_list).end
  pub df : (k : ℕ) → k < length lists → get_or dfs k 0 ≡ (get_or lists k no_list).df

-- the list of the directory's entry i has its checksum, and these are its place and its number of postings
pub record EntrySpread (bytes : List ℕ) (l : Layout) (i start end df : ℕ) : Type 0 where
  pub list : TermList
  pub is : EntryList bytes l i list
  pub sum : SumMatches bytes list
  pub start_is : start ≡ list.start
  pub end_is : end ≡ list.end
  pub df_is : df ≡ list.df

-- the tables have those of the m entries from an index on
pub record EntriesSpread (bytes : List ℕ) (l : Layout) (from m : ℕ) (starts ends dfs : List ℕ) : Type 0 where
  pub each : (k : ℕ) → k < m → EntrySpread bytes l (from + k) (get_or starts k 0) (get_or ends k 0) (get_or dfs k 0)
