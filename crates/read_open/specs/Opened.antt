-- What callers may rely on after opening; and what a lookup demands of a layout that nobody has opened.
use Rattle.std.specs.Prelude.{Err, None, Ok, ℕ, ◌+◌, ◌*◌, ◌≤◌, ◌<◌, ◌≡◌, List, [], length, get_or}
use Rattle.segment.specs.Results.{Answer}
use Rattle.read_open.specs.declared.header.Layout.{Layout}
use Rattle.segment.specs.Records.{Entry, Segment, field, header_size, entry_size}
use Rattle.segment.specs.Opening.{open_segment}
use Rattle.read_open.specs.Layouts.{layout_in}
use Rattle.read_open.specs.Steps.{SectionsFollow, cut, Sorted, entry_at}
use Rattle.read_cursors.specs.Held.{held_documents}

abbrev pub no_entry : Entry
no_entry = record { name = []; list = []; df = 0; checksum = 0 }

-- a layout's parts are the segment's: the documents that a cursor walks, and the entries by index
pub record IsOpen (bytes : List ℕ) (l : Layout) (s : Segment) : Type 0 where
  pub ordered : SectionsFollow bytes l
  pub numbers : l ≡ layout_in bytes
  pub documents : held_documents l.documents None (cut bytes l).metadata ≡ s.documents
  pub document_count : length s.documents ≡ l.documents
  pub term_count : length s.entries ≡ l.terms
  pub sorted : Sorted (cut bytes l).directory (cut bytes l).names l.terms
  pub entry : (i : ℕ) → i < l.terms
      → get_or s.entries i no_entry ≡ entry_at (cut bytes l).directory (cut bytes l).names (cut bytes l).lists i
  pub list : (i : ℕ) → i < l.terms
      → field 8 (i * entry_size + 8) (cut bytes l).directory + field 8 (i * entry_size + 16) (cut bytes l).directory ≤ length
      (cut bytes l).lists

-- the bytes are a segment that opens, and the layout is its own
abbrev pub OpenedAs : List ℕ → Layout → Type 0
OpenedAs bytes l = (s : Segment) × IsOpen bytes l s

abbrev pub Opens : List ℕ → Answer Layout → Type 0
Opens bytes (Ok l) = (s : Segment) × (open_segment bytes ≡ Ok s) × IsOpen bytes l s
Opens bytes (Err x) = open_segment bytes ≡ Err x

-- a layout fits some bytes, whether or not they open: its sections follow one another and lie in the bytes, and the directory has room
-- for the entries
pub record Fits (bytes : List ℕ) (l : Layout) : Type 0 where
  pub ordered : SectionsFollow bytes l
  pub entries : l.terms * entry_size + header_size ≤ l.names
