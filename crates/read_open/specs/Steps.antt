-- What the header's code answers, as the definitions of Opening have it: a layout means the sections that it cuts the bytes into.
use Rattle.segment.specs.declared.refusal.Section.{Section}
use Rattle.std.specs.Prelude.{Err, None, Ok, Option, Result, Some, option_map}
use Rattle.std.specs.Option.{ForSome}
use Rattle.std.specs.Prelude.{ℕ, ◌+◌, ◌^◌, ◌≤◌, ◌*◌, ◌<◌, ◌≡◌, cond, Bool, true, List, ltb, leb, length, take, drop}
use Rattle.read_open.specs.declared.header.Layout.{Layout}
use Rattle.read_open.specs.Layouts.{layout_in}
use Rattle.segment.specs.Refusals.{truncated, invalid_layout, section_range_overflow}
use Rattle.segment.specs.Results.{Answer}
use Rattle.segment.specs.Records.{between, Entry, field, header_size, entry_size}
use Rattle.segment.specs.Opening.{Sections}
use Rattle.read_open.specs.declared.directory.NameRange.{NameRange}
use Rattle.segment.specs.Names.{precedes}
use Rattle.segment.specs.Directory.{follows, read_entry}

-- the end of n bytes from an offset on, whatever the refusals are: it fits 64 bits, and is not past the whole
abbrev pub end_within : {E : Type 0} (at n whole : ℕ) (overflow short : E) → Result ℕ E
end_within at n whole overflow short =
    cond (ltb (at + n) (2 ^ 64))
    (cond (leb (at + n) whole) (Ok (at + n)) (Err short))
    (Err overflow)

abbrev pub range_end : (section : Section) (at n whole : ℕ) → Answer ℕ
range_end section at n whole = end_within at n whole (invalid_layout section_range_overflow) (truncated section)

-- the sections that a layout cuts the bytes into
abbrev pub cut : List ℕ → Layout → Sections
cut bytes l = record {
  documents = l.documents;
  terms = l.terms;
  directory = between header_size l.names bytes;
  names = between l.names l.metadata bytes;
  metadata = between l.metadata l.lists bytes;
  lists = between l.lists (length bytes) bytes;
}

abbrev pub opening_means : List ℕ → Answer Layout → Answer Sections
opening_means bytes (Ok l) = Ok (cut bytes l)
opening_means bytes (Err x) = Err x

-- a layout's sections follow one another and lie in the bytes
pub record SectionsFollow (bytes : List ℕ) (l : Layout) : Type 0 where
  pub directory : header_size ≤ l.names
  pub names : l.names ≤ l.metadata
  pub metadata : l.metadata ≤ l.lists
  pub lists : l.lists ≤ length bytes

abbrev pub InOrder : List ℕ → Answer Layout → Type 0
InOrder bytes (Ok l) = SectionsFollow bytes l
InOrder bytes (Err x) = Unit {0}

abbrev pub Numbered : List ℕ → Answer Layout → Type 0
Numbered bytes (Ok l) = l ≡ layout_in bytes
Numbered bytes (Err x) = Unit {0}

-- What the header's code shows of its answer r: it means what the definition answers, a layout's offsets rise, and it is the one that the
-- header's numbers make. The equation alone shows neither: offsets out of order cut empty sections too.
pub record Reads (bytes : List ℕ) (answer : Answer Sections) (r : Answer Layout) : Type 0 where
  pub reads : opening_means bytes r ≡ answer
  pub ordered : InOrder bytes r
  pub numbers : Numbered bytes r

-- What the directory's code means: entries by index, names in their section.

-- a range lies in the section
pub record InNames (r : NameRange) (names : List ℕ) : Type 0 where
  pub in_order : r.start ≤ r.end
  pub inside : r.end ≤ length names

abbrev pub name_in : List ℕ → NameRange → List ℕ
name_in names r = between r.start r.end names

-- the name before, if there is one: it lies in the section
abbrev pub name_before : List ℕ → Option NameRange → Option (List ℕ)
name_before names previous = option_map (name_in names) previous

abbrev pub LiesBefore : Option NameRange → List ℕ → Type 0
LiesBefore previous names = ForSome previous (λ p. InNames p names)

abbrev pub follows_name : List ℕ → Option NameRange → List ℕ → Bool
follows_name names previous name = follows (name_before names previous) name

-- the name that was read
abbrev pub name_read : Answer Entry → Answer (List ℕ)
name_read (Ok e) = Ok e.name
name_read (Err x) = Err x

abbrev pub entry_means : List ℕ → Answer NameRange → Answer (List ℕ)
entry_means names (Ok r) = Ok (name_in names r)
entry_means names (Err x) = Err x

abbrev pub Stays : List ℕ → Answer NameRange → Type 0
Stays names (Ok r) = InNames r names
Stays names (Err x) = Unit {0}

pub record WalkedEntry (previous : Option NameRange) (entry names lists : List ℕ) (r : Answer NameRange) : Type 0 where
  pub reads : entry_means names r ≡ name_read (read_entry (name_before names previous) entry names lists)
  pub stays : Stays names r

-- ---- entries by index

abbrev pub name_at : (dir names : List ℕ) (i : ℕ) → List ℕ
name_at dir names i = take (field 4 (i * entry_size + 4) dir) (drop (field 4 (i * entry_size) dir) names)

-- the entry at an index, by content
abbrev pub entry_at : (dir names lists : List ℕ) (i : ℕ) → Entry
entry_at dir names lists i = record {
  name = name_at dir names i;
  list = take (field 8 (i * entry_size + 16) dir) (drop (field 8 (i * entry_size + 8) dir) lists);
  df = field 4 (i * entry_size + 24) dir;
  checksum = field 4 (i * entry_size + 28) dir;
}

-- entry i lies in the directory, and its name in the term bytes
pub record EntryInside (dir names : List ℕ) (i : ℕ) : Type 0 where
  pub entry : i * entry_size + entry_size ≤ length dir
  pub name : field 4 (i * entry_size) dir + field 4 (i * entry_size + 4) dir ≤ length names

-- what a checked directory shows to a search by name: all entries lie inside, and the names rise
pub record Sorted (dir names : List ℕ) (count : ℕ) : Type 0 where
  pub inside : (i : ℕ) → i < count → EntryInside dir names i
  pub rising : (i j : ℕ) → i < j → j < count → precedes (name_at dir names i) (name_at dir names j) ≡ true

-- the entry of a name: an index whose entry has it, or none if no entry has it
abbrev pub Located : (dir names : List ℕ) (count : ℕ) (name : List ℕ) → Option ℕ → Type 0
Located dir names count name (Some i) = (i < count) × (name_at dir names i ≡ name)
Located dir names count name None = (i : ℕ) → i < count → name_at dir names i ≡ name → ⊥

-- the entry of a name in any directory: an index whose entry has it; or none, and then no entry has it if the names lie inside and rise
abbrev pub LocatedAny : (dir names : List ℕ) (count : ℕ) (name : List ℕ) → Option ℕ → Type 0
LocatedAny dir names count name (Some i) = (i < count) × (name_at dir names i ≡ name)
LocatedAny dir names count name None = Sorted dir names count → Located dir names count name None
