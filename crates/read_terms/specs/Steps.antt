-- What a term found and decoded means.
use Rattle.std.specs.Prelude.{Err, None, Ok, Option, Some, ℕ, ◌+◌, ◌*◌, ◌≤◌, ◌<◌, ◌≡◌, List, [], map, length, drop, get_or}
use Rattle.segment.specs.Results.{Answer}
use Rattle.read_terms.specs.declared.terms.DecodedList.{DecodedList}
use Rattle.read_open.specs.declared.header.Layout.{Layout}
use Rattle.segment.specs.Records.{Entry, Segment, between, field, entry_size, Posting}
use Rattle.segment.specs.Directory.{entry_of}
use Rattle.read_open.specs.Steps.{cut, name_at}
use Rattle.read_open.specs.Opened.{IsOpen, Fits, no_entry}
use Rattle.read_terms.specs.declared.find.TermList.{TermList}
use Rattle.segment.specs.Postings.{total_positions}
use Rattle.read_cursors.specs.Held.{held_postings, posting_of}
use Rattle.calls.specs.Reads.{term_list}

pub record ListInside (bytes : List ℕ) (l : TermList) : Type 0 where
  pub in_order : l.start ≤ l.end
  pub inside : l.end ≤ length bytes

-- the bytes of a list
abbrev pub bytes_of_list : List ℕ → TermList → List ℕ
bytes_of_list bytes l = between l.start l.end bytes

-- a list as the entry that it came from; decoding asks for no name
abbrev pub entry_named : List ℕ → List ℕ → TermList → Entry
entry_named name bytes l = record { name = name; list = bytes_of_list bytes l; df = l.df; checksum = l.checksum }

abbrev pub list_entry : List ℕ → TermList → Entry
list_entry bytes l = entry_named [] bytes l

-- the list of the entry at an index lies in the lists
abbrev pub ListLies : List ℕ → Layout → ℕ → Type 0
ListLies bytes l i =
    field 8 (i * entry_size + 8) (cut bytes l).directory + field 8 (i * entry_size + 16) (cut bytes l).directory ≤ length
    (cut bytes l).lists

-- an entry that can be read: the layout fits, it has the entry, and the entry's list lies in the lists
pub record EntryLies (bytes : List ℕ) (l : Layout) (i : ℕ) : Type 0 where
  pub fits : Fits bytes l
  pub below : i < l.terms
  pub list : ListLies bytes l i

-- the list of the entry at an index of the directory, whichever segment the layout is said to be of
pub record EntryList (bytes : List ℕ) (l : Layout) (i : ℕ) (t : TermList) : Type 0 where
  pub inside : ListInside bytes t
  pub place : t.entry ≡ i
  pub is : (s : Segment) → IsOpen bytes l s
      → get_or s.entries i no_entry ≡ entry_named (name_at (cut bytes l).directory (cut bytes l).names i) bytes t

-- the entry of a name in the segment, whichever segment the layout is said to be of
abbrev pub TermIsFound : (bytes : List ℕ) (l : Layout) (name : List ℕ) → Option TermList → Type 0
TermIsFound bytes l name (Some t) =
    ListInside bytes t
    × (name_at (cut bytes l).directory (cut bytes l).names t.entry ≡ name)
    × ((s : Segment) → IsOpen bytes l s → entry_of s.entries name ≡ Some (entry_named name bytes t))
    × (t.entry < l.terms)
TermIsFound bytes l name None = (s : Segment) → IsOpen bytes l s → entry_of s.entries name ≡ None

-- What a term's decoded list means.

-- a decoded list by offset: a cursor from there walks the postings that the definition decodes
pub record ListIsDecoded (bytes : List ℕ) (name : List ℕ) (start df positions : ℕ) : Type 0 where
  pub postings : List Posting
  pub decoded : term_list bytes name ≡ Ok postings
  pub walked : map posting_of (held_postings df None (drop start bytes)) ≡ postings
  pub counts : map (λ s. s.count) (held_postings df None (drop start bytes)) ≡ map (λ p. length p.positions) postings
  pub count : length postings ≡ df
  pub total : total_positions postings ≡ positions

abbrev pub Decodes : (bytes name : List ℕ) → Answer (Option DecodedList) → Type 0
Decodes bytes name ((Ok (Some d))) = ListIsDecoded bytes name d.start d.df d.positions
Decodes bytes name (Ok None) = term_list bytes name ≡ Ok []
Decodes bytes name (Err x) = term_list bytes name ≡ Err x
