-- A term found by its name and its list decoded: the entry at an index of the directory, and the list's checksum.
-- Assumes nothing.
use Rattle.std.specs.Prelude.{Err, None, Ok, Some}
use mathlib.Core.Path.{◌≡◌, refl, ap, ◌∙◌}
use mathlib.Core.List.{List}
use Prim.Native.Nat.{ℕ, ◌+◌, ◌*◌, ◌-◌, ◌≤◌, ◌<◌}
use native.Mathlib.Omega.{arith}
use lib.ListN.{length, get_or, length-take, length-drop}
use lib.Seq.{drop-drop}
use borrow.Author.Tests.{eq-eqb, ne_eqb}
use Rattle.crc32.specs.Crc32.{crc32_of}
use Rattle.read_open.specs.declared.header.Layout.{Layout}
use Rattle.segment.specs.declared.refusal.Refusal.{Refusal}
use Rattle.segment.specs.Refusals.{checksum_mismatch, term_postings}
use Rattle.segment.specs.Results.{Answer}
use Rattle.segment.specs.Records.{Document, Posting, Entry, Segment, field}
use Rattle.segment.specs.Postings.{all_postings, decode}
use Rattle.read_open.specs.Steps.{cut, name_at, Located, LocatedAny}
use Rattle.read_lists.specs.Steps.{tallied_by}
use Rattle.read_open.specs.Opened.{IsOpen, OpenedAs, Fits, no_entry}
use Rattle.read_open.proofs.Checks.{to_end}
use Rattle.read_open.proofs.Fitting.{own_fits}
use Rattle.read_open.proofs.Lookup.{located_at, located_nowhere}
use Rattle.read_terms.specs.declared.find.TermList.{TermList}
use Rattle.read_terms.specs.Steps.{entry_named, list_entry, ListLies, EntryLies, EntryList, TermIsFound}

-- where entry i's list lies in the lists
abbrev list_at : List ℕ → Layout → ℕ → ℕ
list_at bytes l i = field 8 (i * 32 + 8) (cut bytes l).directory

abbrev list_size : List ℕ → Layout → ℕ → ℕ
list_size bytes l i = field 8 (i * 32 + 16) (cut bytes l).directory

-- an entry of a directory that has room for it
module _ {bytes : List ℕ} {l : Layout} (fits : Fits bytes l) (i : ℕ) (below : i < l.terms) where
  pub entry_within : i * 32 + 32 ≤ length (cut bytes l).directory
  entry_within = simp (length-take, length-drop) (omega (arith, fits.entries))

  module _ {from size : ℕ} (is_from : from ≡ list_at bytes l i) (is_size : size ≡ list_size bytes l i) where
    lists_room : length (cut bytes l).lists ≡ length bytes - l.lists
    lists_room = rw (to_end bytes l.lists) (length-drop l.lists bytes)

    pub lies : from + size ≤ length bytes - l.lists → ListLies bytes l i
    lies h = omega (arith, lists_room)

    pub lies_not : length bytes - l.lists < from + size → ListLies bytes l i → ⊥
    lies_not h q = omega (arith, lists_room)

-- every entry of an open segment can be read
pub own_entry : {bytes : List ℕ} {l : Layout} → OpenedAs bytes l → (i : ℕ) → i < l.terms → EntryLies bytes l i
own_entry is i below = record { fits = own_fits is.1; below = below; list = is.1.list i below }

-- an entry that can be read
module _ {bytes : List ℕ} {l : Layout} {i : ℕ} (e : EntryLies bytes l i) where
  -- the list lies in the bytes, so that its ends fit
  pub list_ends : l.lists + list_at bytes l i + list_size bytes l i ≤ length bytes
  list_ends =
      let lies = rw (to_end bytes l.lists) at e.list in
      omega (arith, length-drop l.lists bytes, e.fits.ordered.lists)

  module _ (t : TermList) (place : t.entry ≡ i) (start : t.start ≡ l.lists + list_at bytes l i)
      (end : t.end ≡ t.start + list_size bytes l i) (df : t.df ≡ field 4 (i * 32 + 24) (cut bytes l).directory)
      (checksum : t.checksum ≡ field 4 (i * 32 + 28) (cut bytes l).directory) where
    entry_is : (s : Segment) → IsOpen bytes l s
        → get_or s.entries i no_entry ≡ entry_named (name_at (cut bytes l).directory (cut bytes l).names i) bytes t
    entry_is s is_open =
        let size : t.end - t.start ≡ list_size bytes l i = omega arith in
        is_open.entry i e.below ∙
        rw (size, start, df, checksum, to_end bytes l.lists, drop-drop (list_at bytes l i) l.lists bytes)

    pub entry_listed : EntryList bytes l i t
    entry_listed =
        record { inside = record { in_order = omega arith; inside = omega (arith, list_ends) }; place = place; is = entry_is }

-- an entry that was located by its name
pub found_list : {bytes : List ℕ} {l : Layout} {name : List ℕ} {i : ℕ} {t : TermList}
    → Located (cut bytes l).directory (cut bytes l).names l.terms name (Some i) → EntryList bytes l i t
    → TermIsFound bytes l name (Some t)
found_list {name = name} {i = i} at e = (
  e.inside,
  rw e.place at.1,
  λ s is. located_at is name i at ∙ ap Some (rw at.1 at (e.is s is)),
  rw e.place at.0,
)

-- no entry has the name, or the list of the one that has it lies outside: neither can be in an open segment that has the name
pub found_none : {bytes : List ℕ} {l : Layout} {name : List ℕ}
    → LocatedAny (cut bytes l).directory (cut bytes l).names l.terms name None → TermIsFound bytes l name None
found_none {name = name} at s is = located_nowhere is name (at is.sorted)

pub found_outside : {bytes : List ℕ} {l : Layout} (name : List ℕ) (i : ℕ) → i < l.terms → (ListLies bytes l i → ⊥)
    → TermIsFound bytes l name None
found_outside name i h out s is = absurd (out (is.list i h))

-- the checksum of a list, then its postings
module _ (number : List Posting → ℕ) (documents : List Document) (e : Entry) {sum : ℕ} (is : sum ≡ crc32_of e.list) where
  pub sum_differs : (sum ≡ e.checksum → ⊥) → Err (checksum_mismatch term_postings) ≡ tallied_by number (decode documents e)
  unfolding decode
  sum_differs n = rw (← is, ne_eqb sum e.checksum n)

  pub sum_agrees : {r : (Answer ℕ)} → sum ≡ e.checksum → r ≡ tallied_by number (all_postings e.df documents e.list)
      → r ≡ tallied_by number (decode documents e)
  unfolding decode
  sum_agrees same r = rw (← is, eq-eqb sum e.checksum same) r

-- decoding asks for no name
pub nameless : (documents : List Document) (name bytes : List ℕ) (l : TermList)
    → decode documents (entry_named name bytes l) ≡ decode documents (list_entry bytes l)
unfolding decode
nameless documents name bytes l = refl

-- a tally that was answered is of postings, or of the refusal
module _ (number : List Posting → ℕ) where
  pub tally_ok : (r : Answer (List Posting)) {n : ℕ} → Ok n ≡ tallied_by number r
      → (ps : List Posting) × (r ≡ Ok ps) × (number ps ≡ n)
  tally_ok (Ok ps) e = (ps, refl, cc)
  tally_ok (Err x) e = let z : ◌≡◌ {A = ℕ} 0 1 = cc in absurd (omega arith)

  pub tally_refused : (r : Answer (List Posting)) {x : Refusal} → Err x ≡ tallied_by number r → r ≡ Err x
  tally_refused (Ok ps) e = let z : ◌≡◌ {A = ℕ} 0 1 = cc in absurd (omega arith)
  tally_refused (Err y) e = cc
