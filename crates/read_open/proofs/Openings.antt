-- A segment opened: its checksums, its contents, and what callers may rely on after opening.
-- Assumes nothing.
use Rattle.segment.specs.declared.refusal.Section.{Section}
use Rattle.std.specs.Prelude.{Err, Ok}
use Rattle.segment.specs.Results.{Answer}
use mathlib.Core.Path.{◌≡◌, sym, ap, ◌∙◌}
use mathlib.Core.List.{List}
use Prim.Native.Nat.{ℕ, ◌<◌}
use native.Mathlib.Omega.{arith}
use lib.ListN.{length, get_or}
use borrow.Author.Tests.{eq-eqb, ne_eqb}
use Rattle.crc32.specs.Crc32.{crc32_of}
use Rattle.segment.specs.declared.refusal.Refusal.{Refusal}
use Rattle.read_open.specs.declared.header.Layout.{Layout}
use Rattle.segment.specs.Refusals.{term_directory, term_bytes, document_metadata, postings, checksum_mismatch}
use Rattle.segment.specs.Records.{Segment, field}
use Rattle.segment.specs.Metadata.{metadata}
use Rattle.segment.specs.Directory.{directory}
use Rattle.segment.specs.Opening.{Sections, sections, section_checksum, checksums, contents, open_segment}
use Rattle.read_open.specs.Layouts.{layout_in}
use Rattle.read_open.specs.Steps.{SectionsFollow, cut}
use Rattle.segment.specs.Steps.{checked}
use Rattle.read_open.specs.Opened.{no_entry, IsOpen, Opens}
use Rattle.calls.specs.Replies.{opened}
use Rattle.segment.proofs.Binds.{bind_gives, ok_same}
use Rattle.read_cursors.proofs.DocumentsHeld.{metadata_held}
use Rattle.segment.proofs.Accepted.{passed_ok, refused_is, stops, goes, same_check}
use Rattle.read_open.proofs.Entries.{Whole, directory_ok}

-- ---- a checksum, from the two numbers

module _ (section : Section) (part : List ℕ) (at : ℕ) (bytes : List ℕ) {a b : ℕ} (is_a : a ≡ crc32_of part) (is_b : b ≡ field 4 at bytes) where
  pub crc_differs : (a ≡ b → ⊥) → Err (checksum_mismatch section) ≡ checked (section_checksum section part at bytes)
  unfolding section_checksum
  crc_differs n = rw (← is_a, ← is_b, ne_eqb a b n)

  pub crc_agrees : a ≡ b → (Ok tt) ≡ checked (section_checksum section part at bytes)
  unfolding section_checksum
  crc_agrees e = rw (← is_a, ← is_b, eq-eqb a b e)

-- ---- the four checksums in the order of the code's tests

abbrev directory_sum : List ℕ → Sections → Answer (Unit {0})
directory_sum bytes s = checked (section_checksum term_directory s.directory 56 bytes)

abbrev names_sum : List ℕ → Sections → Answer (Unit {0})
names_sum bytes s = checked (section_checksum term_bytes s.names 60 bytes)

abbrev metadata_sum : List ℕ → Sections → Answer (Unit {0})
metadata_sum bytes s = checked (section_checksum document_metadata s.metadata 64 bytes)

abbrev lists_sum : List ℕ → Sections → Answer (Unit {0})
lists_sum bytes s = checked (section_checksum postings s.lists 68 bytes)

module _ (bytes : List ℕ) (s : Sections) where
  pub bad_directory : {x : Refusal} → Err x ≡ directory_sum bytes s → Err x ≡ checked (checksums bytes s)
  unfolding checksums
  bad_directory e = stops (section_checksum term_directory s.directory 56 bytes) _ e

  module _ (one : (Ok tt) ≡ directory_sum bytes s) where
    pub bad_names : {x : Refusal} → Err x ≡ names_sum bytes s → Err x ≡ checked (checksums bytes s)
    unfolding checksums
    bad_names e =
        goes (section_checksum term_directory s.directory 56 bytes) _ one (stops (section_checksum term_bytes s.names 60 bytes) _ e)

    module _ (two : (Ok tt) ≡ names_sum bytes s) where
      pub bad_metadata : {x : Refusal} → Err x ≡ metadata_sum bytes s → Err x ≡ checked (checksums bytes s)
      unfolding checksums
      bad_metadata e =
          goes (section_checksum term_directory s.directory 56 bytes) _ one
          (goes (section_checksum term_bytes s.names 60 bytes) _ two
          (stops (section_checksum document_metadata s.metadata 64 bytes) _ e))

      pub then_lists : {c : (Answer (Unit {0}))} → (Ok tt) ≡ metadata_sum bytes s → c ≡ lists_sum bytes s → c ≡ checked (checksums bytes s)
      unfolding checksums
      then_lists three e =
          goes (section_checksum term_directory s.directory 56 bytes) _ one
          (goes (section_checksum term_bytes s.names 60 bytes) _ two
          (goes (section_checksum document_metadata s.metadata 64 bytes) _ three e))

-- ---- the contents, from the answers for metadata and directory

module _ (s : Sections) where
  pub no_documents : {x : Refusal} → Err x ≡ checked (metadata s.documents s.metadata) → Err x ≡ checked (contents s)
  unfolding contents
  no_documents e = stops (metadata s.documents s.metadata) _ e

  pub then_terms : {c : (Answer (Unit {0}))} → (Ok tt) ≡ checked (metadata s.documents s.metadata)
      → c ≡ checked (directory s.terms s.directory s.names s.lists) → c ≡ checked (contents s)
  unfolding contents
  then_terms e f =
      let (ds, d) = passed_ok (metadata s.documents s.metadata) e in
      rw d (f ∙ sym (same_check (directory s.terms s.directory s.names s.lists)
      (λ es. record { documents = ds; entries = es })))

-- ---- what opening accepted

module _ (bytes : List ℕ) {s : Segment} (e : open_segment bytes ≡ Ok s) where
  pub open_parts : (parts : Sections) × (sections bytes ≡ Ok parts) × (checksums bytes parts ≡ Ok tt) × (contents parts ≡ Ok s)
  unfolding open_segment
  open_parts =
      let (parts, read, f) = bind_gives (sections bytes) _ e in
      let (u, sums, g) = bind_gives (checksums bytes parts) _ f in
      (parts, read, sums, g)

module _ (parts : Sections) {s : Segment} (e : contents parts ≡ Ok s) where
  pub contents_parts : (metadata parts.documents parts.metadata ≡ Ok s.documents)
      × (directory parts.terms parts.directory parts.names parts.lists ≡ Ok s.entries)
  unfolding contents
  contents_parts =
      let (ds, d, f) = bind_gives (metadata parts.documents parts.metadata) _ e in
      let (es, t, g) = bind_gives (directory parts.terms parts.directory parts.names parts.lists) _ f in
      let q = ok_same g in
      (d ∙ ap (λ (x : Segment). Ok x.documents) q, t ∙ ap (λ (x : Segment). Ok x.entries) q)

-- every entry of a segment that was opened has a name in UTF-8, not empty, and postings
pub open_whole : (bytes : List ℕ) {s : Segment} → open_segment bytes ≡ Ok s → (i : ℕ) → i < length s.entries
    → Whole (get_or s.entries i no_entry)
open_whole bytes e i h =
    let (parts, _, _, c) = open_parts bytes e in
    let r = directory_ok parts.terms parts.directory parts.names parts.lists (contents_parts parts c).1 in
    r.whole i (omega (arith, r.size))

-- ---- the segment, from the sections that the layout cuts

module _ (bytes : List ℕ) (l : Layout) where
  pub is_open : {s : Segment} → SectionsFollow bytes l → l ≡ layout_in bytes → contents (cut bytes l) ≡ Ok s → IsOpen bytes l s
  is_open o n e =
      let (d, t) = contents_parts (cut bytes l) e in
      let (held, count) = metadata_held l.documents (cut bytes l).metadata d in
      let r = directory_ok l.terms (cut bytes l).directory (cut bytes l).names (cut bytes l).lists t in
      record {
        ordered = o;
        numbers = n;
        documents = held;
        document_count = count;
        term_count = r.size;
        sorted = r.sorted;
        entry = r.entry;
        list = r.list;
      }

  module _ (read : sections bytes ≡ Ok (cut bytes l)) where
    pub bad_checksum : {x : Refusal} → Err x ≡ checked (checksums bytes (cut bytes l)) → open_segment bytes ≡ Err x
    unfolding open_segment
    bad_checksum e = rw (read, refused_is (checksums bytes (cut bytes l)) e)

    module _ (same : (Ok tt) ≡ checked (checksums bytes (cut bytes l))) where
      goes_on : open_segment bytes ≡ contents (cut bytes l)
      unfolding open_segment
      goes_on = rw (read, (passed_ok (checksums bytes (cut bytes l)) same).1)

      pub bad_contents : {x : Refusal} → Err x ≡ checked (contents (cut bytes l)) → open_segment bytes ≡ Err x
      bad_contents e = goes_on ∙ refused_is (contents (cut bytes l)) e

      pub opens : SectionsFollow bytes l → l ≡ layout_in bytes → (Ok tt) ≡ checked (contents (cut bytes l)) → Opens bytes (Ok l)
      opens o n e = let (s, q) = passed_ok (contents (cut bytes l)) e in (s, goes_on ∙ q, is_open o n q)

pub no_sections : (bytes : List ℕ) {x : Refusal} → sections bytes ≡ Err x → open_segment bytes ≡ Err x
unfolding open_segment
no_sections bytes e = rw e

-- ---- the counts

module _ (bytes : List ℕ) {r : (Answer Layout)} (o : Opens bytes r) where
  pub opened_counts : {l : Layout} → r ≡ Ok l
      → Ok (record { documents = l.documents; terms = l.terms }) ≡ opened (open_segment bytes)
  opened_counts e = let (s, q, is) = rw e at o in rw (q, is.document_count, is.term_count)

  pub opened_refused : {x : Refusal} → r ≡ Err x → Err x ≡ opened (open_segment bytes)
  opened_refused e = rw (rw e at o)
