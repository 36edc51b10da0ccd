-- What documents and terms take of a segment's bytes: two bytes or more each, and 32 each.
-- Assumes nothing.
use Rattle.segment.specs.declared.refusal.Section.{Section}
use Rattle.std.specs.Prelude.{None, Ok, Option, Some}
use mathlib.Core.Path.{◌≡◌, ap}
use mathlib.Core.List.{List}
use Prim.Native.Nat.{ℕ, zero, suc, ◌+◌, ◌*◌, ◌^◌, ◌≤◌}
use native.Mathlib.Omega.{arith}
use lib.Dec.{ltb, leb, eqb}
use lib.ListN.{length, take, drop, length-take, length-drop}
use borrow.Author.Tests.{leb-true, eqb-true}
use Rattle.segment.specs.Refusals.{term_directory, term_bytes, document_metadata, postings, doc_id_overflow, invalid_layout}
use Rattle.segment.specs.Refusals.{non_increasing_document_id}
use Rattle.segment.specs.Records.{Document, Entry, Segment, Read, number, at_gap, rises, field}
use Rattle.segment.specs.Names.{same}
use Rattle.segment.specs.Metadata.{document, read_document, read_documents, metadata}
use Rattle.segment.specs.Directory.{part, read_entry, read_entries, directory}
use Rattle.segment.specs.Opening.{Sections, magic, ranges, sections, checksums, contents, open_segment}
use Rattle.segment.proofs.Binds.{ok_same, bind_gives, both_gives}
use Rattle.segment.proofs.Accepted.{check_gives}
use Rattle.read_cursors.proofs.Gaps.{number_given}
use Rattle.read_cursors.proofs.DocumentsHeld.{Rising, metadata_held, held_rise}

-- ---- documents

document_taken : (place : ℕ) (previous : Option ℕ) (bytes : List ℕ) {d : Read Document} → read_document place previous bytes ≡ Ok d
    → 2 + length d.rest ≤ length bytes
unfolding read_document
document_taken place previous bytes {d} e =
    let (g, is, f) = bind_gives (number document_metadata place bytes) _ e in
    let (l, its, h) = bind_gives (number document_metadata place g.rest) _ f in
    let v = at_gap previous g.got in
    let (_, _, k) = both_gives (ltb v (2 ^ 32)) (rises previous v) (doc_id_overflow place) (invalid_layout non_increasing_document_id)
    (record { got = document v l.got; rest = l.rest }) h in
    omega (
      arith,
      ap (λ (x : Read Document). length x.rest) k,
      (number_given document_metadata place bytes is).shorter,
      (number_given document_metadata place g.rest its).shorter,
    )

documents_taken : (n place : ℕ) (previous : Option ℕ) (bytes : List ℕ) {all : Read (List Document)}
    → read_documents n place previous bytes ≡ Ok all
    → 2 * length all.got + length all.rest ≤ length bytes
unfolding read_documents
documents_taken zero place previous bytes {all} e =
    omega (
      arith,
      ap (λ (x : Read (List Document)). length x.got) (ok_same e),
      ap (λ (x : Read (List Document)). length x.rest)
          (ok_same e),
    )
documents_taken (suc n) place previous bytes {all} e =
    let (d, is, f) = bind_gives (read_document place previous bytes) _ e in
    let (more, are, g) = bind_gives (read_documents n (suc place) (Some d.got.id) d.rest) _ f in
    omega (
      arith,
      ap (λ (x : Read (List Document)). length x.got) (ok_same g),
      ap (λ (x : Read (List Document)). length x.rest) (ok_same g),
      document_taken place previous bytes is,
      documents_taken n (suc place) (Some d.got.id) d.rest are,
    )

pub metadata_taken : (n : ℕ) (bytes : List ℕ) {ds : List Document} → metadata n bytes ≡ Ok ds → 2 * length ds ≤ length bytes
unfolding metadata
metadata_taken n bytes e =
    let (all, are, f) = bind_gives (read_documents n 0 None bytes) _ e in
    let (_, g) = check_gives (eqb (length all.rest) 0) _ _ f in
    omega (arith, ap length (ok_same g), documents_taken n 0 None bytes are)

-- ---- terms

entries_count : (n : ℕ) (previous : Option (List ℕ)) (dir names lists : List ℕ) {es : List Entry}
    → read_entries n previous dir names lists ≡ Ok es
    → length es ≡ n
unfolding read_entries
entries_count zero previous dir names lists e = omega (arith, ap length (ok_same e))
entries_count (suc n) previous dir names lists e =
    let (d, _, f) = bind_gives (read_entry previous dir names lists) _ e in
    let (more, are, g) = bind_gives (read_entries n (Some d.name) (drop 32 dir) names lists) _ f in
    omega (arith, ap length (ok_same g), entries_count n (Some d.name) (drop 32 dir) names lists are)

pub directory_taken : (n : ℕ) (dir names lists : List ℕ) {es : List Entry} → directory n dir names lists ≡ Ok es
    → length dir ≡ 32 * length es
unfolding directory
directory_taken n dir names lists e =
    let (long, f) = check_gives (eqb (length dir) (32 * n)) _ _ e in
    omega (arith, eqb-true (length dir) (32 * n) long, entries_count n None dir names lists f)

-- ---- the segment

part_taken : (section : Section) (at n : ℕ) (whole : List ℕ) {l : List ℕ} → part section at n whole ≡ Ok l → length l ≡ n
unfolding part
part_taken section at n whole e =
    let (_, f) = check_gives (ltb (at + n) (2 ^ 64)) _ _ e in
    let (inside, g) = check_gives (leb (at + n) (length whole)) _ _ f in
    omega (arith, leb-true (at + n) (length whole) inside, ap length (ok_same g), length-take n (drop at whole), length-drop at whole)

abbrev SectionsTaken : List ℕ → Sections → Type 0
SectionsTaken bytes s = 72 + length s.directory + length s.metadata ≤ length bytes

module _ (bytes : List ℕ) where
  ranges_taken : {s : Sections} → ranges bytes ≡ Ok s → SectionsTaken bytes s
  unfolding ranges
  ranges_taken e =
      let a = 72 + field 8 24 bytes in
      let b = a + field 8 32 bytes in
      let c = b + field 8 40 bytes in
      let (dir, is_dir, f) = bind_gives (part term_directory 72 (field 8 24 bytes) bytes) _ e in
      let (names, _, g) = bind_gives (part term_bytes a (field 8 32 bytes) bytes) _ f in
      let (meta, is_meta, h) = bind_gives (part document_metadata b (field 8 40 bytes) bytes) _ g in
      let (lists, _, k) = bind_gives (part postings c (field 8 48 bytes) bytes) _ h in
      let (ends, m) = check_gives (eqb (c + field 8 48 bytes) (length bytes)) _ _ k in
      omega (
        arith,
        ap (λ (x : Sections). length x.directory) (ok_same m),
        ap (λ (x : Sections). length x.metadata) (ok_same m),
        part_taken term_directory 72 (field 8 24 bytes) bytes is_dir,
        part_taken document_metadata b (field 8 40 bytes) bytes is_meta,
        eqb-true (c + field 8 48 bytes) (length bytes) ends,
      )

  sections_taken : {s : Sections} → sections bytes ≡ Ok s → SectionsTaken bytes s
  unfolding sections
  sections_taken e =
      let (_, f) = check_gives (leb 72 (length bytes)) _ _ e in
      let (_, g) = check_gives (same (take 8 bytes) magic) _ _ f in
      let (_, h) = check_gives (eqb (field 4 8 bytes) 2) _ _ g in
      let (_, k) = check_gives (eqb (field 4 12 bytes) 0) _ _ h in
      ranges_taken k

-- of an open segment: ids and lengths have 32 bits, and header, documents and terms lie in its bytes
abbrev pub Holds : List ℕ → Segment → Type 0
Holds bytes s = Rising 0 s.documents × (72 + 2 * length s.documents + 32 * length s.entries ≤ length bytes)

contents_taken : (bytes : List ℕ) (p : Sections) → SectionsTaken bytes p → {s : Segment} → contents p ≡ Ok s → Holds bytes s
unfolding contents
contents_taken bytes p h e =
    let (ds, d, f) = bind_gives (metadata p.documents p.metadata) _ e in
    let (es, t, g) = bind_gives (directory p.terms p.directory p.names p.lists) _ f in
    rw (← ok_same g) (
      rw (metadata_held p.documents p.metadata d).0 at (held_rise p.documents None p.metadata),
      omega (
        arith,
        metadata_taken p.documents p.metadata d,
        directory_taken p.terms p.directory p.names p.lists t,
      ),
    )

pub segment_taken : (bytes : List ℕ) {s : Segment} → open_segment bytes ≡ Ok s → Holds bytes s
unfolding open_segment
segment_taken bytes e =
    let (p, is, f) = bind_gives (sections bytes) _ e in
    let (_, _, g) = bind_gives (checksums bytes p) _ f in
    contents_taken bytes p (sections_taken bytes is) g
