-- A segment that was written opens: each field of the header and each section stands where the opening looks for it.
-- Assumes nothing.
use Rattle.std.specs.Prelude.{Ok}
use mathlib.Core.Path.{◌≡◌, refl, sym}
use mathlib.Core.List.{List, [], ◌++◌, append_assoc, append-nil}
use Prim.Native.Nat.{ℕ, ◌+◌, ◌^◌, ◌<◌}
use native.Mathlib.Omega.{arith}
use lib.ListN.{length, take, length-append}
use borrow.Author.Tests.{le-leb, eq-eqb}
use Rattle.crc32.specs.Crc32.{crc32_of}
use Rattle.segment.specs.Refusals.{term_directory, term_bytes, document_metadata, postings}
use Rattle.segment.specs.Records.{Document, Entry, field}
use Rattle.segment.specs.Names.{same}
use Rattle.segment.specs.Metadata.{metadata}
use Rattle.segment.specs.Directory.{part, directory}
use Rattle.segment.specs.Opening.{magic, Sections, ranges, sections, section_checksum, checksums, contents, open_segment}
use Rattle.segment.specs.Written.{header_bytes, with_header}
use Rattle.roundtrip.proofs.Checksums.{crc_lt}
use Rattle.roundtrip.proofs.Front.{part_between}
use Rattle.roundtrip.proofs.NumbersBack.{fixed_back}

-- where the lengths before it say, each section stands, and the last ends the bytes
record Placed (bytes : List ℕ) (s : Sections) : Type 0 where
  directory : part term_directory 72 (length s.directory) bytes ≡ Ok s.directory
  names : part term_bytes (72 + length s.directory) (length s.names) bytes ≡ Ok s.names
  metadata : part document_metadata (72 + length s.directory + length s.names) (length s.metadata) bytes ≡ Ok s.metadata
  lists : part postings (72 + length s.directory + length s.names + length s.metadata) (length s.lists) bytes ≡ Ok s.lists
  end : 72 + length s.directory + length s.names + length s.metadata + length s.lists ≡ length bytes

-- what the header of these bytes says
record Headed (bytes : List ℕ) (s : Sections) : Type 0 where
  begins : take 8 bytes ≡ magic
  version : field 4 8 bytes ≡ 2
  flags : field 4 12 bytes ≡ 0
  documents : field 4 16 bytes ≡ s.documents
  terms : field 4 20 bytes ≡ s.terms
  directory : field 8 24 bytes ≡ length s.directory
  names : field 8 32 bytes ≡ length s.names
  metadata : field 8 40 bytes ≡ length s.metadata
  lists : field 8 48 bytes ≡ length s.lists
  directory_sum : field 4 56 bytes ≡ crc32_of s.directory
  names_sum : field 4 60 bytes ≡ crc32_of s.names
  metadata_sum : field 4 64 bytes ≡ crc32_of s.metadata
  lists_sum : field 4 68 bytes ≡ crc32_of s.lists

-- ---- read

module _ (bytes : List ℕ) (s : Sections) (h : Headed bytes s) (p : Placed bytes s) where
  ranges_back : ranges bytes ≡ Ok s
  unfolding ranges
  ranges_back =
      rw (
        h.directory,
        h.names,
        h.metadata,
        h.lists,
        p.directory,
        p.names,
        p.metadata,
        p.lists,
        eq-eqb _ _ p.end,
        h.documents,
        h.terms,
      )

  sections_back : sections bytes ≡ Ok s
  unfolding sections same
  sections_back =
      rw (le-leb 72 (length bytes) (omega (arith, p.end)), h.begins, h.version, h.flags) ranges_back

  checksums_back : checksums bytes s ≡ Ok tt
  unfolding checksums section_checksum
  checksums_back =
      rw (
        eq-eqb _ _ (sym h.directory_sum),
        eq-eqb _ _ (sym h.names_sum),
        eq-eqb _ _ (sym h.metadata_sum),
        eq-eqb _ _ (sym h.lists_sum),
      )

  opening_back : (documents : List Document) (entries : List Entry) → metadata s.documents s.metadata ≡ Ok documents
      → directory s.terms s.directory s.names s.lists ≡ Ok entries
      → open_segment bytes ≡ Ok (record { documents = documents; entries = entries })
  unfolding open_segment contents
  opening_back documents entries m d = rw (sections_back, checksums_back, m, d)

-- ---- written

sections_placed : (header : List ℕ) (s : Sections) → length header ≡ 72
    → 72 + length s.directory + length s.names + length s.metadata + length s.lists < 2 ^ 64
    → Placed (header ++ (s.directory ++ (s.names ++ (s.metadata ++ s.lists)))) s
sections_placed header s is h = record {
  directory =
      part_between term_directory header s.directory (s.names ++ (s.metadata ++ s.lists)) 72 (length s.directory)
      (sym is) refl fits;
  names =
      rw append_assoc at
      (part_between term_bytes (header ++ s.directory) s.names (s.metadata ++ s.lists) (72 + length s.directory)
      (length s.names)
      (omega (arith, length-append header s.directory)) refl (simp append_assoc fits));
  metadata =
      simp append_assoc at
      (part_between document_metadata (header ++ s.directory ++ s.names) s.metadata s.lists
      (72 + length s.directory + length s.names) (length s.metadata)
      (simp length-append (omega arith)) refl (simp append_assoc fits));
  lists =
      simp (append_assoc, append-nil) at
      (part_between postings (header ++ s.directory ++ s.names ++ s.metadata) s.lists []
      (72 + length s.directory + length s.names + length s.metadata) (length s.lists)
      (simp length-append (omega arith)) refl (simp (append_assoc, append-nil) fits));
  end = sym total;
}
  where
    total : length (header ++ (s.directory ++ (s.names ++ (s.metadata ++ s.lists))))
        ≡ 72 + length s.directory + length s.names + length s.metadata + length s.lists
    total = simp length-append (omega arith)

    fits : length (header ++ (s.directory ++ (s.names ++ (s.metadata ++ s.lists)))) < 2 ^ 64
    fits = omega (arith, total)

-- the bytes of these sections behind their header
abbrev pub behind_header : Sections → List ℕ
behind_header s = with_header s.documents s.terms s.directory s.names s.metadata s.lists

header_says : (s : Sections) → s.documents < 2 ^ 32 → s.terms < 2 ^ 32
    → 72 + length s.directory + length s.names + length s.metadata + length s.lists < 2 ^ 64 → Headed (behind_header s) s
header_says s few_documents few_terms h = record {
  begins = refl;
  version = refl;
  flags = refl;
  documents = fixed_back 4 s.documents few_documents;
  terms = fixed_back 4 s.terms few_terms;
  directory = fixed_back 8 (length s.directory) (omega arith);
  names = fixed_back 8 (length s.names) (omega arith);
  metadata = fixed_back 8 (length s.metadata) (omega arith);
  lists = fixed_back 8 (length s.lists) (omega arith);
  directory_sum = fixed_back 4 (crc32_of s.directory) (crc_lt s.directory);
  names_sum = fixed_back 4 (crc32_of s.names) (crc_lt s.names);
  metadata_sum = fixed_back 4 (crc32_of s.metadata) (crc_lt s.metadata);
  lists_sum = fixed_back 4 (crc32_of s.lists) (crc_lt s.lists);
}

pub opens : (s : Sections) → s.documents < 2 ^ 32 → s.terms < 2 ^ 32
    → 72 + length s.directory + length s.names + length s.metadata + length s.lists < 2 ^ 64
    → (documents : List Document) (entries : List Entry) → metadata s.documents s.metadata ≡ Ok documents
    → directory s.terms s.directory s.names s.lists ≡ Ok entries
    → open_segment (behind_header s) ≡ Ok (record { documents = documents; entries = entries })
opens s few_documents few_terms h =
    opening_back (behind_header s) s (header_says s few_documents few_terms h)
    (sections_placed (header_bytes s.documents s.terms s.directory s.names s.metadata s.lists) s refl h)
