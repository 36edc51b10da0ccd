-- A segment opened: document 01's order of checks. Posting lists are not decoded here.
use Rattle.segment.specs.declared.refusal.Section.{Section}
use Rattle.std.specs.Prelude.{Ok, ℕ, ◌+◌, List, [], ◌∷◌, leb, eqb, length, take}
use Rattle.crc32.specs.Crc32.{crc32_of}
use Rattle.segment.specs.Refusals.{header, term_directory, term_bytes, document_metadata, postings, truncated, invalid_magic}
use Rattle.segment.specs.Refusals.{unsupported_version, unsupported_flags, checksum_mismatch, invalid_layout, trailing_bytes}
use Rattle.segment.specs.Results.{Answer, ◌>>=◌, check}
use Rattle.segment.specs.Records.{Segment, field, header_size}
use Rattle.segment.specs.Names.{same}
use Rattle.segment.specs.Metadata.{metadata}
use Rattle.segment.specs.Directory.{part, directory}

-- PSTP0001
abbrev pub magic : List ℕ
magic = 80 ∷ 83 ∷ 84 ∷ 80 ∷ 48 ∷ 48 ∷ 48 ∷ 49 ∷ []

-- The header's counts, and the four sections
pub record Sections : Type 0 where
  pub documents : ℕ
  pub terms : ℕ
  pub directory : List ℕ
  pub names : List ℕ
  pub metadata : List ℕ
  pub lists : List ℕ

-- The header is magic; u32 version 2, flags 0, document count, term count; u64 lengths of directory, term bytes, metadata, postings;
-- u32 checksums of the same four: 72 bytes. The four sections follow in that order and end the segment.
unfoldable pub ranges : List ℕ → Answer Sections
ranges bytes = do
  dir ← part term_directory header_size (field 8 24 bytes) bytes
  names ← part term_bytes (header_size + field 8 24 bytes) (field 8 32 bytes) bytes
  metadata ← part document_metadata (header_size + field 8 24 bytes + field 8 32 bytes) (field 8 40 bytes) bytes
  lists ← part postings (header_size + field 8 24 bytes + field 8 32 bytes + field 8 40 bytes) (field 8 48 bytes) bytes
  _ ← check (eqb (header_size + field 8 24 bytes + field 8 32 bytes + field 8 40 bytes + field 8 48 bytes) (length bytes))
      (invalid_layout trailing_bytes)
  Ok (record {
    documents = field 4 16 bytes;
    terms = field 4 20 bytes;
    directory = dir;
    names = names;
    metadata = metadata;
    lists = lists;
  })

unfoldable pub sections : List ℕ → Answer Sections
sections bytes = do
  _ ← check (leb header_size (length bytes)) (truncated header)
  _ ← check (same (take 8 bytes) magic) invalid_magic
  _ ← check (eqb (field 4 8 bytes) 2) (unsupported_version (field 4 8 bytes))
  _ ← check (eqb (field 4 12 bytes) 0) (unsupported_flags (field 4 12 bytes))
  ranges bytes

-- the checksum of a section, which the header has at a place
unfoldable pub section_checksum : (section : Section) (part : List ℕ) (at : ℕ) (bytes : List ℕ) → Answer (Unit {0})
section_checksum section part at bytes = check (eqb (crc32_of part) (field 4 at bytes)) (checksum_mismatch section)

-- the four checksums
unfoldable pub checksums : List ℕ → Sections → Answer (Unit {0})
checksums bytes s = do
  _ ← section_checksum term_directory s.directory 56 bytes
  _ ← section_checksum term_bytes s.names 60 bytes
  _ ← section_checksum document_metadata s.metadata 64 bytes
  section_checksum postings s.lists 68 bytes

-- what the sections hold
unfoldable pub contents : Sections → Answer Segment
contents s = do
  documents ← metadata s.documents s.metadata
  entries ← directory s.terms s.directory s.names s.lists
  Ok (record { documents = documents; entries = entries })

unfoldable pub open_segment : List ℕ → Answer Segment
open_segment bytes = do
  s ← sections bytes
  _ ← checksums bytes s
  contents s
