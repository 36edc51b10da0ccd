-- The index of every refusal that opening gives has 32 bits: it is a field of four bytes, or the index of a document, or 0.
-- Assumes nothing.
use Rattle.segment.specs.declared.refusal.Section.{Section}
use Rattle.std.specs.Prelude.{Err, None, Ok, Option, Some}
use mathlib.Core.Path.{◌≡◌, refl}
use mathlib.Core.Bool.{Bool, true, false}
use mathlib.Core.List.{List}
use Prim.Native.Nat.{ℕ, zero, suc, ◌+◌, ◌*◌, ◌^◌, ◌≤◌, ◌<◌}
use native.Mathlib.Omega.{arith}
use lib.Dec.{ltb, leb, eqb}
use lib.ListN.{length, take, drop}
use Rattle.leb128.specs.Leb128.{Leb, stored}
use Rattle.crc32.specs.Crc32.{crc32_of}
use Rattle.utf8.specs.Utf8.{utf8}
use Rattle.common.proofs.Bytes.{Bytes}
use Rattle.segment.specs.declared.refusal.Refusal.{Refusal}
use Rattle.segment.specs.Refusals.{numbers, header, term_directory, term_bytes, document_metadata, postings, truncated, invalid_magic}
use Rattle.segment.specs.Refusals.{unsupported_version, unsupported_flags, checksum_mismatch, invalid_layout, doc_id_overflow, invalid_utf8}
use Rattle.segment.specs.Refusals.{trailing_bytes, section_range_overflow, trailing_document_metadata, non_increasing_document_id}
use Rattle.segment.specs.Refusals.{directory_length_mismatch, empty_term, non_increasing_term, empty_term_posting_list}
use Rattle.segment.specs.Results.{Answer, ◌>>=◌, check}
use Rattle.segment.specs.Records.{number, number_or, field, at_gap, rises}
use Rattle.segment.specs.Names.{same}
use Rattle.segment.specs.Metadata.{read_document, read_documents, metadata}
use Rattle.segment.specs.Directory.{part, follows, read_list_range, read_entry, read_entries, directory}
use Rattle.segment.specs.Opening.{Sections, magic, ranges, sections, section_checksum, checksums, contents, open_segment}
use Rattle.show_listing.proofs.Widths.{field_small}

-- a refusal's index is small, and P holds of what is given otherwise
data Small {A : Type 0} (P : A → Type 0) : Answer A → Type 0 where
  gives : {a : A} → P a → Small P (Ok a)
  refuses : {x : Refusal} → (numbers x).index < 2 ^ 32 → Small P (Err x)

abbrev Any : {A : Type 0} → A → Type 0
Any a = Unit {0}

then_small : {A B : Type 0} {P : A → Type 0} {Q : B → Type 0} {r : Answer A} {f : A → Answer B} → Small P r
    → ((a : A) → P a → Small Q (f a))
    → Small Q (r >>= f)
then_small (gives p) q = q _ p
then_small (refuses h) q = refuses h

check_small : (t : Bool) (x : Refusal) → (numbers x).index < 2 ^ 32 → Small Any (check t x)
check_small true x h = gives tt
check_small false x h = refuses h

-- a refusal that has no index
plain : (t : Bool) (x : Refusal) → (numbers x).index ≡ 0 → Small Any (check t x)
plain t x e = check_small t x (omega arith)

refused_small : {A : Type 0} {P : A → Type 0} {x : Refusal} → Small P (Err x) → (numbers x).index < 2 ^ 32
refused_small (refuses h) = h

-- ---- parts of a section, numbers

part_small : (section : Section) (at n : ℕ) (whole : List ℕ) → Small Any (part section at n whole)
unfolding part
part_small section at n whole =
    then_small (plain (ltb (at + n) (2 ^ 64)) (invalid_layout section_range_overflow) refl) λ _ _.
    then_small (plain (leb (at + n) (length whole)) (truncated section) refl) λ _ _.
    gives tt

number_small : (section : Section) (place : ℕ) (bytes : List ℕ) → place < 2 ^ 32 → Small Any (number section place bytes)
number_small section place bytes h = by (stored bytes)
  where
    by : (o : Option Leb) → Small Any (number_or section place bytes o)
    by None = refuses h
    by (Some n) = gives tt

-- ---- metadata

document_small : (place : ℕ) (previous : Option ℕ) (bytes : List ℕ) → place < 2 ^ 32 → Small Any (read_document place previous bytes)
unfolding read_document
document_small place previous bytes h =
    then_small (number_small document_metadata place bytes h) λ gap _.
    then_small (number_small document_metadata place gap.rest h) λ len _.
    then_small (check_small (ltb (at_gap previous gap.got) (2 ^ 32)) (doc_id_overflow place) h) λ _ _.
    then_small (plain (rises previous (at_gap previous gap.got)) (invalid_layout non_increasing_document_id) refl) λ _ _.
    gives tt

documents_small : (n place : ℕ) (previous : Option ℕ) (bytes : List ℕ) → place + n ≤ 2 ^ 32
    → Small Any (read_documents n place previous bytes)
unfolding read_documents
documents_small zero place previous bytes h = gives tt
documents_small (suc n) place previous bytes h =
    then_small (document_small place previous bytes (omega arith)) λ d _.
    then_small (documents_small n (suc place) (Some d.got.id) d.rest (omega arith)) λ more _.
    gives tt

metadata_small : (n : ℕ) (bytes : List ℕ) → n < 2 ^ 32 → Small Any (metadata n bytes)
unfolding metadata
metadata_small n bytes h =
    then_small (documents_small n 0 None bytes (omega arith)) λ all _.
    then_small (plain (eqb (length all.rest) 0) (invalid_layout trailing_document_metadata) refl) λ _ _.
    gives tt

-- ---- directory

range_small : (bytes lists : List ℕ) → Small Any (read_list_range bytes lists)
unfolding read_list_range
range_small bytes lists =
    then_small (part_small postings (field 8 8 bytes) (field 8 16 bytes) lists) λ list _.
    then_small (plain (ltb 0 (field 4 24 bytes)) (invalid_layout empty_term_posting_list) refl) λ _ _.
    gives tt

entry_small : (previous : Option (List ℕ)) (bytes names lists : List ℕ) → Small Any (read_entry previous bytes names lists)
unfolding read_entry
entry_small previous bytes names lists =
    then_small (part_small term_bytes (field 4 0 bytes) (field 4 4 bytes) names) λ name _.
    then_small (plain (utf8 name) invalid_utf8 refl) λ _ _.
    then_small (plain (ltb 0 (length name)) (invalid_layout empty_term) refl) λ _ _.
    then_small (plain (follows previous name) (invalid_layout non_increasing_term) refl) λ _ _.
    then_small (range_small bytes lists) λ list _.
    gives tt

entries_small : (n : ℕ) (previous : Option (List ℕ)) (bytes names lists : List ℕ) → Small Any (read_entries n previous bytes names lists)
unfolding read_entries
entries_small zero previous bytes names lists = gives tt
entries_small (suc n) previous bytes names lists =
    then_small (entry_small previous bytes names lists) λ e _.
    then_small (entries_small n (Some e.name) (drop 32 bytes) names lists) λ more _.
    gives tt

directory_small : (n : ℕ) (bytes names lists : List ℕ) → Small Any (directory n bytes names lists)
unfolding directory
directory_small n bytes names lists =
    then_small (plain (eqb (length bytes) (32 * n)) (invalid_layout directory_length_mismatch) refl) λ _ _.
    entries_small n None bytes names lists

-- ---- the segment

abbrev Few : Sections → Type 0
Few s = s.documents < 2 ^ 32

contents_small : (s : Sections) → Few s → Small Any (contents s)
unfolding contents
contents_small s h =
    then_small (metadata_small s.documents s.metadata h) λ documents _.
    then_small (directory_small s.terms s.directory s.names s.lists) λ entries _.
    gives tt

module _ (bytes : List ℕ) where
  checksum_small : (section : Section) (part : List ℕ) (at : ℕ) → Small Any (section_checksum section part at bytes)
  unfolding section_checksum
  checksum_small section part at = plain (eqb (crc32_of part) (field 4 at bytes)) (checksum_mismatch section) refl

  checksums_small : (s : Sections) → Small Any (checksums bytes s)
  unfolding checksums
  checksums_small s =
      then_small (checksum_small term_directory s.directory 56) λ _ _.
      then_small (checksum_small term_bytes s.names 60) λ _ _.
      then_small (checksum_small document_metadata s.metadata 64) λ _ _.
      checksum_small postings s.lists 68

  module _ (b : Bytes bytes) where
    ranges_small : Small Few (ranges bytes)
    unfolding ranges
    ranges_small =
        then_small (part_small term_directory 72 (field 8 24 bytes) bytes) λ dir _.
        then_small (part_small term_bytes (72 + field 8 24 bytes) (field 8 32 bytes) bytes) λ names _.
        then_small (part_small document_metadata (72 + field 8 24 bytes + field 8 32 bytes) (field 8 40 bytes) bytes) λ metadata _.
        then_small (part_small postings (72 + field 8 24 bytes + field 8 32 bytes + field 8 40 bytes) (field 8 48 bytes) bytes) λ lists _.
        then_small (plain (eqb (72 + field 8 24 bytes + field 8 32 bytes + field 8 40 bytes + field 8 48 bytes) (length bytes))
        (invalid_layout trailing_bytes) refl) λ _ _.
        gives (field_small 16 b)

    sections_small : Small Few (sections bytes)
    unfolding sections
    sections_small =
        then_small (plain (leb 72 (length bytes)) (truncated header) refl) λ _ _.
        then_small (plain (same (take 8 bytes) magic) invalid_magic refl) λ _ _.
        then_small (check_small (eqb (field 4 8 bytes) 2) (unsupported_version (field 4 8 bytes)) (field_small 8 b)) λ _ _.
        then_small (check_small (eqb (field 4 12 bytes) 0) (unsupported_flags (field 4 12 bytes)) (field_small 12 b)) λ _ _.
        ranges_small

    open_small : Small Any (open_segment bytes)
    unfolding open_segment
    open_small =
        then_small sections_small λ s few.
        then_small (checksums_small s) λ _ _.
        contents_small s few

    pub index_small : {x : Refusal} → open_segment bytes ≡ Err x → (numbers x).index < 2 ^ 32
    index_small e = refused_small (rw e at open_small)
