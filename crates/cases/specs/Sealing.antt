-- Segments made by hand, for faults that the writer would not write.
use Rattle.std.specs.Prelude.{ℕ, zero, suc, ◌/◌, ◌%◌, List, [], ◌∷◌, ◌++◌, length}
use Rattle.crc32.specs.Crc32.{crc32_of}
use Rattle.segment.specs.Records.{Document, Posting}

abbrev pub document : (id len : ℕ) → Document
document i l = record { id = i; len = l }

abbrev pub posting : (doc : ℕ) (positions : List ℕ) → Posting
posting d ps = record { doc = d; positions = ps }

-- a number in n bytes, little-endian
abbrev pub in_bytes : (n x : ℕ) → List ℕ
in_bytes zero x = []
in_bytes (suc n) x = x % 256 ∷ in_bytes n (x / 256)

-- four numbers, one for each section in the order of the segment: directory, term bytes, metadata, postings
pub record Four : Type 0 where
  pub directory : ℕ
  pub names : ℕ
  pub metadata : ℕ
  pub lists : ℕ

abbrev pub four : (directory names metadata lists : ℕ) → Four
four d n m l = record { directory = d; names = n; metadata = m; lists = l }

-- eight bytes; u32 version, flags, document count, term count; u64 lengths; u32 checksums
abbrev pub header : (version flags documents terms : ℕ) (lengths checksums : Four) → List ℕ
header version flags documents terms lengths checksums =
    0x50 ∷ 0x53 ∷ 0x54 ∷ 0x50 ∷ 0x30 ∷ 0x30 ∷ 0x30 ∷ 0x31
    ∷ in_bytes 4 version ++ in_bytes 4 flags ++ in_bytes 4 documents ++ in_bytes 4 terms
    ++ in_bytes 8 lengths.directory ++ in_bytes 8 lengths.names ++ in_bytes 8 lengths.metadata ++ in_bytes 8 lengths.lists
    ++ in_bytes 4 checksums.directory ++ in_bytes 4 checksums.names ++ in_bytes 4 checksums.metadata ++ in_bytes 4
    checksums.lists

-- four sections under a header whose lengths and checksums are theirs
abbrev pub sealed : (documents terms : ℕ) (directory names metadata lists : List ℕ) → List ℕ
sealed documents terms directory names metadata lists =
    header 2 0 documents terms (four (length directory) (length names) (length metadata) (length lists))
    (four (crc32_of directory) (crc32_of names) (crc32_of metadata) (crc32_of lists))
    ++ directory ++ names ++ metadata ++ lists

-- u32 term offset, u32 term length, u64 postings offset, u64 postings length, u32 df, u32 checksum of these postings
abbrev pub entry : (term_at term_length list_at list_length df checksum : ℕ) → List ℕ
entry term_at term_length list_at list_length df checksum =
    in_bytes 4 term_at ++ in_bytes 4 term_length ++ in_bytes 8 list_at ++ in_bytes 8 list_length ++ in_bytes 4 df ++ in_bytes 4 checksum
