-- The bytes of a segment: header, directory, term bytes, metadata, posting lists (document 01, "The segment").
use Rattle.std.specs.Prelude.{None, Option, Some, ℕ, zero, suc, ◌+◌, ◌/◌, ◌%◌, List, [], ◌∷◌, ◌++◌, map, length}
use Rattle.leb128.specs.Leb128.{encoded}
use Rattle.crc32.specs.Crc32.{crc32_of}
use Rattle.segment.specs.Records.{Document, Posting, Term, Given, gap}
use Rattle.segment.specs.Opening.{magic}
use Rattle.common.specs.Lists.{joined}

-- a number in n bytes, little-endian
abbrev pub fixed : (n x : ℕ) → List ℕ
fixed zero x = []
fixed (suc n) x = x % 256 ∷ fixed n (x / 256)

unfoldable pub metadata_bytes : (previous : Option ℕ) → List Document → List ℕ
metadata_bytes previous [] = []
metadata_bytes previous (d ∷ ds) = encoded (gap previous d.id) ++ encoded d.len ++ metadata_bytes (Some d.id) ds

unfoldable pub position_bytes : (previous : Option ℕ) → List ℕ → List ℕ
position_bytes previous [] = []
position_bytes previous (p ∷ ps) = encoded (gap previous p) ++ position_bytes (Some p) ps

unfoldable pub posting_bytes : (previous : Option ℕ) → Posting → List ℕ
posting_bytes previous p = encoded (gap previous p.doc) ++ encoded (length p.positions) ++ position_bytes None p.positions

unfoldable pub postings_bytes : (previous : Option ℕ) → List Posting → List ℕ
postings_bytes previous [] = []
postings_bytes previous (p ∷ ps) = posting_bytes previous p ++ postings_bytes (Some p.doc) ps

-- a term's posting list
abbrev pub list_bytes : Term → List ℕ
list_bytes t = postings_bytes None t.postings

-- u32 term offset, u32 term length, u64 postings offset, u64 postings length, u32 df, u32 checksum of these postings
abbrev pub entry_bytes : (name_at name_length list_at : ℕ) (list : List ℕ) (df : ℕ) → List ℕ
entry_bytes name_at name_length list_at list df =
    fixed 4 name_at ++ fixed 4 name_length ++ fixed 8 list_at ++ fixed 8 (length list) ++ fixed 4 df ++ fixed 4 (crc32_of list)

unfoldable pub directory_bytes : (name_at list_at : ℕ) → List Term → List ℕ
directory_bytes name_at list_at [] = []
directory_bytes name_at list_at (t ∷ ts) =
    entry_bytes name_at (length t.name) list_at (list_bytes t) (length t.postings)
    ++ directory_bytes (name_at + length t.name) (list_at + length (list_bytes t)) ts

unfoldable pub name_bytes : List Term → List ℕ
name_bytes ts = joined (map (λ t. t.name) ts)

unfoldable pub lists_bytes : List Term → List ℕ
lists_bytes ts = joined (map list_bytes ts)

-- magic; u32 version 2, flags 0, document count, term count; u64 lengths and u32 checksums of the four sections
abbrev pub header_bytes : (documents terms : ℕ) (directory names metadata lists : List ℕ) → List ℕ
header_bytes documents terms directory names metadata lists =
    magic ++ fixed 4 2 ++ fixed 4 0 ++ fixed 4 documents ++ fixed 4 terms
    ++ fixed 8 (length directory) ++ fixed 8 (length names) ++ fixed 8 (length metadata) ++ fixed 8 (length lists)
    ++ fixed 4 (crc32_of directory) ++ fixed 4 (crc32_of names) ++ fixed 4 (crc32_of metadata) ++ fixed 4 (crc32_of lists)

abbrev pub with_header : (documents terms : ℕ) (directory names metadata lists : List ℕ) → List ℕ
with_header documents terms directory names metadata lists =
    header_bytes documents terms directory names metadata lists ++ (directory ++ (names ++ (metadata ++ lists)))

unfoldable pub segment_bytes : Given → List ℕ
segment_bytes g =
    with_header (length g.documents) (length g.terms)
    (directory_bytes 0 0 g.terms) (name_bytes g.terms) (metadata_bytes None g.documents) (lists_bytes g.terms)
