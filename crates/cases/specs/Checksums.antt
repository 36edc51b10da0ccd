-- Opening: "the four checksums", of the directory, the term bytes, the metadata and the postings; the first wrong one stands.
use Rattle.std.specs.Prelude.{Ok, ℕ, ◌+◌, ◌≡◌, refl, List, [], ◌∷◌, ◌++◌}
use Rattle.crc32.specs.Crc32.{crc32_of}
use Rattle.segment.specs.Opening.{open_segment}
use Rattle.cases.specs.Through.{opening}
use Rattle.cases.specs.Digits.{refused}
use Rattle.cases.specs.Sealing.{Four, four, header, document, entry}

-- a segment of one document and one term that opens, its checksums off by so much
abbrev off : Four → List ℕ
off by =
    let directory : List ℕ = entry 0 1 0 3 1 0 in
    let names : List ℕ = 0x61 ∷ [] in
    let metadata : List ℕ = 0x04 ∷ 0x09 ∷ [] in
    let lists : List ℕ = 0x04 ∷ 0x01 ∷ 0x08 ∷ [] in
    header 2 0 1 1 (four 32 1 2 3)
    (four (crc32_of directory + by.directory) (crc32_of names + by.names) (crc32_of metadata + by.metadata) (crc32_of lists + by.lists))
    ++ directory ++ names ++ metadata ++ lists

-- all four right; the list's own, 0, is not tested here. Fails: a section's checksum of other bytes
right : open_segment (off (four 0 0 0 0)) ≡ Ok (record {
  documents = document 4 9 ∷ [];
  entries = record { name = 0x61 ∷ []; list = 0x04 ∷ 0x01 ∷ 0x08 ∷ []; df = 1; checksum = 0 } ∷ [];
})
unfolding opening
right = refl

-- the directory's alone: section 2. Fails: not tested, another section's number
directory_off : open_segment (off (four 1 0 0 0)) ≡ refused 5 2 0
unfolding opening
directory_off = refl

-- the term bytes' alone: section 3. Fails: not tested, another section's number
names_off : open_segment (off (four 0 1 0 0)) ≡ refused 5 3 0
unfolding opening
names_off = refl

-- the metadata's alone: section 4. Fails: not tested, another section's number
metadata_off : open_segment (off (four 0 0 1 0)) ≡ refused 5 4 0
unfolding opening
metadata_off = refl

-- the postings' alone: section 5. Fails: not tested, another section's number
lists_off : open_segment (off (four 0 0 0 1)) ≡ refused 5 5 0
unfolding opening
lists_off = refl

-- a difference in the highest byte. Fails: 16 bits compared
high_byte : open_segment (off (four 0 0 0 0x1000000)) ≡ refused 5 5 0
unfolding opening
high_byte = refl

-- all four wrong: the directory's stands. Fails: the last stands
all_off : open_segment (off (four 1 1 1 1)) ≡ refused 5 2 0
unfolding opening
all_off = refl

-- the last three wrong. Fails: the last stands, the metadata's first
three_off : open_segment (off (four 0 1 1 1)) ≡ refused 5 3 0
unfolding opening
three_off = refl

-- the last two wrong. Fails: the last stands
two_off : open_segment (off (four 0 0 1 1)) ≡ refused 5 4 0
unfolding opening
two_off = refl

-- ---- before what they are of

-- the checksum of the postings before metadata that ends within a number. Fails: each section's contents after its checksum
checksums_before_metadata : open_segment (header 2 0 1 0 (four 0 0 1 0) (four 0 0 (crc32_of (0x80 ∷ [])) 1) ++ 0x80 ∷ []) ≡ refused 5 5 0
unfolding opening
checksums_before_metadata = refl
