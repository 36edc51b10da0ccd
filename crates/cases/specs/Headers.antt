-- Opening, up to the ranges: "length 72, magic, version, flags; the four ranges; trailing bytes". Where a case has two faults, the first of
-- them stands.
use Rattle.std.specs.Prelude.{Ok, ℕ, ◌≡◌, refl, List, [], ◌∷◌, ◌++◌, take, set}
use Rattle.segment.specs.Opening.{open_segment}
use Rattle.cases.specs.Through.{opening}
use Rattle.cases.specs.Digits.{refused}
use Rattle.cases.specs.Sealing.{four, header}
use Rattle.cases.specs.Segments.{segment_of_uneven}

-- a header alone: version, flags, and the lengths of four sections that do not follow; counts and checksums of nothing
abbrev alone : (version flags directory names metadata lists : ℕ) → List ℕ
alone version flags directory names metadata lists = header version flags 0 0 (four directory names metadata lists) (four 0 0 0 0)

-- ---- length, magic, version, flags

-- no bars, no sounds. Fails: a segment without bars refused
nothing_inside : open_segment (alone 2 0 0 0 0 0) ≡ Ok (record { documents = []; entries = [] })
unfolding opening
nothing_inside = refl

-- 71 bytes: kind 1. Fails: a header of 71
one_byte_short : open_segment (take 71 (alone 2 0 0 0 0 0)) ≡ refused 1 1 0
unfolding opening
one_byte_short = refl

-- no byte at all. Fails: 2
no_byte : open_segment [] ≡ refused 1 1 0
unfolding opening
no_byte = refl

-- length before magic: 71 bytes that start with 51. Fails: 2
length_before_magic : open_segment (take 71 (set (alone 2 0 0 0 0 0) 0 0x51)) ≡ refused 1 1 0
unfolding opening
length_before_magic = refl

-- 2: the first byte. Fails: a magic compared from the second on
magic_first : open_segment (set (alone 2 0 0 0 0 0) 0 0x51) ≡ refused 2 0 0
unfolding opening
magic_first = refl

-- the eighth byte: PSTP0002. Fails: seven bytes compared
magic_last : open_segment (set (alone 2 0 0 0 0 0) 7 0x32) ≡ refused 2 0 0
unfolding opening
magic_last = refl

-- magic before version. Fails: 3
magic_before_version : open_segment (set (alone 3 0 0 0 0 0) 7 0x32) ≡ refused 2 0 0
unfolding opening
magic_before_version = refl

-- 3, index: value. Fails: a later version accepted
version_3 : open_segment (alone 3 0 0 0 0 0) ≡ refused 3 0 3
unfolding opening
version_3 = refl

-- an earlier version. Fails: `<=`
version_1 : open_segment (alone 1 0 0 0 0 0) ≡ refused 3 0 1
unfolding opening
version_1 = refl

-- all four bytes are the version, little-endian. Fails: one byte of it read
version_wide : open_segment (alone 0x01000002 0 0 0 0 0) ≡ refused 3 0 16777218
unfolding opening
version_wide = refl

-- version before flags. Fails: 4
version_before_flags : open_segment (alone 3 1 0 0 0 0) ≡ refused 3 0 3
unfolding opening
version_before_flags = refl

-- 4, index: value. Fails: flags not tested
flags_1 : open_segment (alone 2 1 0 0 0 0) ≡ refused 4 0 1
unfolding opening
flags_1 = refl

-- the highest flag. Fails: low flags tested alone
flags_high : open_segment (alone 2 0x80000000 0 0 0 0) ≡ refused 4 0 2147483648
unfolding opening
flags_high = refl

-- flags before the ranges. Fails: 1
flags_before_ranges : open_segment (alone 2 1 1 0 0 0) ≡ refused 4 0 1
unfolding opening
flags_before_ranges = refl

-- ---- the four ranges, each "section range overflow", then truncated; a header is 72 bytes long, so B8 FF .. FF ends at 2^64, B7 .. just below

-- the end of the directory is 2^64. Fails: a sum that wraps
directory_overflow : open_segment (alone 2 0 0xFFFFFFFFFFFFFFB8 0 0 0) ≡ refused 6 2 0
unfolding opening
directory_overflow = refl

-- one below: truncated, section 2. Fails: `<=` at 2^64, another section's number
directory_far : open_segment (alone 2 0 0xFFFFFFFFFFFFFFB7 0 0 0) ≡ refused 1 2 0
unfolding opening
directory_far = refl

-- the end of the term bytes is 2^64. Fails: a sum that wraps
names_overflow : open_segment (alone 2 0 0 0xFFFFFFFFFFFFFFB8 0 0) ≡ refused 6 2 0
unfolding opening
names_overflow = refl

-- one below: truncated, section 3. Fails: `<=` at 2^64, another section's number
names_far : open_segment (alone 2 0 0 0xFFFFFFFFFFFFFFB7 0 0) ≡ refused 1 3 0
unfolding opening
names_far = refl

-- the end of the metadata is 2^64. Fails: a sum that wraps
metadata_overflow : open_segment (alone 2 0 0 0 0xFFFFFFFFFFFFFFB8 0) ≡ refused 6 2 0
unfolding opening
metadata_overflow = refl

-- one below: truncated, section 4. Fails: `<=` at 2^64, another section's number
metadata_far : open_segment (alone 2 0 0 0 0xFFFFFFFFFFFFFFB7 0) ≡ refused 1 4 0
unfolding opening
metadata_far = refl

-- the end of the postings is 2^64. Fails: a sum that wraps
lists_overflow : open_segment (alone 2 0 0 0 0 0xFFFFFFFFFFFFFFB8) ≡ refused 6 2 0
unfolding opening
lists_overflow = refl

-- one below: truncated, section 5. Fails: `<=` at 2^64, another section's number
lists_far : open_segment (alone 2 0 0 0 0 0xFFFFFFFFFFFFFFB7) ≡ refused 1 5 0
unfolding opening
lists_far = refl

-- a range starts where the one before it ends: a directory of one byte, and term bytes that end at 2^64. Fails: each range from 72 on
overflow_after : open_segment (alone 2 0 1 0xFFFFFFFFFFFFFFB7 0 0 ++ 0x00 ∷ []) ≡ refused 6 2 0
unfolding opening
overflow_after = refl

-- the first bad range wins: the directory is truncated, the term bytes overflow. Fails: all overflows first
first_range : open_segment (alone 2 0 1 0xFFFFFFFFFFFFFFFF 0 0) ≡ refused 1 2 0
unfolding opening
first_range = refl

-- and of the last three the term bytes. Fails: the last one wins
second_range : open_segment (alone 2 0 0 1 1 1) ≡ refused 1 3 0
unfolding opening
second_range = refl

-- of the last two the metadata. Fails: the overflow first, the last one wins
third_range : open_segment (alone 2 0 0 0 1 0xFFFFFFFFFFFFFFFF) ≡ refused 1 4 0
unfolding opening
third_range = refl

-- a segment without its last byte. Fails: a last section that goes as far as there are bytes
lists_cut : open_segment (take 123 segment_of_uneven) ≡ refused 1 5 0
unfolding opening
lists_cut = refl

-- ---- trailing bytes

-- reason 1: a byte more. Fails: a last section that goes to the end
trailing : open_segment (segment_of_uneven ++ 0x00 ∷ []) ≡ refused 6 1 0
unfolding opening
trailing = refl

-- trailing bytes before the checksums: the directory's is wrong. Fails: 5
trailing_before_checksums : open_segment (header 2 0 0 0 (four 0 0 0 0) (four 1 1 1 1) ++ 0x00 ∷ []) ≡ refused 6 1 0
unfolding opening
trailing_before_checksums = refl
