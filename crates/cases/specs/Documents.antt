-- Opening: metadata. "Per bar both numbers, overflow, order; at the end trailing bytes. Their index is the bar's place from 0." It comes
-- before the directory.
use Rattle.std.specs.Prelude.{Ok, ℕ, ◌≡◌, refl, List, [], ◌∷◌}
use Rattle.segment.specs.Results.{Answer}
use Rattle.segment.specs.Records.{Segment}
use Rattle.segment.specs.Opening.{open_segment}
use Rattle.cases.specs.Through.{opening}
use Rattle.cases.specs.Digits.{refused}
use Rattle.cases.specs.Sealing.{document, sealed}

-- so many documents in this metadata, and no terms
abbrev bars : (count : ℕ) (metadata : List ℕ) → Answer Segment
bars count metadata = open_segment (sealed count 0 [] [] metadata [])

-- ---- accepted

-- an id gap (the first is the id) and a length. Fails: the gap as the id, a length added up
gaps : bars 2 (0x03 ∷ 0x10 ∷ 0x04 ∷ 0x02 ∷ []) ≡ Ok (record { documents = document 3 16 ∷ document 7 2 ∷ []; entries = [] })
unfolding opening
gaps = refl

-- the first id may be 0, and a length too. Fails: a first gap of 0 refused
id_0 : bars 1 (0x00 ∷ 0x00 ∷ []) ≡ Ok (record { documents = document 0 0 ∷ []; entries = [] })
unfolding opening
id_0 = refl

-- a long form of a small number passes. Fails: long forms refused
long_forms : bars 1 (0x80 ∷ 0x00 ∷ 0x81 ∷ 0x00 ∷ []) ≡ Ok (record { documents = document 0 1 ∷ []; entries = [] })
unfolding opening
long_forms = refl

-- the largest id and length. Fails: `<=` at 2^32 - 1
largest_id : bars 1 (0xFF ∷ 0xFF ∷ 0xFF ∷ 0xFF ∷ 0x0F ∷ 0xFF ∷ 0xFF ∷ 0xFF ∷ 0xFF ∷ 0x0F ∷ [])
    ≡ Ok (record { documents = document 4294967295 4294967295 ∷ []; entries = [] })
unfolding opening
largest_id = refl

-- 0 and the largest gap is no overflow. Fails: `<=` at 2^32 - 1
largest_gap : bars 2 (0x00 ∷ 0x01 ∷ 0xFF ∷ 0xFF ∷ 0xFF ∷ 0xFF ∷ 0x0F ∷ 0x01 ∷ [])
    ≡ Ok (record { documents = document 0 1 ∷ document 4294967295 1 ∷ []; entries = [] })
unfolding opening
largest_gap = refl

-- ---- 7, section 4, index the bar's place

-- no metadata for one bar. Fails: fewer bars than counted
gap_missing : bars 1 [] ≡ refused 7 4 0
unfolding opening
gap_missing = refl

-- a gap that does not end. Fails: an id of 0
gap_cut : bars 1 (0x80 ∷ []) ≡ refused 7 4 0
unfolding opening
gap_cut = refl

-- an id without a length. Fails: length 0 for nothing
length_missing : bars 1 (0x01 ∷ []) ≡ refused 7 4 0
unfolding opening
length_missing = refl

-- the second bar's gap: index 1. Fails: index 0, the place of the number
second_gap_missing : bars 2 (0x01 ∷ 0x01 ∷ []) ≡ refused 7 4 1
unfolding opening
second_gap_missing = refl

-- the second bar's length. Fails: index 0
second_length_cut : bars 2 (0x01 ∷ 0x01 ∷ 0x01 ∷ 0x80 ∷ []) ≡ refused 7 4 1
unfolding opening
second_length_cut = refl

-- a number of 33 bits. Fails: high bits dropped
number_too_large : bars 1 (0xFF ∷ 0xFF ∷ 0xFF ∷ 0xFF ∷ 0x10 ∷ 0x01 ∷ []) ≡ refused 7 4 0
unfolding opening
number_too_large = refl

-- a bar count of 2^32 - 1 with empty metadata. Fails: a count tested against the section's length
count_largest : bars 4294967295 [] ≡ refused 7 4 0
unfolding opening
count_largest = refl

-- ---- 8, index the bar's place

-- both numbers before overflow: the second id is 2^32, and its length does not end. Fails: 8 0 1
length_before_overflow : bars 2 (0x01 ∷ 0x01 ∷ 0xFF ∷ 0xFF ∷ 0xFF ∷ 0xFF ∷ 0x0F ∷ 0x80 ∷ []) ≡ refused 7 4 1
unfolding opening
length_before_overflow = refl

-- the length ends: overflow. Fails: an id that wraps to 0, which is 4 of kind 6
overflow : bars 2 (0x01 ∷ 0x01 ∷ 0xFF ∷ 0xFF ∷ 0xFF ∷ 0xFF ∷ 0x0F ∷ 0x01 ∷ []) ≡ refused 8 0 1
unfolding opening
overflow = refl

-- the third bar: index 2. Fails: index 1
third_overflow : bars 3 (0x01 ∷ 0x01 ∷ 0x01 ∷ 0x01 ∷ 0xFF ∷ 0xFF ∷ 0xFF ∷ 0xFF ∷ 0x0F ∷ 0x01 ∷ []) ≡ refused 8 0 2
unfolding opening
third_overflow = refl

-- ---- order, and the end

-- reason 4: a gap of 0. Fails: `<=` for `<`
order : bars 2 (0x01 ∷ 0x01 ∷ 0x00 ∷ 0x01 ∷ []) ≡ refused 6 4 0
unfolding opening
order = refl

-- order before trailing bytes. Fails: 3 of kind 6
order_before_trailing : bars 2 (0x01 ∷ 0x01 ∷ 0x00 ∷ 0x01 ∷ 0x00 ∷ []) ≡ refused 6 4 0
unfolding opening
order_before_trailing = refl

-- reason 3: a byte more. Fails: left over unseen
trailing : bars 1 (0x01 ∷ 0x01 ∷ 0x01 ∷ []) ≡ refused 6 3 0
unfolding opening
trailing = refl

-- no bar, and metadata. Fails: no metadata looked at where no bar is counted
trailing_of_none : bars 0 (0x01 ∷ 0x01 ∷ []) ≡ refused 6 3 0
unfolding opening
trailing_of_none = refl

-- bar by bar: the second bar's order before the third's gap, which does not end. Fails: all numbers first, 7 4 2
bar_by_bar : bars 3 (0x01 ∷ 0x01 ∷ 0x00 ∷ 0x01 ∷ 0x80 ∷ []) ≡ refused 6 4 0
unfolding opening
bar_by_bar = refl

-- ---- metadata before the directory's length

-- a directory of no bytes for one term, and no metadata for one bar. Fails: 5 of kind 6
metadata_before_directory : open_segment (sealed 1 1 [] [] [] []) ≡ refused 7 4 0
unfolding opening
metadata_before_directory = refl

-- and metadata with a byte more. Fails: 5 of kind 6
trailing_before_directory : open_segment (sealed 1 1 [] [] (0x01 ∷ 0x01 ∷ 0x01 ∷ []) []) ≡ refused 6 3 0
unfolding opening
trailing_before_directory = refl

-- metadata in order: then the directory. Fails: the directory's length not tested
then_directory : open_segment (sealed 1 1 [] [] (0x01 ∷ 0x01 ∷ []) []) ≡ refused 6 5 0
unfolding opening
then_directory = refl
