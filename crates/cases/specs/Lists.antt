-- Decoding a list: "its checksum; per posting the gap, overflow, order, known bar, count, count 0; per position the number, overflow,
-- order, length; at the end trailing bytes. The index of kinds 7 to 9 is the posting's place from 0, plus the position's where it is a
-- position." Every list here is decoded for documents (1, 4) and (3, 9). Not to be seen from outside, and so in no case: a posting id's
-- order against its known document (only an equal id fails order, and it is known), a position's order against the length.
use Rattle.std.specs.Prelude.{Ok, ℕ, ◌+◌, ◌≡◌, refl, List, [], ◌∷◌}
use Rattle.crc32.specs.Crc32.{crc32_of}
use Rattle.segment.specs.Results.{Answer}
use Rattle.segment.specs.Records.{Document, Posting}
use Rattle.segment.specs.Postings.{decode}
use Rattle.cases.specs.Through.{decoding}
use Rattle.cases.specs.Digits.{refused}
use Rattle.cases.specs.Sealing.{document, posting}

abbrev bars : List Document
bars = document 1 4 ∷ document 3 9 ∷ []

-- a list of so many postings, its checksum off by so much
abbrev off : (by df : ℕ) (list : List ℕ) → Answer (List Posting)
off by df list = decode bars (record { name = 0x61 ∷ []; list = list; df = df; checksum = crc32_of list + by })

abbrev decoded : (df : ℕ) (list : List ℕ) → Answer (List Posting)
decoded df list = off 0 df list

-- ---- accepted

-- each first gap the value itself, in each posting anew. Fails: a gap as the value, the position of the posting before kept
gaps : decoded 2 (0x01 ∷ 0x02 ∷ 0x00 ∷ 0x03 ∷ 0x02 ∷ 0x02 ∷ 0x00 ∷ 0x08 ∷ []) ≡ Ok (posting 1 (0 ∷ 3 ∷ []) ∷ posting 3 (0 ∷ 8 ∷ []) ∷ [])
unfolding decoding
gaps = refl

-- a list may start with any bar; a position is below its own bar's length: 8 below 9. Fails: the first bar's length
second_alone : decoded 1 (0x03 ∷ 0x01 ∷ 0x08 ∷ []) ≡ Ok (posting 3 (8 ∷ []) ∷ [])
unfolding decoding
second_alone = refl

-- long forms of small numbers pass. Fails: long forms refused
long_forms : decoded 1 (0x81 ∷ 0x00 ∷ 0x81 ∷ 0x80 ∷ 0x00 ∷ 0x80 ∷ 0x00 ∷ []) ≡ Ok (posting 1 (0 ∷ []) ∷ [])
unfolding decoding
long_forms = refl

-- ---- checksum: section 6

-- 5, section 6. Fails: section 5, not tested
checksum : off 1 1 (0x01 ∷ 0x01 ∷ 0x00 ∷ []) ≡ refused 5 6 0
unfolding decoding
checksum = refl

-- a difference in the highest byte. Fails: 16 bits compared
checksum_high : off 16777216 1 (0x01 ∷ 0x01 ∷ 0x00 ∷ []) ≡ refused 5 6 0
unfolding decoding
checksum_high = refl

-- before the list's own faults: a number that does not end. Fails: 7
checksum_first : off 1 1 (0x80 ∷ []) ≡ refused 5 6 0
unfolding decoding
checksum_first = refl

-- ---- per posting the gap: 7, section 5, index the posting's place

-- an empty list with df 1. Fails: section 6, no posting at all
empty_list : decoded 1 [] ≡ refused 7 5 0
unfolding decoding
empty_list = refl

-- a gap that does not end. Fails: an id of 0
gap_cut : decoded 1 (0x80 ∷ []) ≡ refused 7 5 0
unfolding decoding
gap_cut = refl

-- the second posting's: index 1. Fails: index 0
second_gap_cut : decoded 2 (0x01 ∷ 0x01 ∷ 0x00 ∷ 0x80 ∷ []) ≡ refused 7 5 1
unfolding decoding
second_gap_cut = refl

-- a df larger than the list: the posting that is not there. Fails: 14 of kind 6, one posting for two
df_larger : decoded 2 (0x01 ∷ 0x01 ∷ 0x00 ∷ []) ≡ refused 7 5 1
unfolding decoding
df_larger = refl

-- df 2^32 - 1 with one posting. Fails: a df tested against the number of bars
df_largest : decoded 4294967295 (0x01 ∷ 0x01 ∷ 0x00 ∷ []) ≡ refused 7 5 1
unfolding decoding
df_largest = refl

-- ---- overflow, order, known bar

-- 8: 1 and the largest gap are 2^32. Fails: an id that wraps to 0, which is 10 of kind 6
overflow : decoded 2 (0x01 ∷ 0x01 ∷ 0x00 ∷ 0xFF ∷ 0xFF ∷ 0xFF ∷ 0xFF ∷ 0x0F ∷ []) ≡ refused 8 0 1
unfolding decoding
overflow = refl

-- a gap of one less is no overflow, and an unknown bar. Fails: `<=` at 2^32 - 1
no_overflow : decoded 2 (0x01 ∷ 0x01 ∷ 0x00 ∷ 0xFE ∷ 0xFF ∷ 0xFF ∷ 0xFF ∷ 0x0F ∷ []) ≡ refused 6 10 0
unfolding decoding
no_overflow = refl

-- reason 9: a gap of 0. Fails: `<=` for `<`
order : decoded 2 (0x01 ∷ 0x01 ∷ 0x00 ∷ 0x00 ∷ 0x01 ∷ 0x01 ∷ []) ≡ refused 6 9 0
unfolding decoding
order = refl

-- order before the count, which does not end. Fails: 7
order_before_count : decoded 2 (0x01 ∷ 0x01 ∷ 0x00 ∷ 0x00 ∷ 0x80 ∷ []) ≡ refused 6 9 0
unfolding decoding
order_before_count = refl

-- reason 10: bar 2. Fails: any bar up to the last accepted
unknown : decoded 1 (0x02 ∷ 0x01 ∷ 0x00 ∷ []) ≡ refused 6 10 0
unfolding decoding
unknown = refl

-- a bar after the last. Fails: the last bar's length
unknown_after : decoded 1 (0x04 ∷ 0x01 ∷ 0x00 ∷ []) ≡ refused 6 10 0
unfolding decoding
unknown_after = refl

-- known bar before the count, which does not end. Fails: 7
unknown_before_count : decoded 1 (0x02 ∷ 0x80 ∷ []) ≡ refused 6 10 0
unfolding decoding
unknown_before_count = refl

-- and before count 0. Fails: 11 of kind 6
unknown_before_none : decoded 1 (0x02 ∷ 0x00 ∷ []) ≡ refused 6 10 0
unfolding decoding
unknown_before_none = refl

-- ---- count: 7, section 5, index the posting's place; count 0

-- no count. Fails: count 0, which is 11 of kind 6
count_missing : decoded 1 (0x01 ∷ []) ≡ refused 7 5 0
unfolding decoding
count_missing = refl

-- the second posting's count: index 1. Fails: index 0
second_count_cut : decoded 2 (0x01 ∷ 0x01 ∷ 0x00 ∷ 0x02 ∷ 0x80 ∷ []) ≡ refused 7 5 1
unfolding decoding
second_count_cut = refl

-- reason 11. Fails: a posting without positions
no_positions : decoded 1 (0x01 ∷ 0x00 ∷ []) ≡ refused 6 11 0
unfolding decoding
no_positions = refl

-- count 0 before bytes that trail. Fails: 14 of kind 6
none_before_trailing : decoded 1 (0x01 ∷ 0x00 ∷ 0x00 ∷ []) ≡ refused 6 11 0
unfolding decoding
none_before_trailing = refl

-- ---- per position the number: 7, section 5, index the posting's place plus the position's

-- the first of the first posting. Fails: fewer positions than counted
position_missing : decoded 1 (0x01 ∷ 0x01 ∷ []) ≡ refused 7 5 0
unfolding decoding
position_missing = refl

-- the second of the first: index 1. Fails: the posting's place alone
second_position_cut : decoded 1 (0x01 ∷ 0x02 ∷ 0x00 ∷ 0x80 ∷ []) ≡ refused 7 5 1
unfolding decoding
second_position_cut = refl

-- the second of the second: index 2. Fails: the position's place alone, positions counted through
second_of_second : decoded 2 (0x01 ∷ 0x01 ∷ 0x00 ∷ 0x02 ∷ 0x02 ∷ 0x00 ∷ []) ≡ refused 7 5 2
unfolding decoding
second_of_second = refl

-- the third of the second, after two of the first: index 3. Fails: positions counted through, 4
third_of_second : decoded 2 (0x01 ∷ 0x02 ∷ 0x00 ∷ 0x01 ∷ 0x02 ∷ 0x03 ∷ 0x00 ∷ 0x01 ∷ []) ≡ refused 7 5 3
unfolding decoding
third_of_second = refl

-- a count of 2^32 - 1 with one position. Fails: a count tested against the list's length
count_largest : decoded 1 (0x01 ∷ 0xFF ∷ 0xFF ∷ 0xFF ∷ 0xFF ∷ 0x0F ∷ 0x00 ∷ []) ≡ refused 7 5 1
unfolding decoding
count_largest = refl

-- ---- overflow, order, length

-- 9: the second of the second, 1 and the largest gap. Fails: a position that wraps to 0, which is 12 of kind 6
position_overflow : decoded 2 (0x01 ∷ 0x01 ∷ 0x00 ∷ 0x02 ∷ 0x02 ∷ 0x01 ∷ 0xFF ∷ 0xFF ∷ 0xFF ∷ 0xFF ∷ 0x0F ∷ []) ≡ refused 9 0 2
unfolding decoding
position_overflow = refl

-- reason 12: a gap of 0. Fails: `<=` for `<`
position_order : decoded 1 (0x01 ∷ 0x02 ∷ 0x00 ∷ 0x00 ∷ []) ≡ refused 6 12 0
unfolding decoding
position_order = refl

-- reason 13: position 4 of a bar of length 4. Fails: `<=` for `<`
position_at_length : decoded 1 (0x01 ∷ 0x01 ∷ 0x04 ∷ []) ≡ refused 6 13 0
unfolding decoding
position_at_length = refl

-- its own bar's length: 4 and 9, not 10. Fails: the length of another bar
position_past_length : decoded 2 (0x01 ∷ 0x01 ∷ 0x03 ∷ 0x02 ∷ 0x01 ∷ 0x09 ∷ []) ≡ refused 6 13 0
unfolding decoding
position_past_length = refl

-- the largest position is no overflow, and past the length. Fails: 9
largest_position : decoded 1 (0x01 ∷ 0x01 ∷ 0xFF ∷ 0xFF ∷ 0xFF ∷ 0xFF ∷ 0x0F ∷ []) ≡ refused 6 13 0
unfolding decoding
largest_position = refl

-- a position's length before the next one's number. Fails: all numbers first
length_before_next : decoded 1 (0x01 ∷ 0x02 ∷ 0x04 ∷ 0x80 ∷ []) ≡ refused 6 13 0
unfolding decoding
length_before_next = refl

-- a position's length before the next posting's bar. Fails: all postings' heads first
position_before_next_posting : decoded 2 (0x01 ∷ 0x01 ∷ 0x04 ∷ 0x01 ∷ 0x01 ∷ 0x00 ∷ []) ≡ refused 6 13 0
unfolding decoding
position_before_next_posting = refl

-- ---- at the end trailing bytes

-- reason 14: a byte more. Fails: left over unseen
trailing : decoded 1 (0x01 ∷ 0x01 ∷ 0x00 ∷ 0x00 ∷ []) ≡ refused 6 14 0
unfolding decoding
trailing = refl

-- a df smaller than the list. Fails: what is left over not seen
df_smaller : decoded 1 (0x01 ∷ 0x01 ∷ 0x00 ∷ 0x02 ∷ 0x01 ∷ 0x00 ∷ []) ≡ refused 6 14 0
unfolding decoding
df_smaller = refl

-- the last posting before bytes that trail. Fails: 14 of kind 6
posting_before_trailing : decoded 1 (0x02 ∷ 0x01 ∷ 0x00 ∷ 0x00 ∷ []) ≡ refused 6 10 0
unfolding decoding
posting_before_trailing = refl
