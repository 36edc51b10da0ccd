-- What the writer refuses, in document 01's order: "kinds 12, 11; document order; per term UTF-8, empty, order, no postings; per posting
-- unknown bar, underflow, order, no positions; per position underflow, order, length; last 13". There is room for nothing in any of these
-- cases, so that every other refusal is seen to come before 13; and where a case has two faults, the first of them stands.
use Rattle.std.specs.Prelude.{ℕ, ◌≡◌, refl, List, [], ◌∷◌}
use Rattle.segment.specs.Results.{Answer}
use Rattle.calls.specs.Writing.{write}
use Rattle.cases.specs.Through.{writing}
use Rattle.cases.specs.Digits.{refused}

-- ids, lengths, text, ends, postings per term, posting ids, position counts, positions, and no room
abbrev pub put : (ids lengths text ends posting_counts posting_ids position_counts positions : List ℕ) → Answer (List ℕ)
put ids lengths text ends posting_counts posting_ids position_counts positions =
    write
    (record {
      ids = ids;
      lengths = lengths;
      text = text;
      ends = ends;
      posting_counts = posting_counts;
      posting_ids = posting_ids;
      position_counts = position_counts;
      positions = positions;
    })
    0

-- ---- 11 list shape

-- lists that run side by side differ in length: a document without a length. Fails: the shorter list taken
lengths_short : put (4 ∷ 5 ∷ []) (9 ∷ []) [] [] [] [] [] [] ≡ refused 11 0 0
unfolding writing
lengths_short = refl

-- a text's ends fall, though the last is the text's length. Fails: only the last end tested
ends_fall : put (4 ∷ []) (9 ∷ []) (0x61 ∷ 0x62 ∷ []) (2 ∷ 1 ∷ 2 ∷ []) (1 ∷ 0 ∷ 0 ∷ []) (4 ∷ []) (1 ∷ []) (0 ∷ []) ≡ refused 11 0 0
unfolding writing
ends_fall = refl

-- the last end is not the text's length: below it. Fails: bytes after the last name dropped
ends_short : put (4 ∷ []) (9 ∷ []) (0x61 ∷ 0x62 ∷ []) (1 ∷ []) (1 ∷ []) (4 ∷ []) (1 ∷ []) (0 ∷ []) ≡ refused 11 0 0
unfolding writing
ends_short = refl

-- and above it. Fails: a name cut at the text's end
ends_long : put (4 ∷ []) (9 ∷ []) (0x61 ∷ []) (2 ∷ []) (1 ∷ []) (4 ∷ []) (1 ∷ []) (0 ∷ []) ≡ refused 11 0 0
unfolding writing
ends_long = refl

-- a text without ends is not empty. Fails: the text dropped
text_without_ends : put (4 ∷ []) (9 ∷ []) (0x61 ∷ []) [] [] [] [] [] ≡ refused 11 0 0
unfolding writing
text_without_ends = refl

-- a term without a posting count. Fails: the shorter list taken
posting_counts_short : put (4 ∷ []) (9 ∷ []) (0x61 ∷ 0x62 ∷ []) (1 ∷ 2 ∷ []) (1 ∷ []) (4 ∷ []) (1 ∷ []) (0 ∷ []) ≡ refused 11 0 0
unfolding writing
posting_counts_short = refl

-- the counts do not add up to the length of the next list: one posting over. Fails: what no term has left out
posting_counts_low : put (4 ∷ 5 ∷ []) (9 ∷ 9 ∷ []) (0x61 ∷ []) (1 ∷ []) (1 ∷ []) (4 ∷ 5 ∷ []) (1 ∷ 1 ∷ []) (0 ∷ 0 ∷ []) ≡ refused 11 0 0
unfolding writing
posting_counts_low = refl

-- one posting under. Fails: as many as there are
posting_counts_high : put (4 ∷ 5 ∷ []) (9 ∷ 9 ∷ []) (0x61 ∷ []) (1 ∷ []) (2 ∷ []) (4 ∷ []) (1 ∷ []) (0 ∷ []) ≡ refused 11 0 0
unfolding writing
posting_counts_high = refl

-- sums of counts do not wrap: 4294967295 and 2 are not 1. Fails: a sum of 32 bits
posting_counts_wrap : put (4 ∷ []) (9 ∷ []) (0x61 ∷ 0x62 ∷ []) (1 ∷ 2 ∷ []) (4294967295 ∷ 2 ∷ []) (4 ∷ []) (1 ∷ []) (0 ∷ [])
    ≡ refused 11 0 0
unfolding writing
posting_counts_wrap = refl

-- a position count more than postings, and the sum right. Fails: only the sum tested
position_counts_long : put (4 ∷ []) (9 ∷ []) (0x61 ∷ []) (1 ∷ []) (1 ∷ []) (4 ∷ []) (1 ∷ 0 ∷ []) (0 ∷ []) ≡ refused 11 0 0
unfolding writing
position_counts_long = refl

-- one position over. Fails: steps that no posting has are left out
position_counts_low : put (4 ∷ []) (9 ∷ []) (0x61 ∷ []) (1 ∷ []) (1 ∷ []) (4 ∷ []) (1 ∷ []) (0 ∷ 1 ∷ []) ≡ refused 11 0 0
unfolding writing
position_counts_low = refl

-- one position under. Fails: as many as there are
position_counts_high : put (4 ∷ []) (9 ∷ []) (0x61 ∷ []) (1 ∷ []) (1 ∷ []) (4 ∷ []) (2 ∷ []) (0 ∷ []) ≡ refused 11 0 0
unfolding writing
position_counts_high = refl

-- 4294967295 and 2 are not 1 here either. Fails: a sum of 32 bits
position_counts_wrap : put (4 ∷ 5 ∷ []) (9 ∷ 9 ∷ []) (0x61 ∷ []) (1 ∷ []) (2 ∷ []) (4 ∷ 5 ∷ []) (4294967295 ∷ 2 ∷ []) (0 ∷ [])
    ≡ refused 11 0 0
unfolding writing
position_counts_wrap = refl

-- 11 before document order: the ids fall, and a length is missing. Fails: 15 of kind 6
shape_before_order : put (5 ∷ 4 ∷ []) (9 ∷ []) [] [] [] [] [] [] ≡ refused 11 0 0
unfolding writing
shape_before_order = refl

-- ---- document order

-- reason 15: equal ids. Fails: `<=` for `<`
documents_equal : put (4 ∷ 4 ∷ []) (9 ∷ 9 ∷ []) [] [] [] [] [] [] ≡ refused 6 15 0
unfolding writing
documents_equal = refl

-- falling ids. Fails: only equal ids refused
documents_fall : put (5 ∷ 4 ∷ []) (9 ∷ 9 ∷ []) [] [] [] [] [] [] ≡ refused 6 15 0
unfolding writing
documents_fall = refl

-- document order before any term: the name is not UTF-8. Fails: 10
documents_before_terms : put (5 ∷ 4 ∷ []) (9 ∷ 9 ∷ []) (0xFF ∷ []) (1 ∷ []) (1 ∷ []) (4 ∷ []) (1 ∷ []) (0 ∷ []) ≡ refused 6 15 0
unfolding writing
documents_before_terms = refl

-- ---- per term UTF-8, empty, order, no postings

-- 10 for a sound's name. Fails: not tested
name_not_utf8 : put (4 ∷ []) (9 ∷ []) (0xFF ∷ []) (1 ∷ []) (1 ∷ []) (4 ∷ []) (1 ∷ []) (0 ∷ []) ≡ refused 10 0 0
unfolding writing
name_not_utf8 = refl

-- UTF-8 is tested name by name: C3 A9 with ends 1, 2. Fails: the whole text tested
names_cut : put (4 ∷ []) (9 ∷ []) (0xC3 ∷ 0xA9 ∷ []) (1 ∷ 2 ∷ []) (1 ∷ 1 ∷ []) (4 ∷ 4 ∷ []) (1 ∷ 1 ∷ []) (0 ∷ 0 ∷ []) ≡ refused 10 0 0
unfolding writing
names_cut = refl

-- reason 6. Fails: an empty name written
name_empty : put (4 ∷ []) (9 ∷ []) [] (0 ∷ []) (1 ∷ []) (4 ∷ []) (1 ∷ []) (0 ∷ []) ≡ refused 6 6 0
unfolding writing
name_empty = refl

-- empty before order: an empty name after another. Fails: 16
empty_before_order : put (4 ∷ []) (9 ∷ []) (0x61 ∷ []) (1 ∷ 1 ∷ []) (1 ∷ 1 ∷ []) (4 ∷ 4 ∷ []) (1 ∷ 1 ∷ []) (0 ∷ 0 ∷ []) ≡ refused 6 6 0
unfolding writing
empty_before_order = refl

-- reason 16: equal names. Fails: `<=` for `<`
names_equal : put (4 ∷ []) (9 ∷ []) (0x61 ∷ 0x61 ∷ []) (1 ∷ 2 ∷ []) (1 ∷ 1 ∷ []) (4 ∷ 4 ∷ []) (1 ∷ 1 ∷ []) (0 ∷ 0 ∷ []) ≡ refused 6 16 0
unfolding writing
names_equal = refl

-- falling names. Fails: only equal names refused
names_fall : put (4 ∷ []) (9 ∷ []) (0x62 ∷ 0x61 ∷ []) (1 ∷ 2 ∷ []) (1 ∷ 1 ∷ []) (4 ∷ 4 ∷ []) (1 ∷ 1 ∷ []) (0 ∷ 0 ∷ []) ≡ refused 6 16 0
unfolding writing
names_fall = refl

-- a beginning comes before what it begins: ab, a falls. Fails: an order by length last
beginning_after : put (4 ∷ []) (9 ∷ []) (0x61 ∷ 0x62 ∷ 0x61 ∷ []) (2 ∷ 3 ∷ []) (1 ∷ 1 ∷ []) (4 ∷ 4 ∷ []) (1 ∷ 1 ∷ []) (0 ∷ 0 ∷ [])
    ≡ refused 6 16 0
unfolding writing
beginning_after = refl

-- UTF-8 before order: C3 A9, then 80, which is lower and no text. Fails: 16
utf8_before_order : put (4 ∷ []) (9 ∷ []) (0xC3 ∷ 0xA9 ∷ 0x80 ∷ []) (2 ∷ 3 ∷ []) (1 ∷ 1 ∷ []) (4 ∷ 4 ∷ []) (1 ∷ 1 ∷ []) (0 ∷ 0 ∷ [])
    ≡ refused 10 0 0
unfolding writing
utf8_before_order = refl

-- order before no postings: b, then a without postings. Fails: 8
order_before_postings : put (4 ∷ []) (9 ∷ []) (0x62 ∷ 0x61 ∷ []) (1 ∷ 2 ∷ []) (1 ∷ 0 ∷ []) (4 ∷ []) (1 ∷ []) (0 ∷ []) ≡ refused 6 16 0
unfolding writing
order_before_postings = refl

-- reason 8. Fails: a term of df 0 written
no_postings : put (4 ∷ []) (9 ∷ []) (0x61 ∷ []) (1 ∷ []) (0 ∷ []) [] [] [] ≡ refused 6 8 0
unfolding writing
no_postings = refl

-- per term: a without postings before the next name, which is not UTF-8. Fails: all names first
postings_before_next_name : put (4 ∷ []) (9 ∷ []) (0x61 ∷ 0xFF ∷ []) (1 ∷ 2 ∷ []) (0 ∷ 1 ∷ []) (4 ∷ []) (1 ∷ []) (0 ∷ []) ≡ refused 6 8 0
unfolding writing
postings_before_next_name = refl

-- ---- per posting unknown bar, underflow, order, no positions

-- reason 10. Fails: any bar accepted
unknown_document : put (4 ∷ []) (9 ∷ []) (0x61 ∷ []) (1 ∷ []) (1 ∷ []) (5 ∷ []) (1 ∷ []) (0 ∷ []) ≡ refused 6 10 0
unfolding writing
unknown_document = refl

-- unknown bar before underflow: 5, then 4, and there is no 4. Fails: 17
unknown_before_underflow : put (5 ∷ []) (9 ∷ []) (0x61 ∷ []) (1 ∷ []) (2 ∷ []) (5 ∷ 4 ∷ []) (1 ∷ 1 ∷ []) (0 ∷ 0 ∷ []) ≡ refused 6 10 0
unfolding writing
unknown_before_underflow = refl

-- reason 17: a lower id. Fails: 18 for both
posting_underflow : put (4 ∷ 5 ∷ []) (9 ∷ 9 ∷ []) (0x61 ∷ []) (1 ∷ []) (2 ∷ []) (5 ∷ 4 ∷ []) (1 ∷ 1 ∷ []) (0 ∷ 0 ∷ []) ≡ refused 6 17 0
unfolding writing
posting_underflow = refl

-- reason 18: the same id. Fails: 17 for both, equal ids joined
postings_equal : put (4 ∷ 5 ∷ []) (9 ∷ 9 ∷ []) (0x61 ∷ []) (1 ∷ []) (2 ∷ []) (5 ∷ 5 ∷ []) (1 ∷ 1 ∷ []) (0 ∷ 1 ∷ []) ≡ refused 6 18 0
unfolding writing
postings_equal = refl

-- reason 11. Fails: a posting of no steps written
no_positions : put (4 ∷ []) (9 ∷ []) (0x61 ∷ []) (1 ∷ []) (1 ∷ []) (4 ∷ []) (0 ∷ []) [] ≡ refused 6 11 0
unfolding writing
no_positions = refl

-- unknown bar before no positions. Fails: 11 of kind 6
unknown_before_positions : put (4 ∷ []) (9 ∷ []) (0x61 ∷ []) (1 ∷ []) (1 ∷ []) (5 ∷ []) (0 ∷ []) [] ≡ refused 6 10 0
unfolding writing
unknown_before_positions = refl

-- underflow before no positions. Fails: 11 of kind 6
underflow_before_positions : put (4 ∷ 5 ∷ []) (9 ∷ 9 ∷ []) (0x61 ∷ []) (1 ∷ []) (2 ∷ []) (5 ∷ 4 ∷ []) (1 ∷ 0 ∷ []) (0 ∷ []) ≡ refused 6 17 0
unfolding writing
underflow_before_positions = refl

-- order before no positions. Fails: 11 of kind 6
order_before_positions : put (4 ∷ 5 ∷ []) (9 ∷ 9 ∷ []) (0x61 ∷ []) (1 ∷ []) (2 ∷ []) (5 ∷ 5 ∷ []) (1 ∷ 0 ∷ []) (0 ∷ []) ≡ refused 6 18 0
unfolding writing
order_before_positions = refl

-- ---- per position underflow, order, length

-- reason 19: a lower position. Fails: 20 for both
position_underflow : put (4 ∷ []) (9 ∷ []) (0x61 ∷ []) (1 ∷ []) (1 ∷ []) (4 ∷ []) (2 ∷ []) (5 ∷ 3 ∷ []) ≡ refused 6 19 0
unfolding writing
position_underflow = refl

-- reason 20: the same position. Fails: 19 for both
positions_equal : put (4 ∷ []) (9 ∷ []) (0x61 ∷ []) (1 ∷ []) (1 ∷ []) (4 ∷ []) (2 ∷ []) (5 ∷ 5 ∷ []) ≡ refused 6 20 0
unfolding writing
positions_equal = refl

-- reason 21: a position that is the length. Fails: `<=` for `<`
position_at_length : put (4 ∷ []) (9 ∷ []) (0x61 ∷ []) (1 ∷ []) (1 ∷ []) (4 ∷ []) (1 ∷ []) (9 ∷ []) ≡ refused 6 21 0
unfolding writing
position_at_length = refl

-- the length of its own document: 9 is past 5 and not past 4. Fails: the first document's length, the largest
length_of_its_own : put (4 ∷ 5 ∷ []) (20 ∷ 9 ∷ []) (0x61 ∷ []) (1 ∷ []) (2 ∷ []) (4 ∷ 5 ∷ []) (1 ∷ 1 ∷ []) (9 ∷ 9 ∷ []) ≡ refused 6 21 0
unfolding writing
length_of_its_own = refl

-- ---- nested: term by term, down to its positions

-- a position of the first term before the second's name: not 10. Fails: all names first
positions_before_next_name : put (0 ∷ []) (1 ∷ []) (0x61 ∷ 0xFF ∷ []) (1 ∷ 2 ∷ []) (1 ∷ 1 ∷ []) (0 ∷ 0 ∷ []) (1 ∷ 1 ∷ []) (1 ∷ 0 ∷ [])
    ≡ refused 6 21 0
unfolding writing
positions_before_next_name = refl

-- a position of the first posting before the second's document: not 10 of kind 6. Fails: all posting ids first
positions_before_next_posting : put (4 ∷ []) (9 ∷ []) (0x61 ∷ []) (1 ∷ []) (2 ∷ []) (4 ∷ 5 ∷ []) (1 ∷ 1 ∷ []) (9 ∷ 0 ∷ []) ≡ refused 6 21 0
unfolding writing
positions_before_next_posting = refl

-- a position's length before the next one's order: not 19. Fails: all positions' order first
first_position_before_second : put (4 ∷ []) (9 ∷ []) (0x61 ∷ []) (1 ∷ []) (1 ∷ []) (4 ∷ []) (2 ∷ []) (9 ∷ 3 ∷ []) ≡ refused 6 21 0
unfolding writing
first_position_before_second = refl

-- ---- last 13: with room for nothing, what else is accepted is refused with the length needed

-- documents without terms: 72 and two bytes each. Fails: a sound asked for
documents_alone : put (0 ∷ 1 ∷ []) (0 ∷ 0 ∷ []) [] [] [] [] [] [] ≡ refused 13 1 76
unfolding writing
documents_alone = refl

-- a position below the length: 72, 32 for the entry, 1 for the name, 2 and 3. Fails: `<=` for `<` at a length
last_position : put (4 ∷ []) (9 ∷ []) (0x61 ∷ []) (1 ∷ []) (1 ∷ []) (4 ∷ []) (1 ∷ []) (8 ∷ []) ≡ refused 13 1 110
unfolding writing
last_position = refl

-- the first position of a posting may be below the last of the one before. Fails: the previous position kept
positions_start_anew : put (4 ∷ 5 ∷ []) (9 ∷ 9 ∷ []) (0x61 ∷ []) (1 ∷ []) (2 ∷ []) (4 ∷ 5 ∷ []) (1 ∷ 1 ∷ []) (8 ∷ 0 ∷ []) ≡ refused 13 1 115
unfolding writing
positions_start_anew = refl

-- the first posting of a term may be below the last of the one before. Fails: the previous id kept
postings_start_anew : put (4 ∷ 5 ∷ []) (9 ∷ 9 ∷ []) (0x61 ∷ 0x62 ∷ []) (1 ∷ 2 ∷ []) (1 ∷ 1 ∷ []) (5 ∷ 4 ∷ []) (1 ∷ 1 ∷ []) (8 ∷ 0 ∷ [])
    ≡ refused 13 1 148
unfolding writing
postings_start_anew = refl

-- a, then ab; a name of two bytes. Fails: an order by length last
beginning_before : put (4 ∷ []) (9 ∷ []) (0x61 ∷ 0x61 ∷ 0x62 ∷ []) (1 ∷ 3 ∷ []) (1 ∷ 1 ∷ []) (4 ∷ 4 ∷ []) (1 ∷ 1 ∷ []) (0 ∷ 0 ∷ [])
    ≡ refused 13 1 147
unfolding writing
beginning_before = refl

-- z, then C3 A9. Fails: signed bytes
unsigned_order : put (4 ∷ []) (9 ∷ []) (0x7A ∷ 0xC3 ∷ 0xA9 ∷ []) (1 ∷ 3 ∷ []) (1 ∷ 1 ∷ []) (4 ∷ 4 ∷ []) (1 ∷ 1 ∷ []) (0 ∷ 0 ∷ [])
    ≡ refused 13 1 147
unfolding writing
unsigned_order = refl
