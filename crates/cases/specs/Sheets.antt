-- Sheets of whole segments (document 02, wish 3): what they show, the order of refusals, the lent buffer. Not to be seen from outside, and
-- so in no case: 16 against 17 (an unknown bar has no length).
use Rattle.cases.specs.Digits.{refusal_of, refused}
use Rattle.std.specs.Prelude.{Err, Ok, ℕ, ◌≡◌, refl, List, [], ◌∷◌, ◌++◌, replicate}
use Rattle.crc32.specs.Crc32.{crc32_of}
use Rattle.calls.specs.Sheet.{sheet_into}
use Rattle.show_sheet.specs.Promise.{SheetAnswered}
use Rattle.cases.specs.Through.{sheet_lines}
use Rattle.cases.specs.Printed.{page}
use Rattle.cases.specs.Sealing.{sealed, entry}
use Rattle.cases.specs.Segments.{segment_of_two, segment_of_spread, segment_of_same_step, segment_of_high}
use Rattle.cases.specs.Faulty.{two_faults, wrong_checksum}

-- documents (0, 64), (1, 65), (2, 0), and one sound, a, with this list of so many postings
abbrev by_length : (df : ℕ) (list : List ℕ) → List ℕ
by_length df list =
    sealed 3 1 (entry 0 1 0 7 df (crc32_of list)) (0x61 ∷ []) (0x00 ∷ 0x40 ∷ 0x01 ∷ 0x41 ∷ 0x01 ∷ 0x00 ∷ []) list

-- a in 0 on 0 and 63, in 1 on 64
abbrev long_and_short : List ℕ
long_and_short = by_length 2 (0x00 ∷ 0x02 ∷ 0x00 ∷ 0x3F ∷ 0x01 ∷ 0x01 ∷ 0x40 ∷ [])

-- the second posting is bytes behind the first: 6 14 0
abbrev bytes_behind : List ℕ
bytes_behind = by_length 1 (0x00 ∷ 0x02 ∷ 0x00 ∷ 0x3F ∷ 0x01 ∷ 0x01 ∷ 0x40 ∷ [])

-- documents (0, 4), (1, 4); a in 0 on 3; b in 1 on 0, then a byte behind: 6 14 0
abbrev other_fault : List ℕ
other_fault =
    sealed 2 2 (entry 0 1 0 3 1 (crc32_of (0x00 ∷ 0x01 ∷ 0x03 ∷ [])) ++ entry 1 1 3 4 1 (crc32_of (0x01 ∷ 0x01 ∷ 0x00 ∷ 0x00 ∷ [])))
    (0x61 ∷ 0x62 ∷ []) (0x00 ∷ 0x04 ∷ 0x01 ∷ 0x04 ∷ []) (0x00 ∷ 0x01 ∷ 0x03 ∷ 0x01 ∷ 0x01 ∷ 0x00 ∷ 0x00 ∷ [])

-- document (3, 4); a and b over one list: in 3 on 2
abbrev one_list : List ℕ
one_list =
    sealed 1 2 (entry 0 1 0 3 1 (crc32_of (0x03 ∷ 0x01 ∷ 0x02 ∷ [])) ++ entry 1 1 0 3 1 (crc32_of (0x03 ∷ 0x01 ∷ 0x02 ∷ [])))
    (0x61 ∷ 0x62 ∷ []) (0x03 ∷ 0x04 ∷ []) (0x03 ∷ 0x01 ∷ 0x02 ∷ [])

-- document (0, 4); α, of two bytes, on 1
abbrev alpha : List ℕ
alpha =
    sealed 1 1 (entry 0 2 0 3 1 (crc32_of (0x00 ∷ 0x01 ∷ 0x01 ∷ [])))
    (0xCE ∷ 0xB1 ∷ []) (0x00 ∷ 0x04 ∷ []) (0x00 ∷ 0x01 ∷ 0x01 ∷ [])

-- ---- on paper

-- bar 3 of the two bars: 243 bytes, the last hit on the last step. Fails: a hit held back, lines without their line feed, a first line of
-- 20 characters, 13 while places suffice
bar_3 : sheet_into segment_of_two 3 243 ≡ Ok (page (
    "         3        16                                                            "
    ∷ "kick        o...o..........o                                                   3"
    ∷ "snare       ........o.....o.                                                   2"
    ∷ []))
unfolding sheet_lines
bar_3 = refl

-- bar 7, the second posting of each list; seven places more are unchanged. Fails: each list's first posting, the list's total for the bar's
-- hits, blanks behind the text
bar_7 : SheetAnswered segment_of_two 7 (replicate 250 0xAA) (Ok 243) (page (
    "         7        16                                                            "
    ∷ "kick        ..o.............                                                   1"
    ∷ "snare       ...oo...........                                                   2"
    ∷ []) ++ replicate 7 0xAA)
unfolding sheet_lines
bar_7 = record { reply = refl; left = refl }

-- b is no sound of bar 2. Fails: a line of full stops for b, or for a the count of 4 hits in all bars
bar_2 : sheet_into segment_of_spread 2 162 ≡ Ok (page (
    "         2         5                                                            "
    ∷ "a           ....o                                                              1"
    ∷ []))
unfolding sheet_lines
bar_2 = refl

-- bar 0; two sounds on one step. Fails: 0 for no bar, a step shown once
bar_0 : sheet_into segment_of_same_step 0 243 ≡ Ok (page (
    "         0         4                                                            "
    ∷ "a           ..o.                                                               1"
    ∷ "b           ..o.                                                               1"
    ∷ []))
unfolding sheet_lines
bar_0 = refl

-- 64 steps are on paper, a hit on the last of them too. Fails: `<` for `<=` at 64, 63 steps drawn
steps_64 : sheet_into long_and_short 0 162 ≡ Ok (page (
    "         0        64                                                            "
    ∷ "a           o..............................................................o   2"
    ∷ []))
unfolding sheet_lines
steps_64 = refl

-- no steps: the first line alone. Fails: a line for a, 16 for a bar without steps
no_steps : sheet_into long_and_short 2 81
    ≡ Ok (page ("         2         0                                                            " ∷ []))
unfolding sheet_lines
no_steps = refl

-- entries that share their list's bytes are two sounds, with a line each. Fails: each list drawn once
shared : sheet_into one_list 3 243 ≡ Ok (page (
    "         3         4                                                            "
    ∷ "a           ..o.                                                               1"
    ∷ "b           ..o.                                                               1"
    ∷ []))
unfolding sheet_lines
shared = refl

-- room is in bytes: 81 and 82. Fails: 162 places for 162 characters
greek : sheet_into alpha 0 163 ≡ Ok (page (
    "         0         4                                                            "
    ∷ "α           .o..                                                               1"
    ∷ []))
unfolding sheet_lines
greek = refl

-- Fails: 13 with 162, in characters
greek_short : sheet_into alpha 0 162 ≡ refused 13 1 163
unfolding sheet_lines
greek_short = refl

-- ---- 13: the whole sheet, or nothing

-- one place less than bar 3 takes. Fails: lines as far as they go, the places lent as index
bar_3_short : SheetAnswered segment_of_two 3 (replicate 242 0xAA) (Err (refusal_of 13 1 243))
    (replicate 242 0xAA)
unfolding sheet_lines
bar_3_short = record { reply = refl; left = refl }

-- no places. Fails: the first line's 81 as index
no_places : sheet_into segment_of_two 3 0 ≡ refused 13 1 243
unfolding sheet_lines
no_places = refl

-- the first line needs its room too. Fails: a bar without sounds needs none
first_line_short : sheet_into long_and_short 2 80 ≡ refused 13 1 81
unfolding sheet_lines
first_line_short = refl

-- ---- 16, an unknown bar

-- between two bars. Fails: the next bar, 7; the id as index
bar_4 : sheet_into segment_of_two 4 242 ≡ refused 16 0 0
unfolding sheet_lines
bar_4 = refl

-- behind the last. Fails: the last bar
bar_8 : sheet_into segment_of_two 8 242 ≡ refused 16 0 0
unfolding sheet_lines
bar_8 = refl

-- no bars at all. Fails: an empty sheet
no_bars : sheet_into (sealed 0 0 [] [] [] []) 0 242 ≡ refused 16 0 0
unfolding sheet_lines
no_bars = refl

-- after opening. Fails: 16
not_opened : sheet_into [] 4 242 ≡ refused 1 1 0
unfolding sheet_lines
not_opened = refl

-- before decoding: a's list has bytes behind. Fails: 6
unknown_first : sheet_into bytes_behind 3 242 ≡ refused 16 0 0
unfolding sheet_lines
unknown_first = refl

-- ---- 17, a bar longer than 64 steps

-- 65. Fails: 65 steps on 64 places, the length as index
steps_65 : sheet_into long_and_short 1 242 ≡ refused 17 0 0
unfolding sheet_lines
steps_65 = refl

-- 2^32 - 1. Fails: a length with a sign
steps_high : sheet_into segment_of_high 4294967295 242 ≡ refused 17 0 0
unfolding sheet_lines
steps_high = refl

-- only the asked bar's length counts: bar 9 has 300 steps, and bar 2 is on paper (`bar_2`). Fails: the first bar's length
steps_300 : sheet_into segment_of_spread 9 242 ≡ refused 17 0 0
unfolding sheet_lines
steps_300 = refl

-- before decoding: a's list has bytes behind. Fails: 6
too_long_first : sheet_into bytes_behind 1 242 ≡ refused 17 0 0
unfolding sheet_lines
too_long_first = refl

-- ---- every list is decoded

-- the bar has the sound, and bytes stand behind. Fails: decoding that stops at the bar
behind : sheet_into bytes_behind 0 242 ≡ refused 6 14 0
unfolding sheet_lines
behind = refl

-- a bar without steps, and before 13. Fails: the first line alone, 13
behind_no_steps : sheet_into bytes_behind 2 0 ≡ refused 6 14 0
unfolding sheet_lines
behind_no_steps = refl

-- bar 0 has no b, and b's list is refused, before 13 too; the buffer is unchanged. Fails: the bar's sounds alone decoded, 13, a's line
-- drawn before b's list is decoded
other_sound : (sheet_into other_fault 0 0 ≡ refused 6 14 0)
    × SheetAnswered other_fault 0 (replicate 200 0xAA) (Err (refusal_of 6 14 0)) (replicate 200 0xAA)
unfolding sheet_lines
other_sound = (refl, record { reply = refl; left = refl })

-- two lists that do not decode: a's 7 5 0, then b's 6 11 0. Fails: the last's
first_of_two : sheet_into two_faults 0 242 ≡ refused 7 5 0
unfolding sheet_lines
first_of_two = refl

-- the list's checksum. Fails: lists read without it
checksum : sheet_into wrong_checksum 0 242 ≡ refused 5 6 0
unfolding sheet_lines
checksum = refl
