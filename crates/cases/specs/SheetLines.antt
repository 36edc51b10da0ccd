-- Lines of a sheet (document 02, wish 3): the first line, names, steps, number of hits, and which sounds have a line.
use Rattle.std.specs.Prelude.{ℕ, zero, suc, ◌≡◌, refl, List, [], ◌∷◌, ◌++◌}
use Prim.Native.String.{String}
use Rattle.segment.specs.Records.{Posting, Term}
use Rattle.calls.specs.Listing.{column}
use Rattle.calls.specs.Sheet.{right_justified, mark, marks, heading, sound_line, sheet}
use Rattle.cases.specs.Through.{sheet_lines}
use Rattle.cases.specs.Printed.{printed, page}
use Rattle.cases.specs.Sealing.{posting}

abbrev sound : (name : String) (postings : List Posting) → Term
sound name postings = record { name = printed name; postings = postings }

-- so many steps, one after the other
abbrev each_from : (many from : ℕ) → List ℕ
each_from zero from = []
each_from (suc n) from = from ∷ each_from n (suc from)

-- a line of a bar of 4 steps with a hit on the first
abbrev named : (name : List ℕ) → List ℕ
named name = sound_line 4 name (0 ∷ [])

-- ---- the first line: id and length in 10 columns each, then blanks

-- Fails: length before id, columns of another width, numbers to the left
first_line : heading 12 7 ≡ page ("        12         7                                                            " ∷ [])
unfolding sheet_lines
first_line = refl

-- an id of ten digits fills its columns. Fails: cut, a space more
wide_id : heading 4294967295 64 ≡ page ("4294967295        64                                                            " ∷ [])
unfolding sheet_lines
wide_id = refl

-- ---- steps

-- a hit, another step of the bar, a step past its length: steps count from 0, and the step at the length is past it. Fails: steps from 1,
-- `<=` for `<` at the length
three_marks : marks 3 (1 ∷ []) 5 0 ≡ printed ".o.  "
unfolding sheet_lines
three_marks = refl

-- the last hit, on the bar's last step. Fails: the last hit held back
last_hit : marks 3 (0 ∷ 2 ∷ []) 5 0 ≡ printed "o.o  "
unfolding sheet_lines
last_hit = refl

-- o, a full stop, a space, by their numbers. Fails: O, 0, a middle dot
three_signs : mark 2 (0 ∷ []) 0 ∷ mark 2 (0 ∷ []) 1 ∷ mark 2 (0 ∷ []) 2 ∷ [] ≡ 111 ∷ 46 ∷ 32 ∷ []
unfolding sheet_lines
three_signs = refl

-- one step, and blanks to the number. Fails: no blanks past the length, a number right behind the bar
one_step : sound_line 1 (printed "kick") (0 ∷ [])
    ≡ page ("kick        o                                                                  1" ∷ [])
unfolding sheet_lines
one_step = refl

-- 63 steps: one blank. Fails: 64 full stops whatever the length
steps_63 : sound_line 63 (printed "kick") (62 ∷ [])
    ≡ page ("kick        ..............................................................o    1" ∷ [])
unfolding sheet_lines
steps_63 = refl

-- 64 steps, a hit on step 63 alone. Fails: 63 steps, steps counted from 1
steps_64 : sound_line 64 (printed "kick") (63 ∷ [])
    ≡ page ("kick        ...............................................................o   1" ∷ [])
unfolding sheet_lines
steps_64 = refl

-- a hit on every step. Fails: a hit lost at 32 or 64, the number cut
every_step : sound_line 64 (printed "kick") (each_from 64 0)
    ≡ page ("kick        oooooooooooooooooooooooooooooooooooooooooooooooooooooooooooooooo  64" ∷ [])
unfolding sheet_lines
every_step = refl

-- ---- the number of hits, right-justified in 4 columns

-- 9, 10, 64. Fails: to the left, zeros in front, 10 columns as in the listing
counts : right_justified 4 9 ++ right_justified 4 10 ++ right_justified 4 64 ≡ printed "   9  10  64"
unfolding sheet_lines
counts = refl

-- the listing's columns are such columns of 10. Fails: two ways to stand to the right
columns : (n : ℕ) → right_justified 10 n ≡ column n
unfolding sheet_lines
columns n = refl

-- ten hits in this bar, two in another. Fails: 12, all the list's; 2, its postings
ten_hits : sheet 3 16 (sound "kick" (posting 3 (each_from 10 2) ∷ posting 7 (0 ∷ 1 ∷ []) ∷ []) ∷ []) ≡ page (
    "         3        16                                                            "
    ∷ "kick        ..oooooooooo....                                                  10"
    ∷ [])
unfolding sheet_lines
ten_hits = refl

-- ---- which sounds, and in which order

-- no sounds: the first line. Fails: an empty sheet
no_sounds : sheet 9 16 [] ≡ page ("         9        16                                                            " ∷ [])
unfolding sheet_lines
no_sounds = refl

-- kick has no hit in bar 7, and no line. Fails: a line of full stops with 0, bar 3's hits
no_line : sheet 7 4 (sound "kick" (posting 3 (0 ∷ []) ∷ []) ∷ sound "snare" (posting 3 (1 ∷ []) ∷ posting 7 (2 ∷ []) ∷ []) ∷ []) ≡ page (
    "         7         4                                                            "
    ∷ "snare       ..o.                                                               1"
    ∷ [])
unfolding sheet_lines
no_line = refl

-- the directory's order. Fails: by the first hit, by the number of hits
order : sheet 3 4 (sound "a" (posting 3 (3 ∷ []) ∷ []) ∷ sound "b" (posting 3 (0 ∷ 1 ∷ []) ∷ []) ∷ []) ≡ page (
    "         3         4                                                            "
    ∷ "a           ...o                                                               1"
    ∷ "b           oo..                                                               2"
    ∷ [])
unfolding sheet_lines
order = refl

-- the same hits under two names. Fails: equal lists drawn once
alike : sheet 3 4 (sound "a" (posting 3 (2 ∷ []) ∷ []) ∷ sound "b" (posting 3 (2 ∷ []) ∷ []) ∷ []) ≡ page (
    "         3         4                                                            "
    ∷ "a           ..o.                                                               1"
    ∷ "b           ..o.                                                               1"
    ∷ [])
unfolding sheet_lines
alike = refl

-- ---- names, cut or padded to 12 characters

-- 11 characters, and a space. Fails: no space between name and steps where the name is shorter
letters_11 : named (printed "abcdefghijk")
    ≡ page ("abcdefghijk o...                                                               1" ∷ [])
unfolding sheet_lines
letters_11 = refl

-- 12. Fails: a space between name and steps
letters_12 : named (printed "abcdefghijkl")
    ≡ page ("abcdefghijklo...                                                               1" ∷ [])
unfolding sheet_lines
letters_12 = refl

-- 13, cut. Fails: a line of 81 characters, 16 places as in the listing
letters_13 : named (printed "abcdefghijklm")
    ≡ page ("abcdefghijklo...                                                               1" ∷ [])
unfolding sheet_lines
letters_13 = refl

-- α and β, two bytes each, have ten spaces after them. Fails: padded in bytes, with eight
greek_2 : named (0xCE ∷ 0xB1 ∷ 0xCE ∷ 0xB2 ∷ [])
    ≡ 0xCE ∷ 0xB1 ∷ 0xCE ∷ 0xB2 ∷ page ("          o...                                                               1" ∷ [])
unfolding sheet_lines
greek_2 = refl

-- 13 letters of two bytes. Fails: cut at 12 bytes, which is six letters
greek_13 : named (printed "αβγδεζηθικλμν")
    ≡ page ("αβγδεζηθικλμo...                                                               1" ∷ [])
unfolding sheet_lines
greek_13 = refl

-- e and the mark U+0301, U+00E9, U+9F13, U+1F941, then eight letters: 13 characters. Fails: a letter with its mark as one, a cut inside a
-- letter
mixed : named (0x65 ∷ 0xCC ∷ 0x81 ∷ 0xC3 ∷ 0xA9 ∷ 0xE9 ∷ 0xBC ∷ 0x93 ∷ 0xF0 ∷ 0x9F ∷ 0xA5 ∷ 0x81 ∷ printed "bcdefghi")
    ≡ 0x65 ∷ 0xCC ∷ 0x81 ∷ 0xC3 ∷ 0xA9 ∷ 0xE9 ∷ 0xBC ∷ 0x93 ∷ 0xF0 ∷ 0x9F ∷ 0xA5 ∷ 0x81
    ∷ page ("bcdefgho...                                                               1" ∷ [])
unfolding sheet_lines
mixed = refl

-- characters below 32 and 127 print as ?, a line feed too; 32, 126 and 128 (two bytes) as they are. Fails: a bound off by one, a line that
-- is two
control : named (0x1F ∷ 0x20 ∷ 0x7E ∷ 0x7F ∷ 0xC2 ∷ 0x80 ∷ 0x00 ∷ 0x0A ∷ [])
    ≡ page ("? ~?\u{80}??     o...                                                               1" ∷ [])
unfolding sheet_lines
control = refl

-- spaces of its own. Fails: names trimmed
own_spaces : named (printed " a ")
    ≡ page (" a          o...                                                               1" ∷ [])
unfolding sheet_lines
own_spaces = refl
