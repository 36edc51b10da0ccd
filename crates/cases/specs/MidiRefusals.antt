-- MIDI files refused before their first event, in document 02's order: 12; 14 with index 0 for the header; 14 with index 14 for the
-- track's heading. No place is lent, so that each is seen to come before 13; and where a file has two faults, the first of them stands.
use Rattle.std.specs.Prelude.{Ok, ℕ, ◌≡◌, refl, List, [], ◌∷◌, ◌++◌, map, length, replicate, take, set}
use Rattle.segment.specs.Results.{Answer}
use Rattle.midi_bars.specs.Loudness.{AllLists}
use Rattle.midi_read.specs.Files.{chunks}
use Rattle.cases.specs.Through.{heading_read, importing}
use Rattle.cases.specs.Digits.{refused}
use Rattle.cases.specs.MidiMade.{header, heading, tune, end, no_lists, put}

-- a file without hits that is read: 26 bytes
abbrev fine : List ℕ
fine = tune 96 end

fine_read : put fine ≡ Ok no_lists
unfolding importing
fine_read = refl

-- ---- 12; a case is of whatever bytes are so many

-- 16,777,216 bytes go on to the header, here a wrong one; one more is 12. Fails: the header first, a limit of one less
long_file : (xs : List ℕ)
    → (length xs ≡ 16777215 → put (0x4E ∷ xs) ≡ refused 14 0 0) × (length xs ≡ 16777216 → put (0x4E ∷ xs) ≡ refused 12 0 0)
unfolding heading_read
long_file xs = (λ n. rw n refl, λ n. rw n refl)

-- the longest track, of 16,777,194 bytes, is read from its first event on; 24 ticks to a step. Fails: a heading's length of 16 bits
long_track : (xs : List ℕ)
    → length xs ≡ 16777194
    → chunks 16 4 (header 96 ++ 0x4D ∷ 0x54 ∷ 0x72 ∷ 0x6B ∷ 0x00 ∷ 0xFF ∷ 0xFF ∷ 0xEA ∷ xs) ≡ Ok (record { ticks = 24; steps = 16 })
unfolding heading_read
long_track xs n = rw n refl

-- ---- the header, 14 bytes: index 0

-- no bytes at all. Fails: no bars
nothing : put [] ≡ refused 14 0 0
unfolding importing
nothing = refl

-- 13 bytes of it, to the first of 04 00, the division. Fails: a division of one byte, 14 0 14
header_cut : put (take 13 (tune 1024 end)) ≡ refused 14 0 0
unfolding importing
header_cut = refl

-- each of the first twelve bytes: magic, length, format, tracks. Fails: one of them not looked at
header_bytes : map (λ i. put (set fine i 0x09)) (0 ∷ 1 ∷ 2 ∷ 3 ∷ 4 ∷ 5 ∷ 6 ∷ 7 ∷ 8 ∷ 9 ∷ 10 ∷ 11 ∷ []) ≡ replicate 12 (refused 14 0 0)
unfolding importing
header_bytes = refl

-- a header of 7 bytes, with a seventh. Fails: a longer header skipped
header_longer :
    put
    (0x4D ∷ 0x54 ∷ 0x68 ∷ 0x64 ∷ 0x00 ∷ 0x00 ∷ 0x00 ∷ 0x07 ∷ 0x00 ∷ 0x00 ∷ 0x00 ∷ 0x01 ∷ 0x00 ∷ 0x60 ∷ 0x00 ∷ heading 4 ++ end)
    ≡ refused 14 0 0
unfolding importing
header_longer = refl

-- format 1, of one track. Fails: any format of one track
format_1 : put (set fine 9 0x01) ≡ refused 14 0 0
unfolding importing
format_1 = refl

-- no track, and two. Fails: at least one
tracks_0 : put (set fine 11 0x00) ≡ refused 14 0 0
unfolding importing
tracks_0 = refl

tracks_2 : put (set fine 11 0x02) ≡ refused 14 0 0
unfolding importing
tracks_2 = refl

-- ---- the division: 4 to 32,764, a multiple of 4

abbrev divided : (division : ℕ) → Answer AllLists
divided division = put (tune division end)

-- Fails: 0 taken, with which a step has no ticks; numbers that are no multiple of 4 rounded; 32,767 as the largest
divisions_refused : map divided (0 ∷ 1 ∷ 2 ∷ 3 ∷ 5 ∷ 6 ∷ 7 ∷ 98 ∷ 481 ∷ 32765 ∷ 32766 ∷ 32767 ∷ []) ≡ replicate 12 (refused 14 0 0)
unfolding importing
divisions_refused = refl

-- bit 15 set: frames, though each is a multiple of 4. Fails: the lower 15 bits taken
frames_refused : map divided (32768 ∷ 32772 ∷ 59176 ∷ 65532 ∷ []) ≡ replicate 4 (refused 14 0 0)
unfolding importing
frames_refused = refl

-- Fails: both ends refused, little-endian
divisions_taken : map divided (4 ∷ 8 ∷ 96 ∷ 480 ∷ 1024 ∷ 32764 ∷ []) ≡ replicate 6 (Ok no_lists)
unfolding importing
divisions_taken = refl

-- ---- the header before the heading

-- no format 0, and no heading. Fails: 14 0 14
header_before_heading : put (take 14 (set fine 9 0x01)) ≡ refused 14 0 0
unfolding importing
header_before_heading = refl

-- a division of 2, and a wrong heading. Fails: the division looked at when it is needed
division_before_heading : put (header 2 ++ heading 3 ++ end) ≡ refused 14 0 0
unfolding importing
division_before_heading = refl

-- ---- the track's heading, 8 bytes: index 14

-- the header alone, and 7 bytes more. Fails: no track, no bars; the file's end, 21
heading_missing : put (take 14 fine) ≡ refused 14 0 14
unfolding importing
heading_missing = refl

heading_cut : put (take 21 fine) ≡ refused 14 0 14
unfolding importing
heading_cut = refl

-- each of its eight bytes. Fails: one of them not looked at
heading_bytes : map (λ i. put (set fine i 0x09)) (14 ∷ 15 ∷ 16 ∷ 17 ∷ 18 ∷ 19 ∷ 20 ∷ 21 ∷ []) ≡ replicate 8 (refused 14 0 14)
unfolding importing
heading_bytes = refl

-- another chunk before the track. Fails: unknown chunks skipped
other_chunk_before : put (header 96 ++ 0x4D ∷ 0x54 ∷ 0x72 ∷ 0x65 ∷ 0x00 ∷ 0x00 ∷ 0x00 ∷ 0x00 ∷ heading 4 ++ end) ≡ refused 14 0 14
unfolding importing
other_chunk_before = refl

-- a length one less than the rest of the file, and one more. Fails: a byte after the end, 14 0 26; `<=`
length_less : put (header 96 ++ heading 4 ++ end ++ 0x00 ∷ []) ≡ refused 14 0 14
unfolding importing
length_less = refl

length_more : put (header 96 ++ heading 5 ++ end) ≡ refused 14 0 14
unfolding importing
length_more = refl

-- another chunk behind the track. Fails: other chunks left unread
other_chunk_behind : put (header 96 ++ heading 4 ++ end ++ heading 0) ≡ refused 14 0 14
unfolding importing
other_chunk_behind = refl

-- a length of two bytes: a text of 256 bytes, and 5 and 4 bytes around it. Fails: little-endian, one byte
length_256 : put (header 96 ++ heading 0x0109 ++ 0x00 ∷ 0xFF ∷ 0x01 ∷ 0x82 ∷ 0x00 ∷ replicate 256 0x41 ++ end)
    ≡ Ok no_lists
unfolding importing
length_256 = refl

-- ---- the heading before every event

-- the first event is none. Fails: 14 0 22
heading_before_event : put (header 96 ++ heading 3 ++ 0x00 ∷ 0xF1 ∷ []) ≡ refused 14 0 14
unfolding importing
heading_before_event = refl

-- a hit too far. Fails: 15
heading_before_hit : put (header 4 ++ heading 9 ++ 0xC0 ∷ 0x80 ∷ 0x00 ∷ 0x90 ∷ 0x24 ∷ 0x64 ∷ end) ≡ refused 14 0 14
unfolding importing
heading_before_hit = refl

-- a heading of length 0 at the file's end is right: then the end of the track is missing. Fails: 14 0 14
empty_track : put (header 96 ++ heading 0) ≡ refused 14 0 22
unfolding importing
empty_track = refl
