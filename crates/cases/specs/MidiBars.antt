-- What the hits of a MIDI file are read into, and the nine lent buffers.
use Rattle.cases.specs.Digits.{refusal_of, refused}
use Rattle.std.specs.Prelude.{Err, Ok, ◌≡◌, refl, [], ◌∷◌, ◌++◌, map}
use Rattle.calls.specs.Given.{lists}
use Rattle.midi_bars.specs.Loudness.{beside}
use Rattle.cases.specs.Through.{importing}
use Rattle.cases.specs.MidiMade.{tune, end, taken, room, into, Answered, totals}
use Rattle.cases.specs.MidiFiles.{n036, n038, n042, groove, equal_hits}

-- ---- steps

-- division 96, ticks 23, 24 and 47: steps 0, 1 and 1. Fails: rounding up, to the nearest; rounded delta times added, which has 0 for all
rounded_down : taken (tune 96 (0x17 ∷ 0x90 ∷ 0x24 ∷ 0x64 ∷ 0x01 ∷ 0x26 ∷ 0x64 ∷ 0x17 ∷ 0x2A ∷ 0x64 ∷ end))
    ≡ Ok
    (lists (0 ∷ []) (16 ∷ []) (n036 ++ n038 ++ n042) (4 ∷ 8 ∷ 12 ∷ []) (1 ∷ 1 ∷ 1 ∷ []) (0 ∷ 0 ∷ 0 ∷ []) (1 ∷ 1 ∷ 1 ∷ [])
    (0 ∷ 1 ∷ 1 ∷ []))
unfolding importing
rounded_down = refl

-- division 4, steps 15, 16, 31, 32. Fails: a hit on a bar line into the bar before; the last hit lost; positions from 1
bar_lines : taken (tune 4 (0x0F ∷ 0x90 ∷ 0x24 ∷ 0x64 ∷ 0x01 ∷ 0x24 ∷ 0x64 ∷ 0x0F ∷ 0x24 ∷ 0x64 ∷ 0x01 ∷ 0x24 ∷ 0x64 ∷ end))
    ≡ Ok
    (lists (0 ∷ 1 ∷ 2 ∷ []) (16 ∷ 16 ∷ 16 ∷ []) n036 (4 ∷ []) (3 ∷ []) (0 ∷ 1 ∷ 2 ∷ []) (1 ∷ 2 ∷ 1 ∷ []) (15 ∷ 0 ∷ 15 ∷ 0 ∷ []))
unfolding importing
bar_lines = refl

-- the largest division: a step is 8,191 ticks; ticks 8,190 and 8,191. Fails: a quarter of the division rounded to 2^13
largest_division : taken (tune 32764 (0xBF ∷ 0x7E ∷ 0x90 ∷ 0x24 ∷ 0x64 ∷ 0x01 ∷ 0x24 ∷ 0x64 ∷ end))
    ≡ Ok (lists (0 ∷ []) (16 ∷ []) n036 (4 ∷ []) (1 ∷ []) (0 ∷ []) (2 ∷ []) (0 ∷ 1 ∷ []))
unfolding importing
largest_division = refl

-- ---- equal hits

-- division 8, ticks 0, 1 and 1: one step, two channels. Fails: equal hits kept twice, told apart by tick or channel
once : taken (tune 8 (0x00 ∷ 0x90 ∷ 0x24 ∷ 0x64 ∷ 0x01 ∷ 0x24 ∷ 0x20 ∷ 0x00 ∷ 0x99 ∷ 0x24 ∷ 0x01 ∷ end))
    ≡ Ok (lists (0 ∷ []) (16 ∷ []) n036 (4 ∷ []) (1 ∷ []) (0 ∷ []) (1 ∷ []) (0 ∷ []))
unfolding importing
once = refl

-- equal hits with another between. Fails: only neighbours compared
once_apart : taken (tune 4 (0x00 ∷ 0x90 ∷ 0x24 ∷ 0x64 ∷ 0x00 ∷ 0x26 ∷ 0x64 ∷ 0x00 ∷ 0x24 ∷ 0x64 ∷ end))
    ≡ Ok (lists (0 ∷ []) (16 ∷ []) (n036 ++ n038) (4 ∷ 8 ∷ []) (1 ∷ 1 ∷ []) (0 ∷ 0 ∷ []) (1 ∷ 1 ∷ []) (0 ∷ 0 ∷ []))
unfolding importing
once_apart = refl

-- one position in two bars counts in both. Fails: a sound's positions gathered over all bars
in_each_bar : taken (tune 4 (0x02 ∷ 0x90 ∷ 0x24 ∷ 0x64 ∷ 0x10 ∷ 0x24 ∷ 0x64 ∷ end))
    ≡ Ok (lists (0 ∷ 1 ∷ []) (16 ∷ 16 ∷ []) n036 (4 ∷ []) (2 ∷ []) (0 ∷ 1 ∷ []) (1 ∷ 1 ∷ []) (2 ∷ 2 ∷ []))
unfolding importing
in_each_bar = refl

-- ---- sounds

-- 42, 36, 42. Fails: sounds in file order, a sound named again
by_note : taken (tune 4 (0x00 ∷ 0x90 ∷ 0x2A ∷ 0x64 ∷ 0x04 ∷ 0x24 ∷ 0x64 ∷ 0x04 ∷ 0x2A ∷ 0x64 ∷ end))
    ≡ Ok (lists (0 ∷ []) (16 ∷ []) (n036 ++ n042) (4 ∷ 8 ∷ []) (1 ∷ 1 ∷ []) (0 ∷ 0 ∷ []) (1 ∷ 2 ∷ []) (4 ∷ 0 ∷ 8 ∷ []))
unfolding importing
by_note = refl

-- notes 127, 100, 99, 10, 9, 0: n000 n009 n010 n099 n100 n127. Fails: zeros left out, hexadecimal digits, notes from 1
names :
    taken
    (tune 4
    (0x00 ∷ 0x90 ∷ 0x7F ∷ 0x01 ∷ 0x00 ∷ 0x64 ∷ 0x01 ∷ 0x00 ∷ 0x63 ∷ 0x01 ∷ 0x00 ∷ 0x0A ∷ 0x01 ∷ 0x00 ∷ 0x09 ∷ 0x01 ∷ 0x00 ∷ 0x00 ∷ 0x01
    ∷ end))
    ≡ Ok
    (lists (0 ∷ []) (16 ∷ [])
    (0x6E ∷ 0x30 ∷ 0x30 ∷ 0x30 ∷ 0x6E ∷ 0x30 ∷ 0x30 ∷ 0x39 ∷ 0x6E ∷ 0x30 ∷ 0x31 ∷ 0x30 ∷ 0x6E ∷ 0x30 ∷ 0x39 ∷ 0x39 ∷ 0x6E ∷ 0x31 ∷ 0x30
    ∷ 0x30 ∷ 0x6E ∷ 0x31 ∷ 0x32 ∷ 0x37 ∷ [])
    (4 ∷ 8 ∷ 12 ∷ 16 ∷ 20 ∷ 24 ∷ []) (1 ∷ 1 ∷ 1 ∷ 1 ∷ 1 ∷ 1 ∷ []) (0 ∷ 0 ∷ 0 ∷ 0 ∷ 0 ∷ 0 ∷ []) (1 ∷ 1 ∷ 1 ∷ 1 ∷ 1 ∷ 1 ∷ [])
    (0 ∷ 0 ∷ 0 ∷ 0 ∷ 0 ∷ 0 ∷ []))
unfolding importing
names = refl

-- ---- bars

-- a hit in bar 2 alone. Fails: bars from the first with a hit, only bars with hits
from_bar_0 : taken (tune 4 (0x20 ∷ 0x90 ∷ 0x24 ∷ 0x64 ∷ end))
    ≡ Ok (lists (0 ∷ 1 ∷ 2 ∷ []) (16 ∷ 16 ∷ 16 ∷ []) n036 (4 ∷ []) (1 ∷ []) (2 ∷ []) (1 ∷ []) (0 ∷ []))
unfolding importing
from_bar_0 = refl

-- a note-off in bar 2, the end in bar 4. Fails: bars up to the last event, to the track's end
to_the_last_hit : taken (tune 4 (0x00 ∷ 0x90 ∷ 0x24 ∷ 0x64 ∷ 0x20 ∷ 0x24 ∷ 0x00 ∷ 0x20 ∷ 0xFF ∷ 0x2F ∷ 0x00 ∷ []))
    ≡ Ok (lists (0 ∷ []) (16 ∷ []) n036 (4 ∷ []) (1 ∷ []) (0 ∷ []) (1 ∷ []) (0 ∷ []))
unfolding importing
to_the_last_hit = refl

-- hits of no sound that is kept: velocity 0 alone, in bar 2. Fails: a sound without postings, which the writer refuses
silence : taken (tune 4 (0x20 ∷ 0x90 ∷ 0x24 ∷ 0x00 ∷ end)) ≡ Ok (lists [] [] [] [] [] [] [] [])
unfolding importing
silence = refl

-- ---- 13, last: bar ids, lengths, name text, ends, postings per sound, posting ids, position counts, positions, velocities

-- in this order: each one place short, with no place in those behind it. Fails: another order, the sum of what is missing
short_in_order :
    map (λ r. into r groove)
    (room 1 0 0 0 0 0 0 0 0 ∷ room 2 1 0 0 0 0 0 0 0 ∷ room 2 2 11 0 0 0 0 0 0 ∷ room 2 2 12 2 0 0 0 0 0 ∷ room 2 2 12 3 2 0 0 0 0
    ∷ room 2 2 12 3 3 3 0 0 0 ∷ room 2 2 12 3 3 4 3 0 0 ∷ room 2 2 12 3 3 4 4 5 0 ∷ room 2 2 12 3 3 4 4 6 5 ∷ [])
    ≡ refused 13 1 2 ∷ refused 13 2 2 ∷ refused 13 3 12 ∷ refused 13 4 3 ∷ refused 13 5 3 ∷ refused 13 6 4 ∷ refused 13 7 4 ∷ refused 13 8 6
    ∷ refused 13 9 6 ∷ []
unfolding importing
short_in_order = refl

-- one alone is short, and the others are long. Fails: a buffer not tested
one_short :
    map (λ r. into r equal_hits)
    (room 2 9 9 9 9 9 9 9 9 ∷ room 9 2 9 9 9 9 9 9 9 ∷ room 9 9 7 9 9 9 9 9 9 ∷ room 9 9 9 1 9 9 9 9 9 ∷ room 9 9 9 9 1 9 9 9 9
    ∷ room 9 9 9 9 9 2 9 9 9 ∷ room 9 9 9 9 9 9 2 9 9 ∷ room 9 9 9 9 9 9 9 2 9 ∷ room 9 9 9 9 9 9 9 9 2 ∷ [])
    ≡ refused 13 1 3 ∷ refused 13 2 3 ∷ refused 13 3 8 ∷ refused 13 4 2 ∷ refused 13 5 2 ∷ refused 13 6 3 ∷ refused 13 7 3 ∷ refused 13 8 3
    ∷ refused 13 9 3 ∷ []
unfolding importing
one_short = refl

-- the whole length needed of equal hits is one. Fails: a place for each hit
short_of_one :
    map (λ r. into r (tune 4 (0x00 ∷ 0x90 ∷ 0x24 ∷ 0x64 ∷ 0x00 ∷ 0x24 ∷ 0x64 ∷ end)))
    (room 1 1 4 1 1 1 1 0 1 ∷ room 1 1 4 1 1 1 1 1 0 ∷ [])
    ≡ refused 13 8 1 ∷ refused 13 9 1 ∷ []
unfolding importing
short_of_one = refl

-- ---- the buffers afterwards

-- the lists in front, and what stood behind. Fails: a tail cleared, lists at the ends
tails_kept : Answered equal_hits (room 4 3 9 3 2 4 3 5 3) (totals 3 2 3 3)
    (beside (lists (0 ∷ 1 ∷ 2 ∷ 90 ∷ []) (16 ∷ 16 ∷ 16 ∷ []) (n036 ++ n038 ++ 92 ∷ []) (4 ∷ 8 ∷ 93 ∷ []) (1 ∷ 2 ∷ []) (0 ∷ 0 ∷ 2 ∷ 95 ∷ [])
    (1 ∷ 1 ∷ 1 ∷ []) (0 ∷ 0 ∷ 3 ∷ 97 ∷ 97 ∷ [])) (64 ∷ 80 ∷ 1 ∷ []))
unfolding importing
tails_kept = record { reply = refl; left = refl }

-- the other five tails. Fails: a tail cleared
other_tails_kept : Answered equal_hits (room 3 5 8 2 3 3 4 3 5) (totals 3 2 3 3)
    (beside (lists (0 ∷ 1 ∷ 2 ∷ []) (16 ∷ 16 ∷ 16 ∷ 91 ∷ 91 ∷ []) (n036 ++ n038) (4 ∷ 8 ∷ []) (1 ∷ 2 ∷ 94 ∷ []) (0 ∷ 0 ∷ 2 ∷ [])
    (1 ∷ 1 ∷ 1 ∷ 96 ∷ []) (0 ∷ 0 ∷ 3 ∷ [])) (64 ∷ 80 ∷ 1 ∷ 98 ∷ 98 ∷ []))
unfolding importing
other_tails_kept = record { reply = refl; left = refl }

-- a refusal leaves all nine: 13 of the last. Fails: the first eight filled
left_by_13 : Answered groove (room 2 2 12 3 3 4 4 6 5) (Err (refusal_of 13 9 6))
    (room 2 2 12 3 3 4 4 6 5)
unfolding importing
left_by_13 = record { reply = refl; left = refl }

-- 14 of the last byte, with room for all. Fails: hits stored as they are read
left_by_14 : Answered (tune 4 (0x00 ∷ 0x90 ∷ 0x24 ∷ 0x64 ∷ end ++ 0x00 ∷ [])) (room 9 9 9 9 9 9 9 9 9)
    (Err (refusal_of 14 0 30)) (room 9 9 9 9 9 9 9 9 9)
unfolding importing
left_by_14 = record { reply = refl; left = refl }

-- 15 of the last hit. Fails: the first hit's bar made
left_by_15 : Answered (tune 4 (0x00 ∷ 0x90 ∷ 0x24 ∷ 0x64 ∷ 0xC0 ∷ 0x80 ∷ 0x00 ∷ 0x24 ∷ 0x64 ∷ end)) (room 9 9 9 9 9 9 9 9 9)
    (Err (refusal_of 15 0 0)) (room 9 9 9 9 9 9 9 9 9)
unfolding importing
left_by_15 = record { reply = refl; left = refl }
