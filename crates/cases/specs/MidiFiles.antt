-- MIDI files worked out by hand, byte by byte, and what they are read into.
use Rattle.std.specs.Prelude.{Ok, ℕ, ◌≡◌, refl, List, [], ◌∷◌, ◌++◌}
use Rattle.calls.specs.Given.{Lists, lists}
use Rattle.midi_bars.specs.Loudness.{beside}
use Rattle.cases.specs.Through.{importing}
use Rattle.cases.specs.Digits.{refused}
use Rattle.cases.specs.MidiMade.{taken, room, no_lists, into, Answered, totals, put}

-- the bytes of the names
abbrev pub n036 : List ℕ
n036 = 0x6E ∷ 0x30 ∷ 0x33 ∷ 0x36 ∷ []

abbrev pub n038 : List ℕ
n038 = 0x6E ∷ 0x30 ∷ 0x33 ∷ 0x38 ∷ []

abbrev pub n042 : List ℕ
n042 = 0x6E ∷ 0x30 ∷ 0x34 ∷ 0x32 ∷ []

-- ---- running status, the last step of a bar, and the next bar

-- division 96: a step is 24 ticks, a bar 384
abbrev pub groove : List ℕ
groove =
    0x4D ∷ 0x54 ∷ 0x68 ∷ 0x64 ∷ 0x00 ∷ 0x00 ∷ 0x00 ∷ 0x06 ∷ 0x00 ∷ 0x00 ∷ 0x00 ∷ 0x01 ∷ 0x00 ∷ 0x60  -- header
    ∷ 0x4D ∷ 0x54 ∷ 0x72 ∷ 0x6B ∷ 0x00 ∷ 0x00 ∷ 0x00 ∷ 0x22  -- heading
    ∷ 0x00 ∷ 0xFF ∷ 0x51 ∷ 0x03 ∷ 0x07 ∷ 0xA1 ∷ 0x20  -- tick 0: tempo, skipped
    ∷ 0x00 ∷ 0x99 ∷ 0x24 ∷ 0x64  -- tick 0: n036, step 0
    ∷ 0x30 ∷ 0x2A ∷ 0x50  -- tick 48: running status, n042, step 2
    ∷ 0x00 ∷ 0x24 ∷ 0x00  -- tick 48: velocity 0, no hit
    ∷ 0x30 ∷ 0x26 ∷ 0x6E  -- tick 96: n038, step 4
    ∷ 0x81 ∷ 0x70 ∷ 0x24 ∷ 0x5A  -- tick 336: n036, step 14
    ∷ 0x2F ∷ 0x26 ∷ 0x28  -- tick 383, the last of bar 0: n038, step 15
    ∷ 0x01 ∷ 0x24 ∷ 0x7F  -- tick 384: n036, bar 1, step 0
    ∷ 0x00 ∷ 0xFF ∷ 0x2F ∷ 0x00  -- end
    ∷ []

abbrev pub groove_lists : Lists
groove_lists =
    lists (0 ∷ 1 ∷ []) (16 ∷ 16 ∷ []) (n036 ++ n038 ++ n042) (4 ∷ 8 ∷ 12 ∷ []) (2 ∷ 1 ∷ 1 ∷ []) (0 ∷ 1 ∷ 0 ∷ 0 ∷ [])
    (2 ∷ 1 ∷ 2 ∷ 1 ∷ []) (0 ∷ 14 ∷ 0 ∷ 4 ∷ 15 ∷ 2 ∷ [])

-- Fails: velocity 0 counted, which has n036 on step 2; the last hit lost; tick 384 into bar 0; tick 383 rounded up
groove_taken : taken groove ≡ Ok groove_lists
unfolding importing
groove_taken = refl

-- bars, sounds, postings, positions, with every buffer exactly full. Fails: hits for positions, 13 while places suffice; velocities in
-- file order, 100 80 110 90 40 127
groove_answered : Answered groove (room 2 2 12 3 3 4 4 6 6) (totals 2 3 4 6)
    (beside groove_lists (100 ∷ 90 ∷ 127 ∷ 110 ∷ 40 ∷ 80 ∷ []))
unfolding importing
groove_answered = record { reply = refl; left = refl }

-- one posting count short. Fails: index the room, which buffer from 0
groove_short : into (room 2 2 12 3 2 4 4 6 6) groove ≡ refused 13 5 3
unfolding importing
groove_short = refl

-- ---- equal hits on one step, and a bar without hits

-- division 4: a tick is a step
abbrev pub equal_hits : List ℕ
equal_hits =
    0x4D ∷ 0x54 ∷ 0x68 ∷ 0x64 ∷ 0x00 ∷ 0x00 ∷ 0x00 ∷ 0x06 ∷ 0x00 ∷ 0x00 ∷ 0x00 ∷ 0x01 ∷ 0x00 ∷ 0x04  -- header
    ∷ 0x4D ∷ 0x54 ∷ 0x72 ∷ 0x6B ∷ 0x00 ∷ 0x00 ∷ 0x00 ∷ 0x1B  -- heading
    ∷ 0x00 ∷ 0xF0 ∷ 0x03 ∷ 0x7E ∷ 0x09 ∷ 0xF7  -- tick 0: exclusive, skipped
    ∷ 0x00 ∷ 0x90 ∷ 0x26 ∷ 0x14  -- tick 0: n038
    ∷ 0x00 ∷ 0x99 ∷ 0x26 ∷ 0x50  -- tick 0: n038, on another channel
    ∷ 0x00 ∷ 0x26 ∷ 0x32  -- tick 0: n038 again
    ∷ 0x00 ∷ 0x24 ∷ 0x40  -- tick 0: n036
    ∷ 0x23 ∷ 0x26 ∷ 0x01  -- tick 35: n038, bar 2, step 3
    ∷ 0x00 ∷ 0xFF ∷ 0x2F ∷ 0x00  -- end
    ∷ []

abbrev pub equal_hits_lists : Lists
equal_hits_lists =
    lists (0 ∷ 1 ∷ 2 ∷ []) (16 ∷ 16 ∷ 16 ∷ []) (n036 ++ n038) (4 ∷ 8 ∷ []) (1 ∷ 2 ∷ []) (0 ∷ 0 ∷ 2 ∷ []) (1 ∷ 1 ∷ 1 ∷ []) (0 ∷ 0 ∷ 3 ∷ [])

-- Fails: equal hits kept twice; a sound for each channel; bar 1 left out; sounds in file order
equal_hits_taken : taken equal_hits ≡ Ok equal_hits_lists
unfolding importing
equal_hits_taken = refl

-- n038 on step 0 with 20, 80 and 50. Fails: hits counted, five; the first of them kept, the last, the quietest, their sum
equal_hits_answered : Answered equal_hits (room 3 3 8 2 2 3 3 3 3) (totals 3 2 3 3) (beside equal_hits_lists (64 ∷ 80 ∷ 1 ∷ []))
unfolding importing
equal_hits_answered = record { reply = refl; left = refl }

-- ---- a data byte after a meta event

abbrev after_meta : List ℕ
after_meta =
    0x4D ∷ 0x54 ∷ 0x68 ∷ 0x64 ∷ 0x00 ∷ 0x00 ∷ 0x00 ∷ 0x06 ∷ 0x00 ∷ 0x00 ∷ 0x00 ∷ 0x01 ∷ 0x00 ∷ 0x60  -- header
    ∷ 0x4D ∷ 0x54 ∷ 0x72 ∷ 0x6B ∷ 0x00 ∷ 0x00 ∷ 0x00 ∷ 0x10  -- heading
    ∷ 0x00 ∷ 0x90 ∷ 0x24 ∷ 0x64  -- offset 22: n036
    ∷ 0x60 ∷ 0xFF ∷ 0x06 ∷ 0x01 ∷ 0x41  -- offset 26: a marker ends the running status
    ∷ 0x00 ∷ 0x26 ∷ 0x64  -- offset 31: data without a status
    ∷ 0x00 ∷ 0xFF ∷ 0x2F ∷ 0x00  -- end
    ∷ []

-- the offset of the delta time. Fails: running status kept over a meta event; the data byte's own offset, 32
after_meta_refused : put after_meta ≡ refused 14 0 31
unfolding importing
after_meta_refused = refl

-- ---- two ends

abbrev two_ends : List ℕ
two_ends =
    0x4D ∷ 0x54 ∷ 0x68 ∷ 0x64 ∷ 0x00 ∷ 0x00 ∷ 0x00 ∷ 0x06 ∷ 0x00 ∷ 0x00 ∷ 0x00 ∷ 0x01 ∷ 0x00 ∷ 0x04  -- header
    ∷ 0x4D ∷ 0x54 ∷ 0x72 ∷ 0x6B ∷ 0x00 ∷ 0x00 ∷ 0x00 ∷ 0x0C  -- heading
    ∷ 0x00 ∷ 0x90 ∷ 0x24 ∷ 0x64  -- offset 22
    ∷ 0x00 ∷ 0xFF ∷ 0x2F ∷ 0x00  -- offset 26: the first end
    ∷ 0x00 ∷ 0xFF ∷ 0x2F ∷ 0x00  -- offset 30: the second
    ∷ []

-- the first end must close the track. Fails: the last end taken; the first end's offset, 26
two_ends_refused : put two_ends ≡ refused 14 0 30
unfolding importing
two_ends_refused = refl

abbrev no_end : List ℕ
no_end =
    0x4D ∷ 0x54 ∷ 0x68 ∷ 0x64 ∷ 0x00 ∷ 0x00 ∷ 0x00 ∷ 0x06 ∷ 0x00 ∷ 0x00 ∷ 0x00 ∷ 0x01 ∷ 0x00 ∷ 0x04  -- header
    ∷ 0x4D ∷ 0x54 ∷ 0x72 ∷ 0x6B ∷ 0x00 ∷ 0x00 ∷ 0x00 ∷ 0x04  -- heading
    ∷ 0x00 ∷ 0x90 ∷ 0x24 ∷ 0x64  -- offset 22
    ∷ []

-- missing: the file's end, where it would stand. Fails: taken without an end; the last byte's offset, 25; the last event's, 22
no_end_refused : put no_end ≡ refused 14 0 26
unfolding importing
no_end_refused = refl

abbrev half_an_end : List ℕ
half_an_end =
    0x4D ∷ 0x54 ∷ 0x68 ∷ 0x64 ∷ 0x00 ∷ 0x00 ∷ 0x00 ∷ 0x06 ∷ 0x00 ∷ 0x00 ∷ 0x00 ∷ 0x01 ∷ 0x00 ∷ 0x04  -- header
    ∷ 0x4D ∷ 0x54 ∷ 0x72 ∷ 0x6B ∷ 0x00 ∷ 0x00 ∷ 0x00 ∷ 0x07  -- heading
    ∷ 0x00 ∷ 0x90 ∷ 0x24 ∷ 0x64  -- offset 22
    ∷ 0x00 ∷ 0xFF ∷ 0x2F  -- offset 26: an end cut short
    ∷ []

-- an event that has begun: its own delta time. Fails: the file's end, 29
half_an_end_refused : put half_an_end ≡ refused 14 0 26
unfolding importing
half_an_end_refused = refl

-- ---- too far

abbrev too_far : List ℕ
too_far =
    0x4D ∷ 0x54 ∷ 0x68 ∷ 0x64 ∷ 0x00 ∷ 0x00 ∷ 0x00 ∷ 0x06 ∷ 0x00 ∷ 0x00 ∷ 0x00 ∷ 0x01 ∷ 0x00 ∷ 0x04  -- header
    ∷ 0x4D ∷ 0x54 ∷ 0x72 ∷ 0x6B ∷ 0x00 ∷ 0x00 ∷ 0x00 ∷ 0x0B  -- heading
    ∷ 0xBF ∷ 0xFF ∷ 0x7F ∷ 0x90 ∷ 0x24 ∷ 0x64  -- tick 1,048,575: the last step of bar 65,535
    ∷ 0x01 ∷ 0x26 ∷ 0x64  -- tick 1,048,576: bar 65,536
    ∷ 0x00 ∷ 0xF1  -- offset 31: no event
    ∷ []

-- at the hit, before the event after it. Fails: 14 0 31; the hit's offset as index; hits tested when the track has ended
too_far_refused : put too_far ≡ refused 15 0 0
unfolding importing
too_far_refused = refl

-- ---- a hit on the last tick of a step

-- division 96: ticks 0, 32, 64, 383, 384
abbrev triplets : List ℕ
triplets =
    0x4D ∷ 0x54 ∷ 0x68 ∷ 0x64 ∷ 0x00 ∷ 0x00 ∷ 0x00 ∷ 0x06 ∷ 0x00 ∷ 0x00 ∷ 0x00 ∷ 0x01 ∷ 0x00 ∷ 0x60  -- header
    ∷ 0x4D ∷ 0x54 ∷ 0x72 ∷ 0x6B ∷ 0x00 ∷ 0x00 ∷ 0x00 ∷ 0x15  -- heading
    ∷ 0x00 ∷ 0x99 ∷ 0x2D ∷ 0x64  -- tick 0: n045
    ∷ 0x20 ∷ 0x2F ∷ 0x50  -- tick 32: n047, step 1
    ∷ 0x20 ∷ 0x32 ∷ 0x3C  -- tick 64: n050, step 2
    ∷ 0x82 ∷ 0x3F ∷ 0x2D ∷ 0x5A  -- tick 383: n045, step 15
    ∷ 0x01 ∷ 0x2D ∷ 0x7F  -- tick 384: n045, bar 1, step 0
    ∷ 0x00 ∷ 0xFF ∷ 0x2F ∷ 0x00  -- end
    ∷ []

-- Fails: rounding to the nearest step, which has 64 on 3
triplets_taken : taken triplets
    ≡ Ok
    (lists (0 ∷ 1 ∷ []) (16 ∷ 16 ∷ []) (0x6E ∷ 0x30 ∷ 0x34 ∷ 0x35 ∷ 0x6E ∷ 0x30 ∷ 0x34 ∷ 0x37 ∷ 0x6E ∷ 0x30 ∷ 0x35 ∷ 0x30 ∷ [])
    (4 ∷ 8 ∷ 12 ∷ []) (2 ∷ 1 ∷ 1 ∷ []) (0 ∷ 1 ∷ 0 ∷ 0 ∷ []) (2 ∷ 1 ∷ 1 ∷ 1 ∷ []) (0 ∷ 15 ∷ 0 ∷ 1 ∷ 2 ∷ []))
unfolding importing
triplets_taken = refl

-- ---- no hits

abbrev no_hits : List ℕ
no_hits =
    0x4D ∷ 0x54 ∷ 0x68 ∷ 0x64 ∷ 0x00 ∷ 0x00 ∷ 0x00 ∷ 0x06 ∷ 0x00 ∷ 0x00 ∷ 0x00 ∷ 0x01 ∷ 0x7F ∷ 0xFC  -- header: division 32,764
    ∷ 0x4D ∷ 0x54 ∷ 0x72 ∷ 0x6B ∷ 0x00 ∷ 0x00 ∷ 0x00 ∷ 0x04  -- heading
    ∷ 0x00 ∷ 0xFF ∷ 0x2F ∷ 0x00  -- end
    ∷ []

-- no bars, no sounds, and nothing need be lent. Fails: a bar 0, 13
no_hits_answered : Answered no_hits (room 0 0 0 0 0 0 0 0 0) (totals 0 0 0 0) no_lists
unfolding importing
no_hits_answered = record { reply = refl; left = refl }
