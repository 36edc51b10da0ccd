-- The end of the track, and hits beyond bar 65,535: which refusal comes first. Division 4: a tick is a step. No place is lent.
use Rattle.std.specs.Prelude.{Ok, ℕ, ◌≡◌, refl, List, [], ◌∷◌, ◌++◌, map, replicate}
use Rattle.common.specs.Lists.{joined}
use Rattle.segment.specs.Results.{Answer, ◌>>=◌}
use Rattle.midi_bars.specs.Loudness.{AllLists}
use Rattle.cases.specs.Through.{hearing, importing}
use Rattle.cases.specs.Digits.{refused}
use Rattle.cases.specs.MidiMade.{tune, end, taken, put, heard}

abbrev ended : (track : List ℕ) → Answer AllLists
ended track = put (tune 4 track)

-- where the hits are: posting ids, then positions
abbrev placed : (file : List ℕ) → Answer (List ℕ)
placed file = taken file >>= (λ l. Ok (l.posting_ids ++ l.positions))

-- ---- the end of the track

-- FF 2F not followed by 00: 01, 7F, a length of 0 in two bytes, nothing. Fails: any length skipped, 80 00 taken
no_end :
    map ended
    ((0x00 ∷ 0xFF ∷ 0x2F ∷ 0x01 ∷ 0x00 ∷ end) ∷ (0x00 ∷ 0xFF ∷ 0x2F ∷ 0x7F ∷ []) ∷ (0x00 ∷ 0xFF ∷ 0x2F ∷ 0x80 ∷ 0x00 ∷ [])
    ∷ (0x00 ∷ 0xFF ∷ 0x2F ∷ []) ∷ [])
    ≡ replicate 4 (refused 14 0 22)
unfolding importing
no_end = refl

-- behind a delta time of two bytes. Fails: the end's own offset, 24
no_end_offset : ended (0x81 ∷ 0x00 ∷ 0xFF ∷ 0x2F ∷ 0x01 ∷ []) ≡ refused 14 0 22
unfolding importing
no_end_offset = refl

-- missing: the file's length. Fails: the last byte's offset, the last event's
missing : ended (0x00 ∷ 0xFF ∷ 0x06 ∷ 0x01 ∷ 0x41 ∷ []) ≡ refused 14 0 27
unfolding importing
missing = refl

-- a byte after the end: its own offset, whatever it is. Fails: the end's, 22; read as an event, 14 0 26 of a cut one
byte_after : map (λ b. ended (end ++ b ∷ [])) (0x00 ∷ 0x81 ∷ 0xFF ∷ []) ≡ replicate 3 (refused 14 0 26)
unfolding importing
byte_after = refl

-- behind a delta time of three bytes. Fails: four bytes after the event's offset
byte_after_long_delta : ended (0x81 ∷ 0x80 ∷ 0x00 ∷ 0xFF ∷ 0x2F ∷ 0x00 ∷ 0x00 ∷ []) ≡ refused 14 0 28
unfolding importing
byte_after_long_delta = refl

-- an event and a second end after it. Fails: the last end taken
event_after : ended (end ++ 0x00 ∷ 0x90 ∷ 0x24 ∷ 0x64 ∷ end) ≡ refused 14 0 26
unfolding importing
event_after = refl

-- ---- 15: a hit beyond bar 65,535, which begins at tick 1,048,576

-- the last tick before it: 65,536 bars, the hit on step 15 of the last. Fails: bar 65,535 refused; bars counted in 16 bits
last_tick : ended (0xBF ∷ 0xFF ∷ 0x7F ∷ 0x90 ∷ 0x24 ∷ 0x64 ∷ end) ≡ refused 13 1 65536
unfolding importing
last_tick = refl

last_tick_placed : placed (tune 4 (0xBF ∷ 0xFF ∷ 0x7F ∷ 0x90 ∷ 0x24 ∷ 0x64 ∷ end)) ≡ Ok (65535 ∷ 15 ∷ [])
unfolding importing
last_tick_placed = refl

-- the tick itself, and delta times that add up to it. Fails: bar ids of 16 bits
first_tick : ended (0xC0 ∷ 0x80 ∷ 0x00 ∷ 0x90 ∷ 0x24 ∷ 0x64 ∷ end) ≡ refused 15 0 0
unfolding importing
first_tick = refl

tick_by_tick : ended (0xBF ∷ 0xFF ∷ 0x7F ∷ 0xFF ∷ 0x06 ∷ 0x00 ∷ 0x01 ∷ 0x90 ∷ 0x24 ∷ 0x01 ∷ end) ≡ refused 15 0 0
unfolding importing
tick_by_tick = refl

-- no hits, however far: velocity 0, a note-off, a meta event, the end. Fails: every event tested, every note-on
no_hits_there :
    map (λ t. heard (tune 4 t))
    ((0xC0 ∷ 0x80 ∷ 0x00 ∷ 0x90 ∷ 0x24 ∷ 0x00 ∷ end) ∷ (0xC0 ∷ 0x80 ∷ 0x00 ∷ 0x80 ∷ 0x24 ∷ 0x64 ∷ end)
    ∷ (0xC0 ∷ 0x80 ∷ 0x00 ∷ 0xFF ∷ 0x06 ∷ 0x00 ∷ end) ∷ (0xC0 ∷ 0x80 ∷ 0x00 ∷ 0xFF ∷ 0x2F ∷ 0x00 ∷ []) ∷ [])
    ≡ replicate 4 (Ok [])
unfolding hearing
no_hits_there = refl

-- 14 in the same event comes first: a note of 128, a velocity of 128, none. Fails: 15 at the note-on's status
fourteen_in_the_event :
    map ended
    ((0xC0 ∷ 0x80 ∷ 0x00 ∷ 0x90 ∷ 0x80 ∷ 0x64 ∷ end) ∷ (0xC0 ∷ 0x80 ∷ 0x00 ∷ 0x90 ∷ 0x24 ∷ 0x80 ∷ end)
    ∷ (0xC0 ∷ 0x80 ∷ 0x00 ∷ 0x90 ∷ 0x24 ∷ []) ∷ [])
    ≡ replicate 3 (refused 14 0 22)
unfolding importing
fourteen_in_the_event = refl

-- an earlier 14. Fails: 15 tested before an earlier 14
fourteen_before : ended (0x00 ∷ 0xF1 ∷ 0xC0 ∷ 0x80 ∷ 0x00 ∷ 0x90 ∷ 0x24 ∷ 0x64 ∷ end) ≡ refused 14 0 22
unfolding importing
fourteen_before = refl

-- a byte after the end, and a hit too far after it. Fails: 15
end_before : ended (end ++ 0xC0 ∷ 0x80 ∷ 0x00 ∷ 0x90 ∷ 0x24 ∷ 0x64 ∷ []) ≡ refused 14 0 26
unfolding importing
end_before = refl

-- 15 before a later 14: no event, a missing end, a byte after the end. Fails: all events first
fifteen_before :
    map ended
    ((0xC0 ∷ 0x80 ∷ 0x00 ∷ 0x90 ∷ 0x24 ∷ 0x64 ∷ 0x00 ∷ 0xF1 ∷ []) ∷ (0xC0 ∷ 0x80 ∷ 0x00 ∷ 0x90 ∷ 0x24 ∷ 0x64 ∷ [])
    ∷ (0xC0 ∷ 0x80 ∷ 0x00 ∷ 0x90 ∷ 0x24 ∷ 0x64 ∷ 0x00 ∷ 0xFF ∷ 0x2F ∷ 0x00 ∷ 0x00 ∷ []) ∷ [])
    ≡ replicate 3 (refused 15 0 0)
unfolding importing
fifteen_before = refl

-- ---- ticks past 2^32: division 32,764, where a step is 8,191 ticks and a bar 131,056

-- so many note-offs, each at the largest delta time
abbrev far : ℕ → List ℕ
far n = joined (replicate n (0xFF ∷ 0xFF ∷ 0xFF ∷ 0x7F ∷ 0x80 ∷ 0x24 ∷ 0x00 ∷ []))

-- tick 16 * 268,435,455 + 24,605: bar 32,772, step 3. Fails: ticks of 32 bits, which have bar 0
past_32_bits : placed (tune 32764 (far 16 ++ 0x81 ∷ 0xC0 ∷ 0x1D ∷ 0x90 ∷ 0x24 ∷ 0x64 ∷ end)) ≡ Ok (32772 ∷ 3 ∷ [])
unfolding importing
past_32_bits = refl

-- the last tick of bar 65,535, which is 8,588,886,015, and the next. Fails: a limit of ticks; the last tick refused, the next taken
last_of_all : placed (tune 32764 (far 31 ++ 0xFF ∷ 0xC0 ∷ 0x80 ∷ 0x1E ∷ 0x90 ∷ 0x24 ∷ 0x64 ∷ end)) ≡ Ok (65535 ∷ 15 ∷ [])
unfolding importing
last_of_all = refl

next_tick : put (tune 32764 (far 31 ++ 0xFF ∷ 0xC0 ∷ 0x80 ∷ 0x1F ∷ 0x90 ∷ 0x24 ∷ 0x64 ∷ end)) ≡ refused 15 0 0
unfolding importing
next_tick = refl

-- past 2^33. Fails: ticks of 33 bits, which have bar 2,048
past_33_bits : put (tune 32764 (far 33 ++ 0x00 ∷ 0x90 ∷ 0x24 ∷ 0x64 ∷ end)) ≡ refused 15 0 0
unfolding importing
past_33_bits = refl
