-- A Standard MIDI File 1.0 of format 0 with one track, as document 02 reads it. Everything is read at an offset of the file. Two numbers
-- are free here that the call fixes: steps to a bar (16) and steps to a quarter (4).
use Rattle.std.specs.Prelude.{Err, None, Ok, Option, Some}
use Rattle.std.specs.Prelude.{ℕ, zero, suc, ◌+◌, ◌*◌, ◌/◌, ◌%◌, Bool, cond, ◌&&◌, ◌||◌, List, [], ◌∷◌, ltb, leb, eqb, length, take, drop, get_or}
use Rattle.segment.specs.Refusals.{too_large, midi_file, bar_too_far}
use Rattle.segment.specs.Results.{Answer, ◌>>=◌, check}
use Rattle.segment.specs.Names.{same}
use Rattle.midi_read.specs.declared.track.Reader.{Reader}
use Rattle.midi_read.specs.declared.track.Hit.{Hit}
use Rattle.midi_read.specs.declared.track.Number.{Number}
use Rattle.midi_read.specs.declared.track.Step.{Step}
use Rattle.midi_read.specs.declared.track.Step.TheVariants.{Sounds, Silent, Ends}

-- ---- bytes and numbers; `start` is the offset of the event's delta time, which a refusal has as its index

abbrev pub byte : (start : ℕ) (file : List ℕ) (at : ℕ) → Answer ℕ
byte start file at = do
  _ ← check (ltb at (length file)) (midi_file start)
  Ok (get_or file at 0)

-- a data byte, or the type of a meta event: at most 127
abbrev pub low_byte : (start : ℕ) (file : List ℕ) (at : ℕ) → Answer ℕ
low_byte start file at = do
  b ← byte start file at
  _ ← check (ltb b 128) (midi_file start)
  Ok b

-- a variable-length number, its value and the place past it: seven bits to a byte, the high ones first, and the high bit set on every byte
-- but the last; at most `left` bytes, below what was read
unfoldable pub number_from : (left value : ℕ) (file : List ℕ) (at : ℕ) → Option Number
number_from zero value file at = None
number_from (suc n) value file at =
    let more = number_from n (value * 128 + get_or file at 0 % 128) file (at + 1) in
    let here : Number = record { value = value * 128 + get_or file at 0; next = at + 1 } in
    cond (ltb at (length file)) (cond (ltb (get_or file at 0) 128) (Some here) more) None

abbrev pub found : (start : ℕ) → Option Number → Answer Number
found start None = Err (midi_file start)
found start (Some n) = Ok n

-- at most 4 bytes
abbrev pub number : (start : ℕ) (file : List ℕ) (at : ℕ) → Answer Number
number start file at = found start (number_from 4 0 file at)

-- ---- events. A Step is a hit (Sounds) or another event (Silent), each with the reader past it; or the end of the track (Ends), with the
-- place past it

abbrev pub reader : (at running tick : ℕ) → Reader
reader a r t = record { at = a; running = r; tick = t }

-- program change (C) and channel pressure (D) have one data byte, the other channel messages two
abbrev pub one_data_byte : (status : ℕ) → Bool
one_data_byte status = eqb (status / 16) 12 || eqb (status / 16) 13

-- a note-on (9) with velocity above 0
abbrev pub is_hit : (status velocity : ℕ) → Bool
is_hit status velocity = eqb (status / 16) 9 && ltb 0 velocity

abbrev pub two_data_bytes : (status at tick first second : ℕ) → Step
two_data_bytes status at tick first second =
    cond (is_hit status second)
    (Sounds (record { tick = tick; note = first; velocity = second }) (reader (at + 2) status tick))
    (Silent (reader (at + 2) status tick))

-- a channel message, from its data bytes on; its status is kept
unfoldable pub message : (start : ℕ) (file : List ℕ) (status at tick : ℕ) → Answer Step
message start file status at tick = do
  first ← low_byte start file at
  cond (one_data_byte status) (Ok (Silent (reader (at + 1) status tick))) (do
    second ← low_byte start file (at + 1)
    Ok (two_data_bytes status at tick first second))

-- skipped by its length; it ends the running status
unfoldable pub skipped : (start : ℕ) (file : List ℕ) (at tick : ℕ) → Answer Step
skipped start file at tick = do
  n ← number start file at
  _ ← check (leb (n.next + n.value) (length file)) (midi_file start)
  Ok (Silent (reader (n.next + n.value) 0 tick))

-- FF, from its type on: 2F must be followed by 00 and ends the track
unfoldable pub meta : (start : ℕ) (file : List ℕ) (at tick : ℕ) → Answer Step
meta start file at tick = do
  type ← low_byte start file at
  cond (eqb type 0x2F) (do
    b ← byte start file (at + 1)
    _ ← check (eqb b 0) (midi_file start)
    Ok (Ends (at + 2))) (skipped start file (at + 1) tick)

-- F0 and F7
abbrev pub exclusive : (status : ℕ) → Bool
exclusive status = eqb status 0xF0 || eqb status 0xF7

-- by the byte after the delta time: data under the running status, where there is one; a channel message; FF; F0 and F7; nothing else
unfoldable pub by_status : (start : ℕ) (file : List ℕ) (running at tick b : ℕ) → Answer Step
by_status start file running at tick b =
    cond (ltb b 0x80) (cond (eqb running 0) (Err (midi_file start)) (message start file running at tick))
    (cond (ltb b 0xF0) (message start file b (at + 1) tick)
    (cond (eqb b 0xFF) (meta start file (at + 1) tick)
    (cond (exclusive b) (skipped start file (at + 1) tick) (Err (midi_file start)))))

-- the event at a reader. At the file's end there is none, so a missing end of the track is refused there
unfoldable pub read_event : (file : List ℕ) → Reader → Answer Step
read_event file from = do
  delta ← number from.at file from.at
  b ← byte from.at file delta.next
  by_status from.at file from.running delta.next (from.tick + delta.value) b

-- ---- hits

-- ticks to a step, and steps to a bar
pub record Grid : Type 0 where
  pub ticks : ℕ
  pub steps : ℕ

-- counted from the start of the file, rounded down
abbrev pub step_of : Grid → Hit → ℕ
step_of g h = h.tick / g.ticks

abbrev pub bar_of : Grid → Hit → ℕ
bar_of g h = step_of g h / g.steps

abbrev pub position_of : Grid → Hit → ℕ
position_of g h = step_of g h % g.steps

-- an event, and the hits after it: a hit is tested at once, and the end must close the file
abbrev pub after : Grid → (file : List ℕ) (later : Reader → Answer (List Hit)) → Step → Answer (List Hit)
after g file later (Sounds h next) = do
  _ ← check (leb (bar_of g h) 65535) bar_too_far
  more ← later next
  Ok (h ∷ more)
after g file later (Silent next) = later next
after g file later (Ends past) = do
  _ ← check (eqb past (length file)) (midi_file past)
  Ok []

-- the hits from a reader on, over at most so many events
unfoldable pub hits_from : (events : ℕ) → Grid → (file : List ℕ) → Reader → Answer (List Hit)
hits_from zero g file from = Err (midi_file from.at)
hits_from (suc n) g file from = read_event file from >>= after g file (hits_from n g file)

-- ---- the file

abbrev pub big_endian : (value : ℕ) → List ℕ → ℕ
big_endian value [] = value
big_endian value (b ∷ bs) = big_endian (value * 256 + b) bs

-- the number of n bytes at a place
abbrev pub big_field : (n at : ℕ) → List ℕ → ℕ
big_field n at file = big_endian 0 (take n (drop at file))

-- MThd, length 6, format 0, one track
abbrev pub header_start : List ℕ
header_start = 0x4D ∷ 0x54 ∷ 0x68 ∷ 0x64 ∷ 0 ∷ 0 ∷ 0 ∷ 6 ∷ 0 ∷ 0 ∷ 0 ∷ 1 ∷ []

-- MTrk
abbrev pub heading_start : List ℕ
heading_start = 0x4D ∷ 0x54 ∷ 0x72 ∷ 0x6B ∷ []

-- ticks to a quarter: not 0, not above 32,767, a multiple of the steps to a quarter
abbrev pub division_fits : (quarter division : ℕ) → Bool
division_fits quarter division = ltb 0 division && leb division 32767 && eqb (division % quarter) 0

-- the header, 14 bytes: the ticks to a step
unfoldable pub header : (quarter : ℕ) (file : List ℕ) → Answer ℕ
header quarter file = do
  _ ← check (leb 14 (length file)) (midi_file 0)
  _ ← check (same (take 12 file) header_start) (midi_file 0)
  _ ← check (division_fits quarter (big_field 2 12 file)) (midi_file 0)
  Ok (big_field 2 12 file / quarter)

-- the track's heading, 8 bytes: its length is the rest of the file
unfoldable pub heading : (file : List ℕ) → Answer (Unit {0})
heading file = do
  _ ← check (leb 22 (length file)) (midi_file 14)
  _ ← check (same (take 4 (drop 14 file)) heading_start) (midi_file 14)
  check (eqb (22 + big_field 4 18 file) (length file)) (midi_file 14)

abbrev pub grid : (ticks steps : ℕ) → Grid
grid t s = record { ticks = t; steps = s }

-- what stands before the events: 12, then the header chunk, then the heading of the track chunk
unfoldable pub chunks : (steps quarter : ℕ) (file : List ℕ) → Answer Grid
chunks steps quarter file = do
  _ ← check (leb (length file) 16777216) too_large
  ticks ← header quarter file
  _ ← heading file
  Ok (grid ticks steps)

-- the first event stands behind the heading
abbrev pub first_event : Reader
first_event = reader 22 0 0

-- the file's hits, in file order; an event takes a byte at least
unfoldable pub hits : Grid → (file : List ℕ) → Answer (List Hit)
hits g file = hits_from (length file) g file first_event
