-- A Standard MIDI File of format 0 with one track, in words: the bytes of its chunks and events, by what they say. Nothing here names the
-- reader (Files.antt): there is no offset and no order of tests. Claims.antt says that the reader takes exactly these files, with exactly
-- these hits.
use Rattle.std.specs.Prelude.{ℕ, ◌+◌, ◌*◌, ◌/◌, ◌%◌, ◌≤◌, ◌<◌, ◌≡◌, Bool, cond, ◌&&◌, List, [], ◌∷◌, ◌++◌, ◌⊎◌, ltb, leb, length, get_or, drop}
use Rattle.common.specs.Elements.{◌∈◌}
use Rattle.midi_read.specs.declared.track.Hit.{Hit}
use Rattle.midi_read.specs.Files.{Grid, grid, bar_of}

-- ---- variable-length numbers

-- seven bits to a byte, the highest first
abbrev pub base_128 : (value : ℕ) (bytes : List ℕ) → ℕ
base_128 v [] = v
base_128 v (b ∷ bs) = base_128 (v * 128 + b % 128) bs

-- 1 to 4 bytes, each but the last above 127
pub record IsNumber (bytes : List ℕ) (value : ℕ) : Type 0 where
  pub high : List ℕ
  pub last : ℕ
  pub bytes_are : bytes ≡ high ++ (last ∷ [])
  pub at_most_4 : length high ≤ 3
  pub above_127 : (b : ℕ) → b ∈ high → 128 ≤ b
  pub at_most_127 : last ≤ 127
  pub value_is : value ≡ base_128 0 bytes

-- ---- events

-- what an event says after its delta time: a channel message with its data bytes, or what is skipped
pub data Said : Type 0 where
  channel : (status : ℕ) (values : List ℕ) → Said
  skipped_over : Said

-- an event: its delta time and the bytes of that, what it says and the bytes of that
pub record Timed : Type 0 where
  pub delta : ℕ
  pub time : List ℕ
  pub said : Said
  pub bytes : List ℕ

-- status 80 to EF (hex); C0 to DF have one data byte, the others two; a data byte is at most 127. The status may be left out where it is
-- the running status (0 where there is none)
pub record ChannelMessage (running status : ℕ) (values bytes : List ℕ) : Type 0 where
  pub least : 0x80 ≤ status
  pub most : status ≤ 0xEF
  pub data_bytes : ((0xC0 ≤ status) × (status ≤ 0xDF) × (length values ≡ 1)) ⊎ (((status < 0xC0) ⊎ (0xDF < status)) × (length values ≡ 2))
  pub at_most_127 : (b : ℕ) → b ∈ values → b ≤ 127
  pub written : (bytes ≡ status ∷ values) ⊎ ((running ≡ status) × (bytes ≡ values))

-- F0, F7, or FF with a type of at most 127 that is not 2F (hex); then a length, and as many bytes, whatever they are
pub record SkippedEvent (bytes : List ℕ) : Type 0 where
  pub front : List ℕ
  pub size : List ℕ
  pub body : List ℕ
  pub bytes_are : bytes ≡ front ++ (size ++ body)
  pub kind : (front ≡ 0xF0 ∷ []) ⊎ ((front ≡ 0xF7 ∷ []) ⊎ ((type : ℕ) × (type ≤ 127) × (type ≡ 0x2F → ⊥) × (front ≡ 0xFF ∷ type ∷ [])))
  pub sized : IsNumber size (length body)

abbrev pub Says : (running : ℕ) → Said → (bytes : List ℕ) → Type 0
Says running (channel status values) bytes = ChannelMessage running status values bytes
Says running skipped_over bytes = SkippedEvent bytes

-- running status is kept over channel messages only
abbrev pub running_after : Said → ℕ
running_after (channel status values) = status
running_after skipped_over = 0

abbrev pub Events : (running : ℕ) → List Timed → Type 0
Events running [] = Unit {0}
Events running (e ∷ es) = IsNumber e.time e.delta × Says running e.said e.bytes × Events (running_after e.said) es

-- the bytes of events one behind the other, then what follows
abbrev pub bytes_of : List Timed → (end : List ℕ) → List ℕ
bytes_of [] end = end
bytes_of (e ∷ es) end = e.time ++ (e.bytes ++ bytes_of es end)

-- ---- hits

-- a note-on: status 90 to 9F (hex), with velocity above 0
abbrev pub note_on : (status velocity : ℕ) → Bool
note_on status velocity = leb 0x90 status && leb status 0x9F && ltb 0 velocity

abbrev pub with_hit : (tick : ℕ) → Said → List Hit → List Hit
with_hit tick (channel status values) later =
    cond (note_on status (get_or values 1 0)) (record { tick = tick; note = get_or values 0 0; velocity = get_or values 1 0 } ∷ later) later
with_hit tick skipped_over later = later

-- a tick is the sum of all delta times up to it
abbrev pub hits_in : (tick : ℕ) → List Timed → List Hit
hits_in tick [] = []
hits_in tick (e ∷ es) = with_hit (tick + e.delta) e.said (hits_in (tick + e.delta) es)

-- ---- the track: events, then one end of track, FF 2F 00 (hex), at any delta time, and nothing behind it

pub record IsTrack (bytes : List ℕ) (events : List Timed) : Type 0 where
  pub each : Events 0 events
  pub time : List ℕ
  pub delta : ℕ
  pub timed : IsNumber time delta
  pub bytes_are : bytes ≡ bytes_of events (time ++ (0xFF ∷ 0x2F ∷ 0x00 ∷ []))

-- the reader takes exactly the tracks whose hits are in bars up to 65,535, and finds exactly these hits
pub record PlaysSo (g : Grid) (file : List ℕ) (hs : List Hit) : Type 0 where
  pub events : List Timed
  pub track : IsTrack (drop 22 file) events
  pub hits_are : hs ≡ hits_in 0 events
  pub near : (h : Hit) → h ∈ hs → bar_of g h ≤ 65535

-- ---- the file: "MThd", length 6, format 0, one track, the division; "MTrk", the track's length, the track, and nothing behind it

pub record IsFile (quarter : ℕ) (file : List ℕ) (division : ℕ) (track : List ℕ) : Type 0 where
  pub small : length file ≤ 16777216
  pub d₁ : ℕ
  pub d₀ : ℕ
  pub s₃ : ℕ
  pub s₂ : ℕ
  pub s₁ : ℕ
  pub s₀ : ℕ
  pub bytes_are : file
      ≡ 0x4D ∷ 0x54 ∷ 0x68 ∷ 0x64 ∷ 0 ∷ 0 ∷ 0 ∷ 6 ∷ 0 ∷ 0 ∷ 0 ∷ 1 ∷ d₁ ∷ d₀ ∷ 0x4D ∷ 0x54 ∷ 0x72 ∷ 0x6B ∷ s₃ ∷ s₂ ∷ s₁ ∷ s₀ ∷ track
  pub division_is : division ≡ d₁ * 256 + d₀
  pub some_ticks : 1 ≤ division
  pub at_most_32767 : division ≤ 32767
  pub multiple : division % quarter ≡ 0
  pub length_is : s₃ * 16777216 + s₂ * 65536 + s₁ * 256 + s₀ ≡ length track

pub record ChunksSo (steps quarter : ℕ) (file : List ℕ) (g : Grid) : Type 0 where
  pub division : ℕ
  pub track : List ℕ
  pub is : IsFile quarter file division track
  pub grid_is : g ≡ grid (division / quarter) steps

-- ---- a file within document 02's rules, with its hits; no hit is beyond bar 65,535

pub record WithinRules (steps quarter : ℕ) (file : List ℕ) (hs : List Hit) : Type 0 where
  pub division : ℕ
  pub track : List ℕ
  pub events : List Timed
  pub is_file : IsFile quarter file division track
  pub is_track : IsTrack track events
  pub hits_are : hs ≡ hits_in 0 events
  pub near : (h : Hit) → h ∈ hs → h.tick / (division / quarter) / steps ≤ 65535

-- ---- 14 behind the heading: the offset

abbrev pub running_behind : (running : ℕ) → List Timed → ℕ
running_behind running [] = running
running_behind running (e ∷ es) = running_behind (running_after e.said) es

-- whole events up to an offset, and neither an event nor the end of track stands there (nothing does at the file's end)
pub record NoEventAt (file : List ℕ) (i : ℕ) : Type 0 where
  pub events : List Timed
  pub each : Events 0 events
  pub before : drop 22 file ≡ bytes_of events (drop i file)
  pub no_event : (e : Timed) (rest : List ℕ) → IsNumber e.time e.delta → Says (running_behind 0 events) e.said e.bytes
      → drop i file ≡ e.time ++ (e.bytes ++ rest) → ⊥
  pub no_end : (time rest : List ℕ) (delta : ℕ) → IsNumber time delta → drop i file ≡ time ++ (0xFF ∷ 0x2F ∷ 0x00 ∷ rest) → ⊥

-- whole events, then the end of track, then a byte, which has this offset
pub record ByteBehindEnd (file : List ℕ) (i : ℕ) : Type 0 where
  pub events : List Timed
  pub each : Events 0 events
  pub time : List ℕ
  pub delta : ℕ
  pub timed : IsNumber time delta
  pub before : drop 22 file ≡ bytes_of events (time ++ (0xFF ∷ 0x2F ∷ 0x00 ∷ drop i file))
  pub a_byte : i < length file
