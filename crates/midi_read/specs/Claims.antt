-- What is claimed of the events and the hits; proved in proofs/.
use Rattle.std.specs.Prelude.{Err, Ok, ℕ, ◌+◌, ◌*◌, ◌≤◌, ◌<◌, ◌≡◌, List, [], ◌∷◌, ◌⊎◌, ◌↔◌, length}
use Rattle.common.specs.Elements.{◌∈◌}
use Rattle.segment.specs.Refusals.{midi_file}
use Rattle.segment.specs.Results.{◌>>=◌}
use Rattle.midi_read.specs.declared.track.Reader.{Reader}
use Rattle.midi_read.specs.declared.track.Hit.{Hit}
use Rattle.midi_read.specs.Files.{Grid, read_event, step_of, bar_of, position_of, chunks, hits}
use Rattle.midi_read.specs.declared.track.Step.{Step}
use Rattle.midi_read.specs.declared.track.Step.TheVariants.{Sounds, Silent, Ends}
use Rattle.midi_read.specs.Tracks.{PlaysSo, ChunksSo, WithinRules, NoEventAt, ByteBehindEnd}

-- a note of seven bits, and a velocity from 1 to 127
pub record Audible (h : Hit) : Type 0 where
  pub note : h.note < 128
  pub some_velocity : 1 ≤ h.velocity
  pub velocity : h.velocity ≤ 127

-- past an event: two bytes on at least, within the file, at a tick that does not fall and rises by less than 2^28
pub record Moved (file : List ℕ) (from next : Reader) : Type 0 where
  pub on : from.at + 2 ≤ next.at
  pub inside : next.at ≤ length file
  pub never_falls : from.tick ≤ next.tick
  pub rises : next.tick ≤ from.tick + 268435455

abbrev pub EventFine : (file : List ℕ) (from : Reader) → Step → Type 0
EventFine file from (Sounds h next) = Moved file from next × (h.tick ≡ next.tick) × Audible h
EventFine file from (Silent next) = Moved file from next
EventFine file from (Ends past) = (from.at + 2 ≤ past) × (past ≤ length file)

abbrev pub EventsFine : Type 0
EventsFine = (file : List ℕ) (from : Reader) (e : Step) → read_event file from ≡ Ok e → EventFine file from e

-- ticks never fall in file order
abbrev pub NeverFall : (from : ℕ) → List Hit → Type 0
NeverFall from [] = Unit {0}
NeverFall from (h ∷ hs) = (from ≤ h.tick) × NeverFall h.tick hs

pub record HitsRead (g : Grid) (file : List ℕ) (hs : List Hit) : Type 0 where
  pub few : length hs ≤ length file
  pub audible : (h : Hit) → h ∈ hs → Audible h
  pub near : (h : Hit) → h ∈ hs → bar_of g h ≤ 65535
  pub in_order : NeverFall 0 hs

abbrev pub ReadSo : Type 0
ReadSo = (g : Grid) (file : List ℕ) (hs : List Hit) → hits g file ≡ Ok hs → HitsRead g file hs

-- a hit's step is rounded down: it has begun at the hit's tick, and the next one has not. Bar and position are that step divided by the
-- steps to a bar, quotient and remainder
pub record OnGrid (g : Grid) (h : Hit) : Type 0 where
  pub begun : step_of g h * g.ticks ≤ h.tick
  pub not_over : h.tick < step_of g h * g.ticks + g.ticks
  pub parted : bar_of g h * g.steps + position_of g h ≡ step_of g h
  pub in_bar : position_of g h < g.steps

abbrev pub GridRight : Type 0
GridRight = (g : Grid) (h : Hit) → 1 ≤ g.ticks → 1 ≤ g.steps → OnGrid g h

-- ---- the reader takes exactly the files of Tracks.antt

-- events and hits
abbrev pub TracksExactly : Type 0
TracksExactly = (g : Grid) (file : List ℕ) (hs : List Hit) → (hits g file ≡ Ok hs) ↔ PlaysSo g file hs

-- header and heading pass exactly so
abbrev pub ChunksExactly : Type 0
ChunksExactly = (steps quarter : ℕ) (file : List ℕ) (g : Grid) → (chunks steps quarter file ≡ Ok g) ↔ ChunksSo steps quarter file g

-- exactly these are read, whatever the room, and these are their hits
abbrev pub FilesExactly : Type 0
FilesExactly =
    (steps quarter : ℕ) (file : List ℕ) (hs : List Hit)
    → ((chunks steps quarter file >>= (λ g. hits g file)) ≡ Ok hs) ↔ WithinRules steps quarter file hs

-- the offset that 14 has behind the heading: whole events up to it, and none there; or the end of the track, and then the byte there
abbrev pub OffsetRight : Type 0
OffsetRight =
    (g : Grid) (file : List ℕ) (i : ℕ) → 22 ≤ length file → hits g file ≡ Err (midi_file i)
    → (i ≤ length file) × (NoEventAt file i ⊎ ByteBehindEnd file i)
