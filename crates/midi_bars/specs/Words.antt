-- What a MIDI file plays, in the customer's words; Claims.antt says that the lists have exactly this. `hs` are the file's note-ons with
-- velocity above 0: crate midi_read says in words which files have which (specs/Tracks.antt, `WithinRules`).
use Rattle.std.specs.Prelude.{ℕ, ◌+◌, ◌*◌, ◌/◌, ◌<◌, ◌≡◌, List, [], length, get_or}
use Rattle.common.specs.Elements.{◌∈◌}
use Rattle.midi_read.specs.declared.track.Hit.{Hit}
use Rattle.midi_read.specs.Files.{big_field}
use Rattle.midi_bars.specs.Bars.{name_of}

-- ticks to a quarter, the last two bytes of the header
abbrev pub division : (file : List ℕ) → ℕ
division file = big_field 2 12 file

-- one of them is of this note, and its tick, divided by a quarter of the division (where a quarter has four steps) and rounded down, is
-- this step
pub record Plays (quarter : ℕ) (file : List ℕ) (hs : List Hit) (note step : ℕ) : Type 0 where
  pub hit : Hit
  pub there : hit ∈ hs
  pub of_note : hit.note ≡ note
  pub on_step : hit.tick / (division file / quarter) ≡ step

-- a phrase in a bar: some start has note i on step start + i, all within the bar
pub record PlaysPhrase (steps quarter : ℕ) (file : List ℕ) (hs : List Hit) (bar : ℕ) (names : List (List ℕ)) : Type 0 where
  pub start : ℕ
  pub on : (i : ℕ) → i < length names
      → (note : ℕ) × (get_or names i [] ≡ name_of note) × (start + i < steps) × Plays quarter file hs note (steps * bar + (start + i))
