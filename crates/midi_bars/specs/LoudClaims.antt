-- What is claimed of the velocities, in the customer's words; proved in proofs/Loud.antt.
use Rattle.std.specs.Prelude.{Err, Ok, ℕ, ◌+◌, ◌*◌, ◌≤◌, ◌<◌, ◌≡◌, List, [], map, length, get_or}
use Rattle.common.specs.Elements.{◌∈◌}
use Rattle.common.specs.Lists.{joined}
use Rattle.segment.specs.Results.{Answer}
use Rattle.segment.specs.Records.{Given}
use Rattle.calls.specs.Given.{Lists, given}
use Rattle.midi_read.specs.declared.track.Hit.{Hit}
use Rattle.midi_read.specs.Tracks.{WithinRules}
use Rattle.midi_bars.specs.Bars.{name_of}
use Rattle.midi_bars.specs.Loudness.{AllLists}
use Rattle.midi_bars.specs.Imports.{import_file, import_all}
use Rattle.midi_bars.specs.Words.{Plays}

-- the lists that the writer takes
abbrev pub for_the_writer : Answer AllLists → Answer Lists
for_the_writer (Ok a) = Ok a.lists
for_the_writer (Err x) = Err x

-- the same files are read, the others are refused the same way, and the lists that the writer takes are the same
abbrev pub ListsStayed : Type 0
ListsStayed = (steps quarter : ℕ) (file : List ℕ) → for_the_writer (import_all steps quarter file) ≡ import_file steps quarter file

-- a velocity that one of the file's hits of this note on this step has, and none of them passes: of equal hits the loudest
pub record Loudest (quarter : ℕ) (file : List ℕ) (hs : List Hit) (note step velocity : ℕ) : Type 0 where
  pub one : Plays quarter file hs note step
  pub as_loud : one.hit.velocity ≡ velocity
  pub none_louder : (other : Plays quarter file hs note step) → other.hit.velocity ≤ velocity

-- the places of the lists, in order: each position with the name and the bar that it stands under
pub record PositionUnder : Type 0 where
  pub name : List ℕ
  pub bar : ℕ
  pub position : ℕ

abbrev pub position_under : (name : List ℕ) (bar position : ℕ) → PositionUnder
position_under n b p = record { name = n; bar = b; position = p }

abbrev pub all_positions : Given → List PositionUnder
all_positions g = joined (map (λ t. joined (map (λ p. map (position_under t.name p.doc) p.positions) t.postings)) g.terms)

pub record HoldsLoudness (steps quarter : ℕ) (file : List ℕ) (hs : List Hit) (a : AllLists) : Type 0 where
  -- side by side with the positions
  pub as_many : length a.velocities ≡ length a.lists.positions
  pub places : map (λ s. s.position) (all_positions (given a.lists)) ≡ a.lists.positions
  pub audible : (velocity : ℕ) → velocity ∈ a.velocities → (1 ≤ velocity) × (velocity ≤ 127)
  -- beside each position that of the loudest hit of its sound on its step
  pub each_loudest : (i : ℕ) → i < length a.velocities → let s = get_or (all_positions (given a.lists)) i (position_under [] 0 0) in
      (note : ℕ) × (s.name ≡ name_of note) × Loudest quarter file hs note (steps * s.bar + s.position) (get_or a.velocities i 0)

-- of every file that is read, whatever the two numbers
abbrev pub LoudnessHeld : Type 0
LoudnessHeld =
    (steps quarter : ℕ) (file : List ℕ) (a : AllLists) → 1 ≤ steps → import_all steps quarter file ≡ Ok a
    → (hs : List Hit) × WithinRules steps quarter file hs × HoldsLoudness steps quarter file hs a
