-- What the functions of chunks.rt and track.rt answer, and what they ask of the reader.
use Rattle.std.specs.Prelude.{Err, Ok, ℕ, ◌*◌, ◌≤◌, ◌≡◌, List, length}
use Rattle.segment.specs.Results.{Answer}
use Rattle.midi_read.specs.declared.track.Reader.{Reader}
use Rattle.midi_read.specs.Files.{Grid, chunks}

-- the ticks to a step
abbrev pub grid_answer : Answer Grid → Answer ℕ
grid_answer (Ok g) = Ok g.ticks
grid_answer (Err x) = Err x

-- the answer does not depend on the steps to a bar
pub record ChunksRead (quarter : ℕ) (file : List ℕ) (r : Answer ℕ) : Type 0 where
  pub answer : (steps : ℕ) → r ≡ grid_answer (chunks steps quarter file)

-- a place in a file of at most 16,777,216 bytes; each byte passed brought a tick below 2^28 at most, so that no tick wraps
pub record Within (file : List ℕ) (from : Reader) : Type 0 where
  pub small : length file ≤ 16777216
  pub inside : from.at ≤ length file
  pub tick : from.tick ≤ from.at * 268435456
