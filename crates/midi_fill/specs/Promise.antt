-- What the functions of fill.rt ask and promise.
use Rattle.std.specs.Prelude.{Err, Ok, ℕ, ◌+◌, ◌≤◌, ◌<◌, ◌≡◌, List, length, get_or}
use Rattle.segment.specs.Results.{Answer}
use Rattle.midi_read.specs.Files.{grid, first_event}
use Rattle.midi_read.specs.Walks.{walk}
use Rattle.midi_count.specs.Tallies.{Tallies, fresh, opens, tally}
use Rattle.midi_count.specs.Promise.{tallies, Low, InBar}
use Rattle.midi_fill.specs.Stores.{Buffers, put}

-- a hit that can be stored
pub record Puttable (starts marks : List ℕ) (note step bar steps : ℕ) (x : Buffers) : Type 0 where
  pub known : note < 128
  pub in_bar : InBar step bar steps
  pub postings_low : Low 16777216 x.postings
  pub positions_low : Low 16777216 x.positions
  pub inside_low : Low 16777216 x.inside
  pub starts_low : Low 16777216 starts
  pub marks_low : Low 16777216 marks
  pub a_posting : 1 ≤ get_or x.postings note 0 + opens (get_or x.last note 0) step steps
  pub a_position : 1 ≤ get_or x.positions note 0 + fresh (get_or x.last note 0) step
  pub ids_fit : get_or starts note 0 + (get_or x.postings note 0 + opens (get_or x.last note 0) step steps) ≤ length x.ids
  pub counts_fit : get_or starts note 0 + (get_or x.postings note 0 + opens (get_or x.last note 0) step steps) ≤ length x.counts
  pub steps_fit : get_or marks note 0 + (get_or x.positions note 0 + fresh (get_or x.last note 0) step) ≤ length x.steps
  pub velocities_fit : get_or marks note 0 + (get_or x.positions note 0 + fresh (get_or x.last note 0) step) ≤ length x.velocities

-- what the filling asks: the file was counted, the tables are empty, and the counts fit into the lists
pub record Fillable (file : List ℕ) (ticks steps : ℕ) (starts marks : List ℕ) (x : Buffers) : Type 0 where
  pub small : length file ≤ 16777216
  pub headed : 22 ≤ length file
  pub some_ticks : 1 ≤ ticks
  pub some_steps : 1 ≤ steps
  pub steps_few : steps ≤ 64
  pub no_last : Low 0 x.last
  pub no_postings : Low 0 x.postings
  pub no_positions : Low 0 x.positions
  pub no_inside : Low 0 x.inside
  pub postings_long : length x.postings ≡ 128
  pub positions_long : length x.positions ≡ 128
  pub starts_low : Low 16777216 starts
  pub marks_low : Low 16777216 marks
  pub total : Tallies
  pub counted : walk (tally (grid ticks steps)) (grid ticks steps) file first_event (tallies 0 x.last x.postings x.positions)
      ≡ Ok total
  pub ids_fit : (n : ℕ) → n < 128 → get_or starts n 0 + get_or total.postings n 0 ≤ length x.ids
  pub counts_fit : (n : ℕ) → n < 128 → get_or starts n 0 + get_or total.postings n 0 ≤ length x.counts
  pub steps_fit : (n : ℕ) → n < 128 → get_or marks n 0 + get_or total.positions n 0 ≤ length x.steps
  pub velocities_fit : (n : ℕ) → n < 128 → get_or marks n 0 + get_or total.positions n 0 ≤ length x.velocities

-- the tables and lists afterwards, where the file was read to its end
abbrev pub FilledSo : Answer Buffers → Buffers → Type 0
FilledSo (Ok y) x = x ≡ y
FilledSo (Err e) x = Unit {0}

-- a file that was counted is read to its end
abbrev pub Filled : (file : List ℕ) (ticks steps : ℕ) (starts marks : List ℕ) (before after : Buffers) → Type 0
Filled file ticks steps starts marks x y = FilledSo (walk (put (grid ticks steps) starts marks) (grid ticks steps) file first_event x) y
