-- What the functions of count.rt promise and ask.
use Rattle.std.specs.Prelude.{Err, Ok, ℕ, zero, suc, ◌+◌, ◌/◌, ◌≤◌, ◌<◌, ◌≡◌, List, [], ◌∷◌, length, get_or, set}
use Rattle.segment.specs.Results.{Answer}
use Rattle.midi_read.specs.Files.{Grid, first_event}
use Rattle.midi_read.specs.Walks.{walk}
use Rattle.midi_count.specs.Tallies.{Tallies, fresh, opens, raised, tally}

abbrev pub zeros : ℕ → List ℕ
zeros zero = []
zeros (suc n) = 0 ∷ zeros n

abbrev pub tallies : (bars : ℕ) (last postings positions : List ℕ) → Tallies
tallies b l p q = record { bars = b; last = l; postings = p; positions = q }

-- every place holds at most so much
pub record Low (most : ℕ) (l : List ℕ) : Type 0 where
  pub holds : (i : ℕ) → get_or l i 0 ≤ most

abbrev pub bars_answer : Answer Tallies → Answer ℕ
bars_answer (Ok t) = Ok t.bars
bars_answer (Err x) = Err x

-- the tables afterwards, where the file was read to its end
abbrev pub TablesLeft : Answer Tallies → (last postings positions : List ℕ) → Type 0
TablesLeft (Ok t) l p q = (l ≡ t.last) × (p ≡ t.postings) × (q ≡ t.positions)
TablesLeft (Err x) l p q = Unit {0}

pub record Counts (g : Grid) (file last postings positions : List ℕ) (r : Answer ℕ) (last' postings' positions' : List ℕ) : Type 0 where
  pub reply : r ≡ bars_answer (walk (tally g) g file first_event (tallies 0 last postings positions))
  pub left : TablesLeft (walk (tally g) g file first_event (tallies 0 last postings positions)) last' postings' positions'

-- what the counting asks: a file within the limits, and empty tables
pub record Countable (file : List ℕ) (ticks steps : ℕ) (postings positions : List ℕ) : Type 0 where
  pub small : length file ≤ 16777216
  pub headed : 22 ≤ length file
  pub some_ticks : 1 ≤ ticks
  pub some_steps : 1 ≤ steps
  pub steps_few : steps ≤ 64
  pub no_postings : Low 0 postings
  pub no_positions : Low 0 positions

-- a step with its bar
pub record InBar (step bar steps : ℕ) : Type 0 where
  pub near : step ≤ 4194304
  pub some_steps : 1 ≤ steps
  pub steps_few : steps ≤ 64
  pub bar_is : bar ≡ step / steps

-- a hit that can be noted
pub record Notable (note step bar steps : ℕ) (postings positions : List ℕ) : Type 0 where
  pub known : note < 128
  pub in_bar : InBar step bar steps
  pub postings_low : Low 16777216 postings
  pub positions_low : Low 16777216 positions

-- one hit noted
pub record Noted (note step steps : ℕ) (last postings positions last' postings' positions' : List ℕ) : Type 0 where
  pub last_left : last' ≡ set last note (step + 1)
  pub postings_left : postings' ≡ raised postings note (opens (get_or last note 0) step steps)
  pub positions_left : positions' ≡ raised positions note (fresh (get_or last note 0) step)
