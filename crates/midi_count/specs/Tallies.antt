-- The counting pass: per sound how many postings and positions there are, and the bars in all. Ticks never fall in file order, so a hit is
-- on a new step of its sound exactly when that is not the sound's last one.
use Rattle.std.specs.Prelude.{ℕ, ◌+◌, ◌-◌, ◌/◌, cond, List, [], ◌∷◌, eqb, get_or, set}
use Rattle.midi_read.specs.declared.track.Hit.{Hit}
use Rattle.midi_read.specs.Files.{Grid, step_of, bar_of}
use Rattle.midi_bars.specs.Bars.{greater}

-- `last` has a sound's last step plus one, 0 where it has none yet
pub record Tallies : Type 0 where
  pub bars : ℕ
  pub last : List ℕ
  pub postings : List ℕ
  pub positions : List ℕ

-- 1 for a step that is not the last one, else 0
abbrev pub fresh : (last step : ℕ) → ℕ
fresh last step = cond (eqb last (step + 1)) 0 1

-- 1 for a step in a bar that is not the last one's, else 0
abbrev pub opens : (last step steps : ℕ) → ℕ
opens last step steps = cond (eqb last 0) 1 (cond (eqb ((last - 1) / steps) (step / steps)) 0 1)

abbrev pub raised : (l : List ℕ) (i by : ℕ) → List ℕ
raised l i by = set l i (get_or l i 0 + by)

abbrev pub tally : Grid → Tallies → Hit → Tallies
tally g t h = record {
  bars = greater t.bars (bar_of g h + 1);
  last = set t.last h.note (step_of g h + 1);
  postings = raised t.postings h.note (opens (get_or t.last h.note 0) (step_of g h) g.steps);
  positions = raised t.positions h.note (fresh (get_or t.last h.note 0) (step_of g h));
}

-- where the parts of the sounds begin, one behind the other
abbrev pub starts_from : ℕ → List ℕ → List ℕ
starts_from at [] = []
starts_from at (c ∷ cs) = at ∷ starts_from (at + c) cs
