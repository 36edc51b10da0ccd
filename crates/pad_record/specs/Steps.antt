-- Words moved and stored within a pad.
use Rattle.std.specs.Prelude.{ℕ, ◌+◌, ◌*◌, ◌≤◌, ◌≡◌, List, ◌∷◌, length}
use Rattle.std.proofs.lemmas.List.Edits.{sets}
use Rattle.segment.specs.Records.{between}
use Rattle.pad_map.specs.Bars.{hits_in}
use Rattle.pad_words.specs.Words.{pad_words, hit_words}

-- these words are at an offset, and all else is as it was
pub record Put (words : List ℕ) (at : ℕ) (pad pad' : List ℕ) : Type 0 where
  pub left : pad' ≡ sets pad at words

-- the words of one bar
abbrev pub words_of : (id len : ℕ) (sounds steps velocities : List ℕ) → List ℕ
words_of id len ss ts vs = id ∷ (len ∷ (length ss ∷ hit_words (hits_in ss ts vs)))

-- there is room for the hits of three lists that are equally long
pub record HitsRoom (pad : List ℕ) (at : ℕ) (sounds steps velocities : List ℕ) : Type 0 where
  pub room : at + 2 * length sounds ≤ length pad
  pub as_many_steps : length sounds ≡ length steps
  pub as_many_velocities : length sounds ≡ length velocities

-- there is room for a bar behind the last
pub record BarRoom (pad : List ℕ) (at end : ℕ) (sounds steps velocities : List ℕ) : Type 0 where
  pub order : at ≤ end
  pub room : end + (3 + 2 * length sounds) ≤ length pad
  pub words : length pad ≡ pad_words
  pub as_many_steps : length sounds ≡ length steps
  pub as_many_velocities : length sounds ≡ length velocities

-- the bar's words are at the offset, and behind them the words that were there
pub record BarPut (pad : List ℕ) (at end id len : ℕ) (sounds steps velocities pad' : List ℕ) : Type 0 where
  pub left : pad' ≡ sets (sets pad (at + (3 + 2 * length sounds)) (between at end pad)) at (words_of id len sounds steps velocities)
