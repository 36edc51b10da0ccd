-- What saving and erasing promise: the reply, the words afterwards, and the map that they then hold.
use Rattle.std.specs.Prelude.{Err, Ok, ℕ, ◌≡◌, List, length}
use Rattle.segment.specs.Results.{Answer}
use Rattle.pad_map.specs.Bars.{Bar, without}
use Rattle.pad_words.specs.Words.{held}
use Rattle.pad_words.specs.Calls.{held_bars, pad_save, pad_erase, saved_words, erased_words}

-- saving answers the hits that were handed in
abbrev pub save_answer : (hits : ℕ) → Answer (List Bar) → Answer ℕ
save_answer hits (Ok bars) = Ok hits
save_answer hits (Err x) = Err x

pub record BarSaved (pad : List ℕ) (id len : ℕ) (sounds steps velocities : List ℕ) (r : Answer ℕ) (pad' : List ℕ) : Type 0 where
  pub reply : r ≡ save_answer (length sounds) (pad_save pad id len sounds steps velocities)
  pub words : pad' ≡ saved_words (pad_save pad id len sounds steps velocities) pad
  -- a pad again, which holds the new map
  pub map : (bars : List Bar) → pad_save pad id len sounds steps velocities ≡ Ok bars → held_bars pad' ≡ Ok bars

-- erasing answers the hits that the bar had
abbrev pub erase_answer : Answer Bar → Answer ℕ
erase_answer (Ok b) = Ok (length b.hits)
erase_answer (Err x) = Err x

pub record BarErased (pad : List ℕ) (id : ℕ) (r : Answer ℕ) (pad' : List ℕ) : Type 0 where
  pub reply : r ≡ erase_answer (pad_erase pad id)
  pub words : pad' ≡ erased_words id (pad_erase pad id) pad
  -- a pad again, which holds the other bars
  pub map : (b : Bar) → pad_erase pad id ≡ Ok b → held_bars pad' ≡ Ok (without id (held pad))
