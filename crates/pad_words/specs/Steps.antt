-- Where a bar begins among the words, or where it would.
use Rattle.std.specs.Prelude.{Err, Ok, Result, ℕ, ◌+◌, ◌*◌, ◌≤◌, cond, List, [], ◌∷◌, ltb, eqb, length}
use Rattle.pad_map.specs.Bars.{Bar}
use Rattle.pad_words.specs.Words.{size, held}

-- the first bar whose id is not lower decides: `Ok` where it has the id
unfoldable pub place_from : (at : ℕ) → List Bar → (id : ℕ) → Result ℕ ℕ
place_from at [] id = Err at
place_from at (b ∷ bs) id =
    let later = place_from (at + (3 + 2 * length b.hits)) bs id in
    cond (ltb b.id id) later (cond (eqb b.id id) (Ok at) (Err at))

-- the words of all bars lie in the slice
pub record Inside (pad : List ℕ) : Type 0 where
  pub two : 2 ≤ length pad
  pub room : 2 + size (held pad) ≤ length pad
