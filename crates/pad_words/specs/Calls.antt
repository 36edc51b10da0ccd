-- The calls on a pad that test it: 20 before all else, then what the map answers.
use Rattle.std.specs.Prelude.{Err, Ok, ℕ, List}
use Rattle.segment.specs.Refusals.{broken_pad}
use Rattle.segment.specs.Results.{Answer, ◌>>=◌, check}
use Rattle.pad_map.specs.Bars.{Bar, without}
use Rattle.pad_map.specs.Acts.{save, erase, read, write_out}
use Rattle.pad_words.specs.Words.{stored, held}
use Rattle.pad_words.specs.Whole.{whole}

-- the map that the words hold, or 20
unfoldable pub held_bars : (pad : List ℕ) → Answer (List Bar)
held_bars pad = do
  _ ← check (whole pad) broken_pad
  Ok (held pad)

-- the map afterwards
unfoldable pub pad_save : (pad : List ℕ) (id len : ℕ) (sounds steps velocities : List ℕ) → Answer (List Bar)
pad_save pad id len ss ts vs = do
  bars ← held_bars pad
  save bars id len ss ts vs

-- the bar that was erased
unfoldable pub pad_erase : (pad : List ℕ) (id : ℕ) → Answer Bar
pad_erase pad id = do
  bars ← held_bars pad
  erase bars id

-- the bar that was read back
unfoldable pub pad_read : (pad : List ℕ) (id sounds_room steps_room velocities_room : ℕ) → Answer Bar
pad_read pad id sr tr vr = do
  bars ← held_bars pad
  read bars id sr tr vr

-- the bytes written out
unfoldable pub pad_write : (pad text ends : List ℕ) (room : ℕ) → Answer (List ℕ)
pad_write pad text ends room = do
  bars ← held_bars pad
  write_out bars text ends room

-- ---- the words afterwards: those of the map afterwards; a refusal leaves them

abbrev pub saved_words : Answer (List Bar) → (pad : List ℕ) → List ℕ
saved_words (Ok bars) pad = stored bars pad
saved_words (Err x) pad = pad

abbrev pub erased_words : (id : ℕ) → Answer Bar → (pad : List ℕ) → List ℕ
erased_words id (Ok b) pad = stored (without id (held pad)) pad
erased_words id (Err x) pad = pad
