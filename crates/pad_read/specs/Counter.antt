-- The number of hits on the display (document 02, wish 7): as stored, in word 1, whatever the words are; 0 where there is no such word.
use Rattle.std.specs.Prelude.{ℕ, List, get_or}

abbrev pub pad_hits : (pad : List ℕ) → ℕ
pad_hits pad = get_or pad 1 0
