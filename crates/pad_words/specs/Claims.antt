-- What is claimed of the words; proved in proofs/.
use Rattle.std.specs.Prelude.{ℕ, ◌<◌, ◌≡◌, true, List, [], ◌↔◌, length, get_or}
use Rattle.common.specs.Elements.{◌∈◌}
use Rattle.pad_map.specs.Bars.{Hit, Bar}
use Rattle.pad_words.specs.Words.{pad_words, stored, held}
use Rattle.pad_words.specs.Whole.{Whole, whole}

-- the test is the words
abbrev pub WholeExactly : Type 0
WholeExactly = (pad : List ℕ) → (whole pad ≡ true) ↔ Whole pad

-- every sound fits its part of a word, as it does where a bar's hits are within the rules
abbrev pub SoundsFit : List Bar → Type 0
SoundsFit bars = (b : Bar) → b ∈ bars → (h : Hit) → h ∈ b.hits → h.sound < 256

-- the words of such a map hold that map, whatever lies behind
abbrev pub HeldStored : Type 0
HeldStored = (bars : List Bar) (pad : List ℕ) → SoundsFit bars → held (stored bars pad) ≡ bars

-- the words of a pad are those of the map that they hold
abbrev pub StoredHeld : Type 0
StoredHeld = (pad : List ℕ) → Whole pad → stored (held pad) pad ≡ pad

-- words that are all zero are the empty pad
pub record Empty (pad : List ℕ) : Type 0 where
  pub words : length pad ≡ pad_words
  pub zeros : (i : ℕ) → get_or pad i 0 ≡ 0

abbrev pub ZerosEmpty : Type 0
ZerosEmpty = (pad : List ℕ) → Empty pad → Whole pad × (held pad ≡ [])
