-- When document 02 names no refusal for writing a pad out, in words: of the 128 names only those of sounds with hits matter to the writer.
use Rattle.std.specs.Prelude.{ℕ, ◌≤◌, ◌<◌, ◌≡◌, List, [], length, get_or}
use Rattle.common.specs.Elements.{◌∈◌}
use Rattle.utf8.specs.Utf8.{IsUtf8}
use Rattle.segment.specs.Names.{Before}
use Rattle.segment.specs.Texts.{TextShape, names}
use Rattle.calls.specs.Given.{Lists, laid_flat}
use Rattle.calls.specs.Sizes.{segment_size}
use Rattle.pad_map.specs.Bars.{Hit, Bar}
use Rattle.pad_map.specs.Acts.{given_of}
use Rattle.pad_words.specs.Words.{held}
use Rattle.pad_words.specs.Whole.{Whole}

-- a sound with hits
pub record Used (bars : List Bar) (sound : ℕ) : Type 0 where
  pub bar : Bar
  pub hit : Hit
  pub held : bar ∈ bars
  pub own : hit ∈ bar.hits
  pub of : hit.sound ≡ sound

-- the names of sounds with hits are UTF-8, not empty, and rise strictly in byte order by sound number; any other name may be anything
pub record NamesFine (names : List (List ℕ)) (bars : List Bar) : Type 0 where
  pub text : (s : ℕ) → Used bars s → IsUtf8 (get_or names s [])
  pub not_empty : (s : ℕ) → Used bars s → 0 < length (get_or names s [])
  pub rising : (s t : ℕ) → Used bars s → Used bars t → s < t → Before (get_or names s []) (get_or names t [])

-- 128 names in one text
pub record NamesShaped (text ends : List ℕ) : Type 0 where
  pub small : length text ≤ 16777216
  pub number : length ends ≡ 128
  pub shape : TextShape text ends

-- the lists that the writer is handed
abbrev pub map_lists : (pad text ends : List ℕ) → Lists
map_lists pad text ends = laid_flat (given_of (names 0 ends text) (held pad))

-- document 02 names no refusal: for the pad, for the names, or for the room that the segment takes
pub record PadWritable (pad text ends : List ℕ) (room : ℕ) : Type 0 where
  pub whole : Whole pad
  pub shaped : NamesShaped text ends
  pub fine : NamesFine (names 0 ends text) (held pad)
  pub room_enough : segment_size (map_lists pad text ends) ≤ room
