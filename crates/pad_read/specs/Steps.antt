-- What the loop that reads a bar back asks for, and what it leaves in the three lent lists.
use Rattle.std.specs.Prelude.{ℕ, ◌+◌, ◌*◌, ◌%◌, ◌≤◌, ◌≡◌, List, map, length}
use Rattle.calls.specs.Replies.{fronted}
use Rattle.pad_map.specs.Bars.{Hit}

-- the low byte of a word; of a velocity in a pad it is the velocity itself
abbrev pub low_byte : ℕ → ℕ
low_byte x = x % 256

-- the hits lie in the slice, and all three lists have room for them
pub record Fillable (pad : List ℕ) (from count : ℕ) (sounds steps velocities : List ℕ) : Type 0 where
  pub inside : from + 2 * count ≤ length pad
  pub sounds_room : count ≤ length sounds
  pub steps_room : count ≤ length steps
  pub velocities_room : count ≤ length velocities

pub record HitsFilled (hits : List Hit) (sounds steps velocities sounds' steps' velocities' : List ℕ) : Type 0 where
  pub sounds_left : sounds' ≡ fronted (map (λ h. h.sound) hits) sounds
  pub steps_left : steps' ≡ fronted (map (λ h. h.step) hits) steps
  pub velocities_left : velocities' ≡ fronted (map (λ h. low_byte h.velocity) hits) velocities
