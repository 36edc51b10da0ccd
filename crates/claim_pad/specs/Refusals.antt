-- Document 02, wishes 6 and 9: when the calls on a pad answer 20, when saving answers 18 and 22, and when writing out does not answer 13,
-- in words; proved in proofs/Refused.antt.
use Rattle.std.specs.Prelude.{Err, None, ℕ, ◌≤◌, ◌≡◌, List, ◌↔◌}
use Rattle.segment.specs.Refusals.{no_room, already_held, broken_pad, velocity_range}
use Rattle.pad_map.specs.Bars.{lookup}
use Rattle.pad_map.specs.Claims.{VelocityOut}
use Rattle.pad_words.specs.Words.{held}
use Rattle.pad_words.specs.Whole.{Whole}
use Rattle.pad_words.specs.Calls.{pad_save, pad_erase, pad_read, pad_write}
use Rattle.claim_pad.specs.Claims.{most_bytes}

-- whatever else is handed in, each call but the counter answers 20 exactly where the words are no pad: the map's own refusals are others
pub record TellsBroken (pad : List ℕ) : Type 0 where
  pub save : (id len : ℕ) (sounds steps velocities : List ℕ)
      → (pad_save pad id len sounds steps velocities ≡ Err broken_pad) ↔ (Whole pad → ⊥)
  pub erase : (id : ℕ) → (pad_erase pad id ≡ Err broken_pad) ↔ (Whole pad → ⊥)
  pub read : (id sounds_room steps_room velocities_room : ℕ)
      → (pad_read pad id sounds_room steps_room velocities_room ≡ Err broken_pad) ↔ (Whole pad → ⊥)
  pub write : (text ends : List ℕ) (room : ℕ) → (pad_write pad text ends room ≡ Err broken_pad) ↔ (Whole pad → ⊥)

abbrev pub BrokenExactly : Type 0
BrokenExactly = (pad : List ℕ) → TellsBroken pad

-- saving answers 18 exactly where a pad holds a bar under the id, whatever the bar's lists
abbrev pub HeldExactly : Type 0
HeldExactly =
    (pad : List ℕ) (id len : ℕ) (sounds steps velocities : List ℕ)
    → (pad_save pad id len sounds steps velocities ≡ Err already_held) ↔ (Whole pad × (lookup (held pad) id ≡ None → ⊥))

-- saving answers 22 exactly where a pad does not hold the id, the lists are side by side, every sound is at most 127 and some velocity is
-- outside its range
abbrev pub RangeExactly : Type 0
RangeExactly =
    (pad : List ℕ) (id len : ℕ) (sounds steps velocities : List ℕ)
    → (pad_save pad id len sounds steps velocities ≡ Err velocity_range)
    ↔ (Whole pad × (lookup (held pad) id ≡ None) × VelocityOut sounds steps velocities)

-- a slice of so many places is never too short, whatever the pad and the names
abbrev pub NeverShort : Type 0
NeverShort =
    (pad text ends : List ℕ) (room : ℕ) → most_bytes text ≤ room → (needed : ℕ)
    → pad_write pad text ends room ≡ Err (no_room 1 needed) → ⊥
