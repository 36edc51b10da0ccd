-- What was saved is read back as it was handed in, what was erased is not there, and every other id is as before.
use Rattle.std.specs.Prelude.{Err, Ok, ℕ, ◌≤◌, ◌≡◌, List, ◌++◌, length, drop}
use Rattle.segment.specs.Refusals.{unknown_bar}
use Rattle.segment.specs.Results.{Answer}
use Rattle.segment.specs.declared.replies.BarRead.{BarRead}
use Rattle.pad_read.specs.Promise.{BarReadBack}
use Rattle.pad_record.specs.Promise.{BarSaved, BarErased}

-- reading any other id answers what it answered before, and leaves the lent lists as it did
abbrev pub OthersAsBefore : (id : ℕ) (pad pad' : List ℕ) → Type 0
OthersAsBefore id pad pad' =
    (other : ℕ) → (other ≡ id → ⊥) → (into_sounds into_steps into_velocities : List ℕ) (r : Answer BarRead)
    (into_sounds' into_steps' into_velocities' : List ℕ)
    → BarReadBack pad' other into_sounds into_steps into_velocities r into_sounds' into_steps' into_velocities'
    → BarReadBack pad other into_sounds into_steps into_velocities r into_sounds' into_steps' into_velocities'

-- a bar was saved: with room, its hits and length are answered, and its sounds, steps and velocities fill the lists
pub record ReadsBack (id len : ℕ) (sounds steps velocities : List ℕ) (pad pad' : List ℕ) : Type 0 where
  pub same : (into_sounds into_steps into_velocities : List ℕ) (r : Answer BarRead) (into_sounds' into_steps' into_velocities' : List ℕ)
      → length sounds ≤ length into_sounds → length steps ≤ length into_steps → length velocities ≤ length into_velocities
      → BarReadBack pad' id into_sounds into_steps into_velocities r into_sounds' into_steps' into_velocities'
      → (r ≡ Ok (record { hits = length sounds; len = len })) × (into_sounds' ≡ sounds ++ drop (length sounds) into_sounds)
      × (into_steps' ≡ steps ++ drop (length steps) into_steps)
      × (into_velocities' ≡ velocities ++ drop (length velocities) into_velocities)
  pub others : OthersAsBefore id pad pad'

abbrev pub SavedReadsBack : Type 0
SavedReadsBack = (pad : List ℕ) (id len : ℕ) (sounds steps velocities : List ℕ) (n : ℕ) (pad' : List ℕ)
    → BarSaved pad id len sounds steps velocities (Ok n) pad' → ReadsBack id len sounds steps velocities pad pad'

-- a bar was erased: its id is unknown, whatever the lists
pub record Gone (id : ℕ) (pad pad' : List ℕ) : Type 0 where
  pub unknown : (into_sounds into_steps into_velocities : List ℕ) (r : Answer BarRead) (into_sounds' into_steps' into_velocities' : List ℕ)
      → BarReadBack pad' id into_sounds into_steps into_velocities r into_sounds' into_steps' into_velocities'
      → (r ≡ Err unknown_bar) × (into_sounds' ≡ into_sounds) × (into_steps' ≡ into_steps)
      × (into_velocities' ≡ into_velocities)
  pub others : OthersAsBefore id pad pad'

abbrev pub ErasedIsGone : Type 0
ErasedIsGone = (pad : List ℕ) (id n : ℕ) (pad' : List ℕ) → BarErased pad id (Ok n) pad' → Gone id pad pad'
