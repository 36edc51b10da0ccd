-- Document 02, wish 7: the number of hits on the display. It is answered as stored; every save and erasure keeps it equal to the sum over
-- the bars held, refused calls leave it, and words whose stored number differs from that sum are 20. Proved in proofs/Counter.antt.
use Rattle.std.specs.Prelude.{Err, Ok, ℕ, ◌+◌, ◌≡◌, List, []}
use Rattle.segment.specs.Results.{Answer}
use Rattle.segment.specs.Refusals.{broken_pad}
use Rattle.segment.specs.declared.refusal.Refusal.{Refusal}
use Rattle.segment.specs.declared.replies.BarRead.{BarRead}
use Rattle.pad_map.specs.Bars.{Bar, hits_in_all}
use Rattle.pad_words.specs.Words.{held}
use Rattle.pad_words.specs.Whole.{Whole}
use Rattle.pad_words.specs.Claims.{Empty}
use Rattle.pad_read.specs.Counter.{pad_hits}
use Rattle.pad_read.specs.Promise.{BarReadBack}
use Rattle.pad_record.specs.Promise.{BarSaved, BarErased}
use Rattle.pad_write.specs.Promise.{PadWritten}
use Rattle.claim_pad.specs.Sequences.{Event, Run, map_after}

-- ---- after any calls, of any number, refused ones among them

-- the sum over the bars that the words hold, which are those of the map
pub record Shows (pad : List ℕ) (bars : List Bar) : Type 0 where
  pub as_held : pad_hits pad ≡ hits_in_all (held pad)
  pub as_mapped : pad_hits pad ≡ hits_in_all bars

-- from any pad, the map after the same calls
abbrev pub ShowsTheSum : Type 0
ShowsTheSum = (events : List Event) (pad pad' : List ℕ) → Whole pad → Run events pad pad' → Shows pad' (map_after events (held pad))

-- from all zeros
abbrev pub ShowsFromEmpty : Type 0
ShowsFromEmpty = (events : List Event) (pad pad' : List ℕ) → Empty pad → Run events pad pad' → Shows pad' (map_after events [])

-- ---- one call: a save adds the hits that it answers, an erasure takes those that it answers off, a refusal leaves the number, whatever
-- the words are

abbrev pub SavingAdds : Type 0
SavingAdds = (pad : List ℕ) (id len : ℕ) (sounds steps velocities : List ℕ) (n : ℕ) (pad' : List ℕ)
    → BarSaved pad id len sounds steps velocities (Ok n) pad' → pad_hits pad' ≡ pad_hits pad + n

abbrev pub ErasingTakesOff : Type 0
ErasingTakesOff = (pad : List ℕ) (id n : ℕ) (pad' : List ℕ) → BarErased pad id (Ok n) pad' → pad_hits pad ≡ pad_hits pad' + n

pub record LeftByRefusals (pad pad' : List ℕ) (x : Refusal) : Type 0 where
  pub saving : (id len : ℕ) (sounds steps velocities : List ℕ) → BarSaved pad id len sounds steps velocities (Err x) pad'
      → pad_hits pad' ≡ pad_hits pad
  pub erasing : (id : ℕ) → BarErased pad id (Err x) pad' → pad_hits pad' ≡ pad_hits pad

abbrev pub RefusalsLeave : Type 0
RefusalsLeave = (pad pad' : List ℕ) (x : Refusal) → LeftByRefusals pad pad' x

-- ---- a stored number that is not the sum: 20 in each of the other calls, whatever else is handed in, and every lent place stays

pub record AllBroken (pad : List ℕ) : Type 0 where
  pub save : (id len : ℕ) (sounds steps velocities : List ℕ) (r : Answer ℕ) (pad' : List ℕ)
      → BarSaved pad id len sounds steps velocities r pad' → (r ≡ Err broken_pad) × (pad' ≡ pad)
  pub erase : (id : ℕ) (r : Answer ℕ) (pad' : List ℕ) → BarErased pad id r pad' → (r ≡ Err broken_pad) × (pad' ≡ pad)
  pub read : (id : ℕ) (sounds steps velocities : List ℕ) (r : Answer BarRead) (sounds' steps' velocities' : List ℕ)
      → BarReadBack pad id sounds steps velocities r sounds' steps' velocities'
      → (r ≡ Err broken_pad) × (sounds' ≡ sounds) × (steps' ≡ steps) × (velocities' ≡ velocities)
  pub write : (text ends out : List ℕ) (r : Answer ℕ) (out' : List ℕ)
      → PadWritten pad text ends out r out' → (r ≡ Err broken_pad) × (out' ≡ out)

abbrev pub WrongTotal : Type 0
WrongTotal = (pad : List ℕ) → (pad_hits pad ≡ hits_in_all (held pad) → ⊥) → AllBroken pad
