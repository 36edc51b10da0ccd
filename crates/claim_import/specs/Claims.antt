-- What is claimed of the definitions; proved in proofs/Notes.antt and Told.antt.
use Rattle.std.specs.Prelude.{Ok, ℕ, ◌+◌, ◌*◌, ◌≤◌, ◌<◌, ◌≡◌, List, ◌↔◌, length, take}
use Rattle.common.specs.Elements.{◌∈◌}
use Rattle.rules.specs.declared.rule.Rule.TheVariants.{Phrase}
use Rattle.rules.specs.Words.{HasPhrase}
use Rattle.segment.specs.declared.replies.ListTotals.{ListTotals}
use Rattle.calls.specs.Given.{Lists}
use Rattle.midi_read.specs.declared.track.Hit.{Hit}
use Rattle.midi_read.specs.Tracks.{WithinRules}
use Rattle.midi_bars.specs.Bars.{name_of}
use Rattle.midi_bars.specs.Words.{Plays, PlaysPhrase}
use Rattle.midi_bars.specs.Loudness.{AllLists, beside}
use Rattle.midi_bars.specs.Claims.{HoldsFile}
use Rattle.midi_bars.specs.LoudClaims.{HoldsLoudness}
use Rattle.claim_joint.specs.Own.{own}
use Rattle.claim_joint.specs.Demand.{ThoseThatMeet}
use Rattle.midi_import.specs.Promise.{BarsImported}
use Rattle.claim_import.specs.Phrases.{BarsThatPlay}
use Rattle.claim_import.specs.Steps.{fronts}

-- a document's own positions are those on which the file plays
abbrev pub OwnNotes : Type 0
OwnNotes =
    (steps quarter : ℕ) (file : List ℕ) (hs : List Hit) (l : Lists) → HoldsFile steps quarter file hs l
    → (bar : ℕ) (name : List ℕ) (p : ℕ)
    → (p ∈ own l bar name)
    ↔ ((note : ℕ) × (name ≡ name_of note) × (p < steps) × Plays quarter file hs note (steps * bar + p))

-- a document meets a phrase exactly when the file plays it in that bar
abbrev pub PhraseNotes : Type 0
PhraseNotes =
    (steps quarter : ℕ) (file : List ℕ) (hs : List Hit) (l : Lists) → HoldsFile steps quarter file hs l
    → (bar : ℕ) (names : List (List ℕ)) → HasPhrase (own l bar) names ↔ PlaysPhrase steps quarter file hs bar names

-- the documents that demand 3 lists for a phrase of a name or more are the bars in which the file plays it
abbrev pub BarsAgree : Type 0
BarsAgree =
    (steps quarter : ℕ) (file : List ℕ) (hs : List Hit) (l : Lists) → HoldsFile steps quarter file hs l
    → length l.ids ≡ length l.lengths → (names : List (List ℕ)) → 1 ≤ length names → (ids : List ℕ)
    → ThoseThatMeet l Phrase names ids ↔ BarsThatPlay steps quarter file hs names ids

-- the lists that the call fills, the fronts of the first eight buffers, hold exactly what the file plays, and the writer, given room,
-- accepts them
abbrev pub FrontsHeld : Type 0
FrontsHeld =
    (steps quarter : ℕ) (file : List ℕ) (b b' : AllLists) (t : ListTotals) → 1 ≤ steps
    → BarsImported steps quarter file b (Ok t) b'
    → (hs : List Hit) × WithinRules steps quarter file hs × HoldsFile steps quarter file hs (fronts t b'.lists)

-- and beside their positions, at the front of the ninth, how loud they are
abbrev pub FrontsLoud : Type 0
FrontsLoud =
    (steps quarter : ℕ) (file : List ℕ) (b b' : AllLists) (t : ListTotals) → 1 ≤ steps
    → BarsImported steps quarter file b (Ok t) b'
    → (hs : List Hit) × WithinRules steps quarter file hs
    × HoldsLoudness steps quarter file hs (beside (fronts t b'.lists) (take t.positions b'.velocities))
