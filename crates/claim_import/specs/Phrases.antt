-- Document 02, wish 2: a phrase put to an imported and written file lists exactly the bars in which the file's own notes meet it. Of what
-- is computed only the lists are named, and only for the room that they take: which files are read, and what a file plays, are in words.
use Rattle.claim_joint.specs.Demand.{answered, ProperText}
use Rattle.segment.specs.Results.{Answer}
use Rattle.std.specs.Prelude.{Err, Ok, ℕ, ◌≤◌, ◌≡◌, List, ◌++◌, ◌↔◌, length, drop}
use Rattle.common.specs.Elements.{◌∈◌, Rising}
use Rattle.segment.specs.declared.refusal.Refusal.{Refusal}
use Rattle.segment.specs.Texts.{names}
use Rattle.segment.specs.declared.replies.ListTotals.{ListTotals}
use Rattle.rules.specs.declared.rule.Rule.TheVariants.{Phrase}
use Rattle.calls.specs.Sizes.{segment_size}
use Rattle.midi_read.specs.declared.track.Hit.{Hit}
use Rattle.midi_bars.specs.Loudness.{AllLists}
use Rattle.midi_bars.specs.Imports.{import_all, roomy_beside}
use Rattle.midi_read.specs.Tracks.{WithinRules}
use Rattle.midi_bars.specs.Words.{PlaysPhrase}
use Rattle.claim_joint.specs.declared.ask.Asked.{Asked}
use Rattle.claim_import.specs.declared.ask.ImportAsked.{ImportAsked}

-- the bars in which the file's own notes `hs` play the phrase, ascending and without repeats
pub record BarsThatPlay (steps quarter : ℕ) (file : List ℕ) (hs : List Hit) (names : List (List ℕ)) (ids : List ℕ) : Type 0 where
  pub only : (bar : ℕ) → bar ∈ ids → PlaysPhrase steps quarter file hs bar names
  pub every : (bar : ℕ) → PlaysPhrase steps quarter file hs bar names → bar ∈ ids
  pub rising : Rising ids

-- nothing is refused: the file is read into `l`, which fits the nine lent buffers `b`, its segment fits `out`, and the phrase is
-- well-formed and of a name or more
pub record WithoutRefusal (steps quarter : ℕ) (file : List ℕ) (b : AllLists) (out name ends : List ℕ) (l : AllLists) : Type 0 where
  pub read : import_all steps quarter file ≡ Ok l
  pub room : roomy_beside l b ≡ Ok tt
  pub room_to_write : segment_size l.lists ≤ length out
  pub proper : ProperText Phrase name ends

-- the importer's refusal; or so much imported, and what writing and asking answered
abbrev pub not_imported : Refusal → Answer ImportAsked
not_imported x = Err x

abbrev pub import_asked : ListTotals → Answer Asked → Answer ImportAsked
import_asked t a = Ok (record { totals = t; asked = a })

-- imported, written or not, and asked
abbrev pub WasImported : Answer ImportAsked → Type 0
WasImported r = (t : ListTotals) × (a : Answer Asked) × (r ≡ import_asked t a)

-- the lists of the file, where it is read, fit the buffers
abbrev pub RoomForLists : (steps quarter : ℕ) (file : List ℕ) (b : AllLists) → Type 0
RoomForLists steps quarter file b = (l : AllLists) → import_all steps quarter file ≡ Ok l → roomy_beside l b ≡ Ok tt

-- imported exactly when the file is within document 02's rules and its lists fit
abbrev pub ImportedExactly : (steps quarter : ℕ) (file : List ℕ) (b : AllLists) → Answer ImportAsked → Type 0
ImportedExactly steps quarter file b r =
    WasImported r ↔ (((hs : List Hit) × WithinRules steps quarter file hs) × RoomForLists steps quarter file b)

-- the search answers how many there are
abbrev pub Answers : Answer ImportAsked → (how_many : ℕ) → Type 0
Answers r k = (t : ListTotals) × (n : ℕ) × (r ≡ import_asked t (answered n (Ok k)))

-- they fill that many first places of the buffer
pub record BarsListed (steps quarter : ℕ) (file : List ℕ) (hs : List Hit) (names : List (List ℕ)) (found : List ℕ)
    (r : Answer ImportAsked) (found' : List ℕ) : Type 0 where
  pub there_are : (ids : List ℕ) × BarsThatPlay steps quarter file hs names ids
  pub answer : (ids : List ℕ) → BarsThatPlay steps quarter file hs names ids → length ids ≤ length found
      → Answers r (length ids) × (found' ≡ ids ++ drop (length ids) found)

-- the claim, of the file's own notes
abbrev pub PhraseAnswered : (steps quarter : ℕ) (file : List ℕ) (b : AllLists) (out name ends found : List ℕ)
    → Answer ImportAsked → (found' : List ℕ) → Type 0
PhraseAnswered steps quarter file b out name ends found r found' =
    (l : AllLists) → WithoutRefusal steps quarter file b out name ends l
    → (hs : List Hit) × WithinRules steps quarter file hs × BarsListed steps quarter file hs (names 0 ends name) found r found'
