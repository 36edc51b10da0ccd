-- What is claimed of the lists; proved in proofs/.
use Rattle.std.specs.Prelude.{Ok, ℕ, ◌+◌, ◌*◌, ◌%◌, ◌≤◌, ◌<◌, ◌≡◌, true, List, map, ◌↔◌, length}
use Rattle.common.specs.Elements.{◌∈◌, Rising}
use Rattle.segment.specs.Records.{Given, Term, Posting}
use Rattle.calls.specs.Given.{Lists, given}
use Rattle.calls.specs.Acceptance.{ListsFine}
use Rattle.midi_read.specs.declared.track.Hit.{Hit}
use Rattle.midi_read.specs.Files.{Grid, bar_of, position_of, division_fits, chunks, hits}
use Rattle.midi_read.specs.Tracks.{WithinRules}
use Rattle.midi_read.specs.Claims.{Audible}
use Rattle.midi_bars.specs.Bars.{name_of, given_of, lists_of}
use Rattle.midi_bars.specs.Imports.{import_file}
use Rattle.midi_bars.specs.Words.{Plays}

-- hits as a file has them
pub record HitsFine (g : Grid) (hs : List Hit) : Type 0 where
  pub a_step : 1 ≤ g.steps
  pub few : length hs ≤ 16777216
  pub audible : (h : Hit) → h ∈ hs → Audible h
  pub near : (h : Hit) → h ∈ hs → bar_of g h ≤ 65535

-- every file that is read has such hits
abbrev pub ReadFine : Type 0
ReadFine =
    (steps quarter : ℕ) (file : List ℕ) (g : Grid) (hs : List Hit) → 1 ≤ steps → chunks steps quarter file ≡ Ok g → hits g file ≡ Ok hs
    → HitsFine g hs

-- the flat lists stand for the nested ones
abbrev pub StandsFor : Type 0
StandsFor = (g : Grid) (hs : List Hit) → given (lists_of g hs) ≡ given_of g hs

-- the writer, given room, accepts them
abbrev pub Accepted : Type 0
Accepted = (g : Grid) (hs : List Hit) → HitsFine g hs → ListsFine (lists_of g hs)

-- a hit of this sound, in this bar, on this position
pub record Struck (g : Grid) (hs : List Hit) (note bar position : ℕ) : Type 0 where
  pub hit : Hit
  pub there : hit ∈ hs
  pub sound : hit.note ≡ note
  pub in_bar : bar_of g hit ≡ bar
  pub on : position_of g hit ≡ position

-- a position that stands in the lists under a name and a bar
pub record Listed (g : Given) (name : List ℕ) (bar position : ℕ) : Type 0 where
  pub term : Term
  pub posting : Posting
  pub handed_in : term ∈ g.terms
  pub named : term.name ≡ name
  pub under : posting ∈ term.postings
  pub of : posting.doc ≡ bar
  pub on : position ∈ posting.positions

-- the lists have exactly these hits: none is lost, and none is added
pub record HoldsHits (g : Grid) (hs : List Hit) : Type 0 where
  pub kept : (note bar position : ℕ) → note < 128
      → Struck g hs note bar position ↔ Listed (given (lists_of g hs)) (name_of note) bar position
  pub only : (name : List ℕ) (bar position : ℕ) → Listed (given (lists_of g hs)) name bar position
      → (note : ℕ) × (note < 128) × (name ≡ name_of note) × Struck g hs note bar position
  pub bars : (bar : ℕ) → (bar ∈ map (λ d. d.id) (given (lists_of g hs)).documents) ↔ ((h : Hit) × (h ∈ hs) × (bar ≤ bar_of g h))

abbrev pub HitsHeld : Type 0
HitsHeld = (g : Grid) (hs : List Hit) → HitsFine g hs → HoldsHits g hs

-- ---- of a file, in the customer's words

-- a bar up to the last with a hit: some bar from it on has one
pub record UpToAHit (steps quarter : ℕ) (file : List ℕ) (hs : List Hit) (bar : ℕ) : Type 0 where
  pub later : ℕ
  pub note : ℕ
  pub position : ℕ
  pub from_here : bar ≤ later
  pub inside : position < steps
  pub plays : Plays quarter file hs note (steps * later + position)

pub record HoldsFile (steps quarter : ℕ) (file : List ℕ) (hs : List Hit) (l : Lists) : Type 0 where
  -- a hit of bar b, sound n, position p is in the lists exactly when the file has a note-on of note n with velocity above 0 whose tick,
  -- divided by a quarter of the division and rounded down, is 16 b + p
  pub exactly : (note bar position : ℕ) → position < steps
      → Listed (given l) (name_of note) bar position ↔ Plays quarter file hs note (steps * bar + position)
  -- and there is nothing else: every sound is so named, every position within the bar
  pub only : (name : List ℕ) (bar position : ℕ) → Listed (given l) name bar position
      → (note : ℕ) × (note < 128) × (name ≡ name_of note) × (position < steps)
  -- every bar from 0 to the last with a hit is made, in rising order, each of this length
  pub bars : (bar : ℕ) → (bar ∈ l.ids) ↔ UpToAHit steps quarter file hs bar
  pub rising : Rising l.ids
  pub lengths : (n : ℕ) → n ∈ l.lengths → n ≡ steps
  -- the writer, given room, accepts them: the lists fit together, and names, bars and positions rise, so equal hits count once
  pub fine : ListsFine l

-- a file is read exactly when it is within document 02's rules, which crate midi_read has in words
abbrev pub ReadExactly : Type 0
ReadExactly =
    (steps quarter : ℕ) (file : List ℕ)
    → ((l : Lists) × (import_file steps quarter file ≡ Ok l)) ↔ ((hs : List Hit) × WithinRules steps quarter file hs)

-- of every file that is read, whatever the two numbers
abbrev pub FileHeld : Type 0
FileHeld =
    (steps quarter : ℕ) (file : List ℕ) (l : Lists) → 1 ≤ steps → import_file steps quarter file ≡ Ok l
    → (hs : List Hit) × WithinRules steps quarter file hs × HoldsFile steps quarter file hs l

-- the writer, given room, accepts what is read
abbrev pub ImportAccepted : Type 0
ImportAccepted = (steps quarter : ℕ) (file : List ℕ) (l : Lists) → 1 ≤ steps → import_file steps quarter file ≡ Ok l → ListsFine l

-- with 4 steps to a quarter the division is 4 to 32,764, a multiple of 4
abbrev pub DivisionExactly : Type 0
DivisionExactly = (d : ℕ) → (division_fits 4 d ≡ true) ↔ ((4 ≤ d) × (d ≤ 32764) × (d % 4 ≡ 0))
