-- What is claimed of writing a pad out: of the lists that the writer is handed, of when it writes, and of the bytes; proved in
-- proofs/Writable.antt, Sized.antt, Alike.antt, Hits.antt and Searched.antt.
use Rattle.std.specs.Prelude.{None, Ok, Option, Some, ℕ, ◌+◌, ◌^◌, ◌≤◌, ◌≡◌, List, [], ◌∷◌, map, ◌↔◌, length}
use Rattle.common.specs.Elements.{◌∈◌}
use Rattle.segment.specs.Results.{Answer, ◌>>=◌}
use Rattle.segment.specs.Texts.{names}
use Rattle.rules.specs.declared.rule.Rule.TheVariants.{Phrase}
use Rattle.calls.specs.Acceptance.{ListsFine}
use Rattle.calls.specs.Checks.{check_name, check_lists}
use Rattle.calls.specs.Questions.{search_text}
use Rattle.calls.specs.Replies.{count_of, filled}
use Rattle.write_segment.specs.Promise.{Wrote}
use Rattle.roundtrip.specs.Claims.{Below}
use Rattle.claim_joint.specs.Own.{own}
use Rattle.claim_joint.specs.Demand.{ThoseThatMeet, ProperText}
use Rattle.pad_map.specs.Bars.{Bar}
use Rattle.pad_map.specs.Acts.{terms_of}
use Rattle.pad_map.specs.Claims.{BarsAlike}
use Rattle.pad_words.specs.Words.{held}
use Rattle.pad_words.specs.Whole.{Whole}
use Rattle.pad_words.specs.Calls.{pad_write}
use Rattle.pad_write.specs.Promise.{PadWritten}
use Rattle.claim_pad.specs.Phrases.{HasHit, BarsThatMeet, BarsListed}
use Rattle.claim_pad.specs.Written.{NamesFine, NamesShaped, map_lists, PadWritable}

-- ---- when a pad is written

-- once 20, 12 and 11 are past, writing out promises exactly what the writer does for the map's lists, refusals and all
abbrev pub AsTheWriter : Type 0
AsTheWriter =
    (pad text ends : List ℕ) → Whole pad → NamesShaped text ends → (out : List ℕ) (r : Answer ℕ) (out' : List ℕ)
    → PadWritten pad text ends out r out' ↔ Wrote (map_lists pad text ends) out r out'

-- the writer's checks of names alone, one after the other: 10, 6/6, 6/16
unfoldable pub check_used : (previous : Option (List ℕ)) → List (List ℕ) → Answer (Unit {0})
check_used previous [] = Ok tt
check_used previous (n ∷ ns) = do
  _ ← check_name previous n
  check_used (Some n) ns

-- the names of sounds with hits, by rising number
abbrev pub used_names : (names : List (List ℕ)) (bars : List Bar) → List (List ℕ)
used_names ns bars = map (λ t. t.name) (terms_of 0 ns bars)

-- the writer has nothing against a map's lists but what it has against the names of sounds with hits: its refusals, apart from the room,
-- are these names'
abbrev pub NamesDecide : Type 0
NamesDecide =
    (pad text ends : List ℕ) → Whole pad → NamesShaped text ends
    → check_lists (map_lists pad text ends) ≡ check_used None (used_names (names 0 ends text) (held pad))

-- and they pass exactly in these words
abbrev pub OnlyNames : Type 0
OnlyNames =
    (pad text ends : List ℕ) → Whole pad → NamesShaped text ends
    → ListsFine (map_lists pad text ends) ↔ NamesFine (names 0 ends text) (held pad)

-- written exactly where no refusal is named
abbrev pub WrittenExactly : Type 0
WrittenExactly =
    (pad text ends : List ℕ) (room : ℕ)
    → ((bytes : List ℕ) × (pad_write pad text ends room ≡ Ok bytes)) ↔ PadWritable pad text ends room

-- no pad takes more bytes: 72, 32 for each of 128 sounds, 10 for each of 256 bars, 15 for each of 8,192 hits, and the names' text
abbrev pub most_bytes : (text : List ℕ) → ℕ
most_bytes text = 129608 + length text

abbrev pub AlwaysEnough : Type 0
AlwaysEnough =
    (pad text ends : List ℕ) (room : ℕ) (bytes : List ℕ) → pad_write pad text ends room ≡ Ok bytes → length bytes ≤ most_bytes text

-- pads that differ in velocities alone are written alike: the same promise, refusals too, for any names and any room
abbrev pub WrittenAlike : Type 0
WrittenAlike =
    (pad other : List ℕ) → Whole pad → Whole other → BarsAlike (held pad) (held other) → (text ends out : List ℕ) (r : Answer ℕ)
    (out' : List ℕ)
    → PadWritten pad text ends out r out' ↔ PadWritten other text ends out r out'

-- ---- what was written, and the search

-- a document's own positions of a name are the steps of its bar's own hits of that name
abbrev pub OwnHits : Type 0
OwnHits =
    (pad text ends : List ℕ) → Whole pad → NamesShaped text ends → (id : ℕ) (name : List ℕ) (p : ℕ)
    → (p ∈ own (map_lists pad text ends) id name)
    ↔ ((b : Bar) × (b ∈ held pad) × (b.id ≡ id) × HasHit (names 0 ends text) b name p)

-- the documents that demand 3 lists for a phrase of a name or more are the bars whose own hits meet it
abbrev pub BarsAgree : Type 0
BarsAgree =
    (pad text ends : List ℕ) → Whole pad → NamesShaped text ends → (phrase : List (List ℕ)) → 1 ≤ length phrase → (ids : List ℕ)
    → ThoseThatMeet (map_lists pad text ends) Phrase phrase ids ↔ BarsThatMeet (held pad) (names 0 ends text) phrase ids

-- a proper phrase put to what was written of a pad of 32-bit words lists exactly these bars
abbrev pub PhraseLists : Type 0
PhraseLists =
    (pad text ends : List ℕ) (room : ℕ) (bytes : List ℕ) → Below (2 ^ 32) pad → Below 256 text → pad_write pad text ends room ≡ Ok bytes
    → (name name_ends : List ℕ) → ProperText Phrase name name_ends → (found : List ℕ)
    → BarsListed (held pad) (names 0 ends text) (names 0 name_ends name) found
    (count_of (search_text bytes Phrase name name_ends (length found)))
    (filled (λ xs. xs) (search_text bytes Phrase name name_ends (length found)) found)
