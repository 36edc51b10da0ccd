-- What is claimed of the sheet that is computed (crate calls, specs/Sheet.antt), of all bytes and ids: it is the bar on paper in words, its
-- lines have 80 characters, and it refuses what it should. Proved in proofs/: Agreed, Same, LinesEighty, Enough, Refusing.
use Rattle.std.specs.Prelude.{Err, Ok, ℕ, ◌+◌, ◌*◌, ◌≤◌, ◌<◌, ◌≡◌, cond, List, [], ◌∷◌, ◌++◌, ◌⊎◌, ◌↔◌, eqb, length}
use Rattle.common.specs.Elements.{◌∈◌}
use Rattle.utf8.specs.Utf8.{IsUtf8, decoded}
use Rattle.segment.specs.declared.refusal.Refusal.{Refusal}
use Rattle.segment.specs.Refusals.{numbers, unknown_bar, bar_too_long, no_room}
use Rattle.segment.specs.Records.{Document, Posting, Term, Entry, Segment}
use Rattle.segment.specs.Metadata.{document}
use Rattle.segment.specs.Postings.{decode}
use Rattle.segment.specs.Opening.{open_segment}
use Rattle.segment.specs.Contents.{decode_all}
use Rattle.calls.specs.Sheet.{bar_sheet, sheet_into}
use Rattle.claim_sheet.specs.Words.{OnPaper}

-- ---- in words

-- the segment has a bar with this id and length
abbrev pub HasBar : Segment → (id len : ℕ) → Type 0
HasBar s id len = document id len ∈ s.documents

-- the segment opens, has the bar, of at most 64 steps, all its lists are decoded, and the text is the bar on paper
pub record InWords (bytes : List ℕ) (id : ℕ) (text : List ℕ) : Type 0 where
  pub segment : Segment
  pub opens : open_segment bytes ≡ Ok segment
  pub len : ℕ
  pub known : HasBar segment id len
  pub short : len ≤ 64
  pub sounds : List Term
  pub decoded : decode_all segment.documents segment.entries ≡ Ok sounds
  pub on_paper : OnPaper id len sounds text

abbrev pub SheetInWords : Type 0
SheetInWords = (bytes : List ℕ) (id : ℕ) (text : List ℕ) → (bar_sheet bytes id ≡ Ok text) ↔ InWords bytes id text

-- the words leave no choice
abbrev pub OneSheet : Type 0
OneSheet = (id len : ℕ) (sounds : List Term) (a b : List ℕ) → OnPaper id len sounds a → OnPaper id len sounds b → a ≡ b

-- ---- 80 characters wide

abbrev pub onto_first : ℕ → List (List ℕ) → List (List ℕ)
onto_first b [] = (b ∷ []) ∷ []
onto_first b (piece ∷ pieces) = (b ∷ piece) ∷ pieces

-- bytes split at their line feeds: what stands before the first, between each two, and behind the last
unfoldable pub split : List ℕ → List (List ℕ)
split [] = [] ∷ []
split (b ∷ bytes) = let later = split bytes in cond (eqb b 10) ([] ∷ later) (onto_first b later)

-- lines in UTF-8 of 80 characters each, and nothing behind the last line feed
pub record EightyWide (bytes : List ℕ) : Type 0 where
  pub lines : List (List ℕ)
  pub are : split bytes ≡ lines ++ [] ∷ []
  pub encoded : (line : List ℕ) → line ∈ lines → IsUtf8 line
  pub wide : (line : List ℕ) → line ∈ lines → length (decoded line) ≡ 80

abbrev pub AlwaysEightyWide : Type 0
AlwaysEightyWide = (bytes : List ℕ) (id : ℕ) (text : List ℕ) → bar_sheet bytes id ≡ Ok text → EightyWide text

-- the call's buffer: 81 bytes for the first line and 117 for each term are always enough
abbrev pub AlwaysEnough : Type 0
AlwaysEnough =
    (bytes : List ℕ) (id : ℕ) (text : List ℕ) (s : Segment) → bar_sheet bytes id ≡ Ok text → open_segment bytes ≡ Ok s
    → length text ≤ 81 + 117 * length s.entries

-- ---- refusals

-- a list of the directory is refused, whether or not the bar has its sound, and every one before it is decoded
pub record FirstRefused (documents : List Document) (entries : List Entry) (x : Refusal) : Type 0 where
  pub before : List Entry
  pub entry : Entry
  pub after : List Entry
  pub are : entries ≡ before ++ entry ∷ after
  pub fine : (e : Entry) → e ∈ before → (ps : List Posting) × (decode documents e ≡ Ok ps)
  pub refused : decode documents entry ≡ Err x

-- opening's; 16 for an unknown bar; 17 for one longer than 64 steps; the first in directory order of decoding all sounds
pub data Refused (bytes : List ℕ) (id : ℕ) : Refusal → Type 0 where
  opening : {x : Refusal} → open_segment bytes ≡ Err x → Refused bytes id x
  unknown : {s : Segment} → open_segment bytes ≡ Ok s → ((len : ℕ) → HasBar s id len → ⊥) → Refused bytes id unknown_bar
  too_long : {s : Segment} {len : ℕ} → open_segment bytes ≡ Ok s → HasBar s id len → 64 < len → Refused bytes id bar_too_long
  decoding : {s : Segment} {len : ℕ} {x : Refusal} → open_segment bytes ≡ Ok s → HasBar s id len → len ≤ 64
      → FirstRefused s.documents s.entries x → Refused bytes id x

abbrev pub RefusesExactly : Type 0
RefusesExactly = (bytes : List ℕ) (id : ℕ) (x : Refusal) → (bar_sheet bytes id ≡ Err x) ↔ Refused bytes id x

-- 16 and 17 say nothing else: no other test refuses so
abbrev pub UnknownExactly : Type 0
UnknownExactly =
    (bytes : List ℕ) (id : ℕ)
    → (bar_sheet bytes id ≡ Err unknown_bar)
    ↔ ((s : Segment) × (open_segment bytes ≡ Ok s) × ((len : ℕ) → HasBar s id len → ⊥))

abbrev pub TooLongExactly : Type 0
TooLongExactly =
    (bytes : List ℕ) (id : ℕ)
    → (bar_sheet bytes id ≡ Err bar_too_long)
    ↔ ((s : Segment) × (len : ℕ) × (open_segment bytes ≡ Ok s) × HasBar s id len × (64 < len))

-- every other refusal is opening's or decoding's, of a kind up to 10: never 12, and 13 for want of room only
abbrev pub OtherKinds : Type 0
OtherKinds =
    (bytes : List ℕ) (id : ℕ) (x : Refusal) → bar_sheet bytes id ≡ Err x → (x ≡ unknown_bar) ⊎ (x ≡ bar_too_long) ⊎ ((numbers x).kind ≤ 10)

-- 13 last: where the sheet's bytes are more than the buffer has places, with their number
abbrev pub NoRoomLast : Type 0
NoRoomLast =
    (bytes : List ℕ) (id room : ℕ) (x : Refusal)
    → (sheet_into bytes id room ≡ Err x)
    ↔ (Refused bytes id x
    ⊎ ((text : List ℕ) × (bar_sheet bytes id ≡ Ok text) × (room < length text) × (x ≡ no_room 1 (length text))))

abbrev pub RoomEnough : Type 0
RoomEnough =
    (bytes : List ℕ) (id room : ℕ) (text : List ℕ)
    → (sheet_into bytes id room ≡ Ok text) ↔ ((bar_sheet bytes id ≡ Ok text) × (length text ≤ room))
