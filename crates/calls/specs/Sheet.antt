-- The sheet (document 02, wish 3): a bar on paper, in lines of 80 characters, each with a line feed. The first has id and length in 10
-- columns each, then blanks; then comes a line for each sound of the bar, in directory order: its name, cut or padded to 12 characters, 64
-- steps, and the number of hits, right-justified in 4 columns. A hit is o, another step of the bar a full stop, a step past its length
-- blank.
use Rattle.std.specs.Prelude.{Err, None, Ok, Option, Some, ℕ, zero, suc, ◌-◌, cond, List, [], ◌∷◌, ◌++◌, ltb, leb, length, replicate}
use Rattle.segment.specs.Refusals.{unknown_bar, bar_too_long}
use Rattle.segment.specs.Results.{Answer, ◌>>=◌, check, roomy}
use Rattle.segment.specs.Records.{Term}
use Rattle.segment.specs.Metadata.{length_of}
use Rattle.segment.specs.Opening.{open_segment}
use Rattle.segment.specs.Contents.{decode_all}
use Rattle.rules.specs.Rules.{has}
use Rattle.calls.specs.Lookups.{positions_of}
use Rattle.calls.specs.Listing.{digits, column, name_column}

-- a number, right-justified in `width` columns; the listing's columns have 10
unfoldable pub right_justified : (width n : ℕ) → List ℕ
right_justified width n = replicate (width - length (digits 20 n [])) 32 ++ digits 20 n []

-- a step of a bar of this length: o where it has a hit, else a full stop, and a space past the bar's length
abbrev pub mark : (len : ℕ) (hits : List ℕ) (step : ℕ) → ℕ
mark len hits step = cond (has hits step) 111 (cond (ltb step len) 46 32)

-- so many steps from one on
unfoldable pub marks : (len : ℕ) (hits : List ℕ) (many from : ℕ) → List ℕ
marks len hits zero from = []
marks len hits (suc n) from = mark len hits from ∷ marks len hits n (suc from)

unfoldable pub heading : (id len : ℕ) → List ℕ
heading id len = column id ++ column len ++ replicate 60 32 ++ 10 ∷ []

unfoldable pub sound_line : (len : ℕ) (name hits : List ℕ) → List ℕ
sound_line len name hits = name_column 12 name ++ marks len hits 64 0 ++ right_justified 4 (length hits) ++ 10 ∷ []

-- the bar's sounds are those that have a hit in it
abbrev pub line_of : (len : ℕ) (name hits : List ℕ) → List ℕ
line_of len name [] = []
line_of len name (h ∷ hs) = sound_line len name (h ∷ hs)

unfoldable pub sound_lines : (id len : ℕ) → List Term → List ℕ
sound_lines id len [] = []
sound_lines id len (t ∷ ts) = line_of len t.name (positions_of t.postings id) ++ sound_lines id len ts

unfoldable pub sheet : (id len : ℕ) → List Term → List ℕ
sheet id len ts = heading id len ++ sound_lines id len ts

-- the length of the bar, where there is such a bar
abbrev pub known_bar : Option ℕ → Answer ℕ
known_bar None = Err unknown_bar
known_bar (Some len) = Ok len

-- every list of the directory is decoded, whether or not the bar has the sound
unfoldable pub bar_sheet : (bytes : List ℕ) (id : ℕ) → Answer (List ℕ)
bar_sheet bytes id = do
  s ← open_segment bytes
  len ← known_bar (length_of s.documents id)
  _ ← check (leb len 64) bar_too_long
  ts ← decode_all s.documents s.entries
  Ok (sheet id len ts)

-- the sheet, or 13 where the buffer is too short for it; `room` is how many places it has
unfoldable pub sheet_into : (bytes : List ℕ) (id room : ℕ) → Answer (List ℕ)
sheet_into bytes id room = do
  text ← bar_sheet bytes id
  _ ← roomy 1 (length text) room
  Ok text
