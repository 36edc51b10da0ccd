-- The lines of a sheet as the code comes to them: by a layout of the segment, one entry of the directory after another.
use Rattle.std.specs.Prelude.{Err, None, Ok, Some, ℕ, zero, suc, ◌+◌, ◌≤◌, ◌≡◌, List, [], ◌++◌, leb, length}
use Rattle.segment.specs.Refusals.{bar_too_long}
use Rattle.segment.specs.Results.{Answer, ◌>>=◌, check, roomy}
use Rattle.segment.specs.Records.{Document, Entry}
use Rattle.segment.specs.Metadata.{length_of}
use Rattle.segment.specs.Postings.{decode}
use Rattle.read_cursors.specs.Held.{held_documents}
use Rattle.read_open.specs.declared.header.Layout.{Layout}
use Rattle.read_open.specs.Steps.{cut, entry_at}
use Rattle.read_open.specs.Opened.{OpenedAs}
use Rattle.calls.specs.Lookups.{positions_of}
use Rattle.calls.specs.Sheet.{line_of, known_bar, heading}
use Rattle.calls.specs.Replies.{count_of, filled}
use Rattle.show_sheet.specs.declared.bar.Bar.{Bar}

-- ---- the bar

abbrev pub documents_in : List ℕ → Layout → List Document
documents_in bytes l = held_documents l.documents None (cut bytes l).metadata

-- the length of a bar that is on paper
abbrev pub paper_length : List Document → (id : ℕ) → Answer ℕ
paper_length documents id = known_bar (length_of documents id) >>= λ len. check (leb len 64) bar_too_long >>= λ _. Ok len

abbrev pub bar_found : (id : ℕ) → Answer ℕ → Answer Bar
bar_found id (Ok len) = Ok (record { id = record { 0 = id }; len = len })
bar_found id (Err x) = Err x

-- a bar of the segment, short enough for the paper
pub record Drawable (bytes : List ℕ) (l : Layout) (bar : Bar) : Type 0 where
  pub opened : OpenedAs bytes l
  pub known : length_of (documents_in bytes l) bar.id.0 ≡ Some bar.len
  pub short : bar.len ≤ 64

-- ---- its lines

abbrev pub entry_in : List ℕ → Layout → ℕ → Entry
entry_in bytes l i = entry_at (cut bytes l).directory (cut bytes l).names (cut bytes l).lists i

-- an entry's list decoded, and its line: empty where the bar has no hit of it
unfoldable pub line_in : (documents : List Document) (bar : Bar) → Entry → Answer (List ℕ)
line_in documents bar e = do
  ps ← decode documents e
  Ok (line_of bar.len e.name (positions_of ps bar.id.0))

unfoldable pub lines_in : (bytes : List ℕ) (l : Layout) (bar : Bar) (remaining i : ℕ) → Answer (List ℕ)
lines_in bytes l bar zero i = Ok []
lines_in bytes l bar (suc n) i = do
  line ← line_in (documents_in bytes l) bar (entry_in bytes l i)
  more ← lines_in bytes l bar n (suc i)
  Ok (line ++ more)

-- ---- what was decoded, drawn

abbrev pub text_in : Answer (List ℕ) → List ℕ
text_in (Ok text) = text
text_in (Err x) = []

abbrev pub Decoded : Answer (List ℕ) → Type 0
Decoded r = (text : List ℕ) × (r ≡ Ok text)

-- a text that was measured, and room for it
pub record RoomFor (r : Answer (List ℕ)) (out : List ℕ) (at : ℕ) : Type 0 where
  pub decoded : Decoded r
  pub room : at + length (text_in r) ≤ length out

-- a text into a buffer, or 13
abbrev pub into : Answer (List ℕ) → (room : ℕ) → Answer (List ℕ)
into r room = r >>= λ text. roomy 1 (length text) room >>= λ _. Ok text

-- the sheet of a bar that is on paper
abbrev pub sheet_in : (bytes : List ℕ) → Layout → Bar → Answer (List ℕ)
sheet_in bytes l bar = lines_in bytes l bar l.terms 0 >>= λ lines. Ok (heading bar.id.0 bar.len ++ lines)

pub record SheetDrawn (bytes : List ℕ) (l : Layout) (bar : Bar) (out : List ℕ) (r : Answer ℕ) (out' : List ℕ) : Type 0 where
  pub reply : r ≡ count_of (into (sheet_in bytes l bar) (length out))
  pub left : out' ≡ filled (λ text. text) (into (sheet_in bytes l bar) (length out)) out
