-- The listing (document 01): first line the counts of documents and terms; then id and length per document; then per term, in directory
-- order, its name, cut or padded with spaces to 16 characters (document 02, wish 1), and df. Numbers are right-justified in 10 columns;
-- every line ends with a line feed. A refusal prints one line, its three numbers, and nothing else.
use Rattle.std.specs.Prelude.{Err, Ok}
use Rattle.std.specs.Prelude.{ℕ, zero, suc, ◌+◌, ◌-◌, ◌/◌, ◌%◌, cond, ◌||◌, List, [], ◌∷◌, ◌++◌, map, ltb, leb, eqb, length, take, replicate}
use Rattle.utf8.specs.Utf8.{text, decoded}
use Rattle.segment.specs.declared.refusal.Refusal.{Refusal}
use Rattle.segment.specs.Refusals.{numbers, too_large}
use Rattle.segment.specs.Results.{Answer, ◌>>=◌, check, roomy}
use Rattle.segment.specs.Records.{Document, Entry, Segment}
use Rattle.segment.specs.Opening.{open_segment}

-- the decimal digits of a number in front of a text, at most `most` of them
unfoldable pub digits : (most n : ℕ) (rest : List ℕ) → List ℕ
digits zero n rest = rest
digits (suc m) n rest =
    let all = digits m (n / 10) ((48 + n % 10) ∷ rest) in
    cond (ltb n 10) ((48 + n) ∷ rest) all

-- a number of at most 20 digits, right-justified in 10 columns
unfoldable pub column : ℕ → List ℕ
column n = replicate (10 - length (digits 20 n [])) 32 ++ digits 20 n []

-- a character as it prints: those below 32 and 127 as ?
abbrev pub shown : ℕ → ℕ
shown c = cond (ltb c 32 || eqb c 127) 63 c

-- characters, cut or padded with spaces to `width` of them
abbrev pub fitted : (width : ℕ) (characters : List ℕ) → List ℕ
fitted width characters = map shown (take width characters) ++ replicate (width - length characters) 32

-- a name's column: its characters, one for each code point, cut or padded, in UTF-8 again
unfoldable pub name_column : (width : ℕ) (name : List ℕ) → List ℕ
name_column width name = text (fitted width (decoded name))

unfoldable pub count_line : Segment → List ℕ
count_line s = column (length s.documents) ++ column (length s.entries) ++ 10 ∷ []

unfoldable pub document_line : Document → List ℕ
document_line d = column d.id ++ column d.len ++ 10 ∷ []

unfoldable pub entry_line : Entry → List ℕ
entry_line e = name_column 16 e.name ++ column e.df ++ 10 ∷ []

unfoldable pub document_lines : List Document → List ℕ
document_lines [] = []
document_lines (d ∷ ds) = document_line d ++ document_lines ds

unfoldable pub entry_lines : List Entry → List ℕ
entry_lines [] = []
entry_lines (e ∷ es) = entry_line e ++ entry_lines es

unfoldable pub refusal_line : Refusal → List ℕ
refusal_line x = column (numbers x).kind ++ column (numbers x).which ++ column (numbers x).index ++ 10 ∷ []

abbrev pub text_of : Answer Segment → List ℕ
text_of (Ok s) = count_line s ++ document_lines s.documents ++ entry_lines s.entries
text_of (Err x) = refusal_line x

-- a segment of at most 65,536 bytes
unfoldable pub listable : List ℕ → Answer Segment
listable bytes = do
  _ ← check (leb (length bytes) 65536) too_large
  open_segment bytes

unfoldable pub listing : List ℕ → List ℕ
listing bytes = text_of (listable bytes)

-- the text, or 13 where the slice is too short for it; `room` is how many places it has
unfoldable pub list_into : (bytes : List ℕ) (room : ℕ) → Answer (List ℕ)
list_into bytes room = do
  _ ← roomy 1 (length (listing bytes)) room
  Ok (listing bytes)
