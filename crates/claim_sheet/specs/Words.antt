-- A bar on paper in the customer's words (document 02, wish 3), by the characters of its lines. Nothing here names how a sheet is computed,
-- but for a name in its columns, which is the listing's.
use Rattle.std.specs.Prelude.{ℕ, ◌+◌, ◌/◌, ◌%◌, ◌≤◌, ◌<◌, ◌≡◌, cond, List, [], ◌∷◌, ◌++◌, ◌↔◌, eqb, length, take, drop, get_or, replicate}
use Rattle.common.specs.Elements.{◌∈◌, Rising}
use Rattle.utf8.specs.Utf8.{Scalars, text, decoded}
use Rattle.segment.specs.Records.{Posting, Term}
use Rattle.calls.specs.Listing.{fitted}

-- the bar has a hit of the sound on the step: a posting of the sound's list is the bar's and has the step
pub record Hit (sound : Term) (id step : ℕ) : Type 0 where
  pub posting : Posting
  pub under : posting ∈ sound.postings
  pub of : posting.doc ≡ id
  pub on : step ∈ posting.positions

-- the bar has so many hits of the sound: each step with a hit counts once
pub record Hits (sound : Term) (id number : ℕ) : Type 0 where
  pub steps : List ℕ
  pub are : (s : ℕ) → (s ∈ steps) ↔ Hit sound id s
  pub once : Rising steps
  pub counted : length steps ≡ number

-- the decimal digits of a number: one below 10 has one; any other has those of a tenth of it, rounded down, then its last
pub data Decimal : ℕ → List ℕ → Type 0 where
  one : {n : ℕ} → n < 10 → Decimal n ((48 + n) ∷ [])
  more : {n : ℕ} {front : List ℕ} → 10 ≤ n → Decimal (n / 10) front → Decimal n (front ++ (48 + n % 10) ∷ [])

-- a number right-justified in so many columns: blanks, then its digits
pub record InColumns (width n : ℕ) (columns : List ℕ) : Type 0 where
  pub blanks : ℕ
  pub digits : List ℕ
  pub decimal : Decimal n digits
  pub are : columns ≡ replicate blanks 32 ++ digits
  pub wide : length columns ≡ width

-- 80 characters, line feed not counted
pub record Line (line : List ℕ) : Type 0 where
  pub characters : Scalars line
  pub wide : length line ≡ 80
  pub one_line : 10 ∈ line → ⊥

-- the first line has id and length in 10 columns each, then blanks
pub record FirstLine (id len : ℕ) (line : List ℕ) : Type 0 where
  pub is_line : Line line
  pub has_id : InColumns 10 id (take 10 line)
  pub has_length : InColumns 10 len (take 10 (drop 10 line))
  pub blanks : drop 20 line ≡ replicate 60 32

-- the character for a step: the 64 steps stand behind the name
abbrev pub at_step : (line : List ℕ) (step : ℕ) → ℕ
at_step line step = get_or line (12 + step) 0

-- how many times a character stands in a text
unfoldable pub times : (character : ℕ) → List ℕ → ℕ
times character [] = 0
times character (c ∷ cs) = cond (eqb c character) 1 0 + times character cs

-- a sound's line has its name, cut or padded to 12 characters, 64 steps, and the number of hits right-justified in 4 columns: a hit is o
-- (111), another step of the bar a full stop (46), a step past its length blank (32); no hit is past its length
pub record SoundLine (sound : Term) (id len : ℕ) (line : List ℕ) : Type 0 where
  pub is_line : Line line
  pub name : take 12 line ≡ fitted 12 (decoded sound.name)
  pub hit : (s : ℕ) → s < 64 → (at_step line s ≡ 111) ↔ Hit sound id s
  pub other : (s : ℕ) → s < 64 → s < len → (Hit sound id s → ⊥) → at_step line s ≡ 46
  pub past : (s : ℕ) → s < 64 → len ≤ s → at_step line s ≡ 32
  pub inside : (s : ℕ) → Hit sound id s → s < len
  pub hits : ℕ
  pub are_hits : Hits sound id hits
  -- as many as there are o on its 64 steps
  pub as_many : hits ≡ times 111 (take 64 (drop 12 line))
  pub number : InColumns 4 hits (drop 76 line)

-- one line for each sound of the bar, in directory order: the bar's sounds are those that have a hit in it
pub data SoundLines (id len : ℕ) : List Term → List (List ℕ) → Type 0 where
  none : SoundLines id len [] []
  silent : {t : Term} {ts : List Term} {lines : List (List ℕ)} → ((s : ℕ) → Hit t id s → ⊥) → SoundLines id len ts lines
      → SoundLines id len (t ∷ ts) lines
  drawn : {t : Term} {ts : List Term} {line : List ℕ} {lines : List (List ℕ)} → (s : ℕ) → Hit t id s → SoundLine t id len line
      → SoundLines id len ts lines → SoundLines id len (t ∷ ts) (line ∷ lines)

-- lines in UTF-8, a line feed behind each
abbrev pub in_bytes : List (List ℕ) → List ℕ
in_bytes [] = []
in_bytes (line ∷ lines) = text line ++ 10 ∷ in_bytes lines

-- the bytes are the sheet of the bar with this id and length, of sounds in directory order
pub record OnPaper (id len : ℕ) (sounds : List Term) (bytes : List ℕ) : Type 0 where
  pub first : List ℕ
  pub others : List (List ℕ)
  pub first_line : FirstLine id len first
  pub sound_lines : SoundLines id len sounds others
  pub are_bytes : bytes ≡ in_bytes (first ∷ others)
