-- What the code over the lent slice computes.
use Rattle.std.specs.Prelude.{Ok, ℕ, zero, suc, ◌+◌, ◌*◌, ◌≤◌, ◌<◌, ◌≡◌, List, [], ◌∷◌, ◌++◌, length}
use Rattle.segment.specs.declared.refusal.Numbers.{Numbers}
use Rattle.read_open.specs.declared.directory.NameRange.{NameRange}
use Rattle.read_open.specs.declared.header.Layout.{Layout}
use Rattle.segment.specs.Results.{Answer, roomy, ◌>>=◌}
use Rattle.segment.specs.Records.{Segment, field, entry_size}
use Rattle.read_open.specs.Steps.{entry_at, EntryInside}
use Rattle.read_open.specs.Opened.{IsOpen}
use Rattle.calls.specs.Replies.{count_of, filled}
use Rattle.calls.specs.Listing.{column, entry_line, text_of}

-- where entry i's name lies in the term bytes
abbrev pub name_range : (dir : List ℕ) (i : ℕ) → NameRange
name_range dir i = record {
  start = field 4 (i * entry_size) dir;
  end = field 4 (i * entry_size) dir + field 4 (i * entry_size + 4) dir;
}

unfoldable pub entry_lines_at : (dir names : List ℕ) (remaining i : ℕ) → List ℕ
entry_lines_at dir names zero i = []
entry_lines_at dir names (suc n) i = entry_line (entry_at dir names [] i) ++ entry_lines_at dir names n (suc i)

-- room for one term's line
abbrev pub LineRoom : (dir names : List ℕ) (i : ℕ) (out : List ℕ) (at : ℕ) → Type 0
LineRoom dir names i out at = at + length (entry_line (entry_at dir names [] i)) ≤ length out

-- the first terms' entries and names lie in their sections
abbrev pub EntriesInside : (dir names : List ℕ) (terms : ℕ) → Type 0
EntriesInside dir names terms = (i : ℕ) → i < terms → EntryInside dir names i

-- and there is room for their lines
pub record EntriesRoom (dir names : List ℕ) (terms : ℕ) (out : List ℕ) (at : ℕ) : Type 0 where
  pub inside : EntriesInside dir names terms
  pub room : at + length (entry_lines_at dir names terms 0) ≤ length out

abbrev pub text_into : (text : List ℕ) (room : ℕ) → Answer (List ℕ)
text_into text room = roomy 1 (length text) room >>= λ _. Ok text

pub record TextListed (text out : List ℕ) (r : Answer ℕ) (out' : List ℕ) : Type 0 where
  pub reply : r ≡ count_of (text_into text (length out))
  pub left : out' ≡ filled (λ t. t) (text_into text (length out)) out

-- the line of any three numbers; that of a refusal's is its `refusal_line`
unfoldable pub numbers_line : Numbers → List ℕ
numbers_line x = column x.kind ++ column x.which ++ column x.index ++ 10 ∷ []

abbrev pub RefusalListed : Numbers → (out : List ℕ) → Answer ℕ → List ℕ → Type 0
RefusalListed x out r out' = TextListed (numbers_line x) out r out'

abbrev pub SegmentListed : (bytes : List ℕ) → Layout → (out : List ℕ) → Answer ℕ → List ℕ → Type 0
SegmentListed bytes l out r out' = (s : Segment) → IsOpen bytes l s → TextListed (text_of (Ok s)) out r out'
