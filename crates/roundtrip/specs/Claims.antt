-- What is claimed of the bytes written: opened and decoded, they give back what was handed in.
use Rattle.std.specs.Prelude.{Ok, ℕ, ◌<◌, ◌^◌, ◌+◌, ◌≡◌, List, [], ◌∷◌, length, get_or}
use Rattle.segment.specs.Records.{Term}
use Rattle.segment.specs.Postings.{total_positions}
use Rattle.segment.specs.Contents.{decode_segment}
use Rattle.calls.specs.Given.{Lists, given, laid_flat}
use Rattle.calls.specs.Writing.{write}

-- the lists hold what their types can: numbers of 32 bits, and bytes in the text
abbrev pub Below : ℕ → List ℕ → Type 0
Below n xs = (i : ℕ) → get_or xs i 0 < n

pub record Typed (l : Lists) : Type 0 where
  pub ids : Below (2 ^ 32) l.ids
  pub lengths : Below (2 ^ 32) l.lengths
  pub text : Below 256 l.text
  pub ends : Below (2 ^ 32) l.ends
  pub posting_counts : Below (2 ^ 32) l.posting_counts
  pub posting_ids : Below (2 ^ 32) l.posting_ids
  pub position_counts : Below (2 ^ 32) l.position_counts
  pub positions : Below (2 ^ 32) l.positions

-- the number of positions in the nested lists
abbrev pub all_position_counts : List Term → ℕ
all_position_counts [] = 0
all_position_counts (t ∷ ts) = total_positions t.postings + all_position_counts ts

-- what was written opens and decodes to the documents, names and postings handed in, in their order; laid flat they are the eight
-- lists; and the position counts add up to the number of positions handed in
pub record ReadBackAs (l : Lists) (bytes : List ℕ) : Type 0 where
  pub back : decode_segment bytes ≡ Ok (given l)
  pub flat : laid_flat (given l) ≡ l
  pub counted : all_position_counts (given l).terms ≡ length l.positions

abbrev pub ReadsBack : Type 0
ReadsBack = (l : Lists) (room : ℕ) (bytes : List ℕ) → Typed l → write l room ≡ Ok bytes → ReadBackAs l bytes
