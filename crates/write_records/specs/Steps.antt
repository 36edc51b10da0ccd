-- Records and two lists of numbers, exchanged index by index as far as the shortest goes.
use Rattle.std.specs.Prelude.{Err, Ok, ℕ, ◌≤◌, List, [], ◌∷◌, ◌≡◌, cond, ◌&&◌, leb, eqb, length}
use Rattle.write_records.specs.declared.exchange.DocumentLength.{DocumentLength}
use Rattle.segment.specs.Refusals.{too_large, list_shape}
use Rattle.segment.specs.Results.{Answer, ◌>>=◌}
use Rattle.calls.specs.Given.{Lists, lists}
use Rattle.calls.specs.Checks.{small}
use Rattle.calls.specs.Writing.{write}
use Rattle.calls.specs.Replies.{length_of_written, filled}

-- what the walk works on
pub record Three : Type 0 where
  pub documents : List DocumentLength
  pub ids : List ℕ
  pub lengths : List ℕ

abbrev pub three : (documents : List DocumentLength) (ids lengths : List ℕ) → Three
three ds xs ys = record { documents = ds; ids = xs; lengths = ys }

abbrev pub document : (id len : ℕ) → DocumentLength
document i l = record { id = record { 0 = i }; len = l }

-- one element in front of each
abbrev pub before : DocumentLength → (id len : ℕ) → Three → Three
before d x y s = three (d ∷ s.documents) (x ∷ s.ids) (y ∷ s.lengths)

unfoldable pub exchanged : (documents : List DocumentLength) (ids lengths : List ℕ) → Three
exchanged [] xs ys = three [] xs ys
exchanged (d ∷ ds) [] ys = three (d ∷ ds) [] ys
exchanged (d ∷ ds) (x ∷ xs) [] = three (d ∷ ds) (x ∷ xs) []
exchanged (d ∷ ds) (x ∷ xs) (y ∷ ys) = before (document x y) d.id.0 d.len (exchanged ds xs ys)

-- the least of three numbers
pub record Least (a b c r : ℕ) : Type 0 where
  pub first : r ≤ a
  pub second : r ≤ b
  pub third : r ≤ c
  pub reached : (m : ℕ) → m ≤ a → m ≤ b → m ≤ c → m ≤ r

-- What is asked of the lists while two of them hold the records' ids and lengths: `count` is the number of records.

-- another list instead of the two lent ones, which 12 does not look at
abbrev pub others : Lists → Lists
others l = lists l.ends l.ends l.text l.ends l.posting_counts l.posting_ids l.position_counts l.positions

-- a lent list that has too few or too many places: 12 before 11
unfoldable pub misfit : (count : ℕ) → Lists → Answer (Unit {0})
misfit count l = cond (leb count 16777216 && small (others l)) (Err list_shape) (Err too_large)

-- the two lists have a place for each record, or the refusal
unfoldable pub check_places : (count : ℕ) → Lists → Answer (Unit {0})
check_places count l = cond (eqb (length l.ids) count && eqb (length l.lengths) count) (Ok tt) (misfit count l)

unfoldable pub write_apart : (count : ℕ) → Lists → (room : ℕ) → Answer (List ℕ)
write_apart count l room = do
  _ ← check_places count l
  write l room

pub record WroteApart (count : ℕ) (l : Lists) (out : List ℕ) (r : Answer ℕ) (out' : List ℕ) : Type 0 where
  pub reply : r ≡ length_of_written (write_apart count l (length out))
  pub left : out' ≡ filled (λ xs. xs) (write_apart count l (length out)) out
