-- The writer's call over records, id and length, with two lists lent to take them apart.
use Rattle.segment.specs.Results.{Answer}
use Rattle.std.specs.Prelude.{ℕ, ◌≡◌, List, map, length}
use Rattle.calls.specs.Given.{Lists, lists}
use Rattle.calls.specs.Replies.{length_of_written, filled}
use Rattle.write_records.specs.declared.exchange.DocumentLength.{DocumentLength}
use Rattle.calls.specs.Writing.{write_records}

-- the writer's eight lists: the records taken apart, and the six others
abbrev pub taken_apart : (documents : List DocumentLength) (text ends posting_counts posting_ids position_counts positions : List ℕ) → Lists
taken_apart ds text ends posting_counts posting_ids position_counts positions =
    lists (map (λ d. d.id.0) ds) (map (λ d. d.len) ds) text ends posting_counts posting_ids position_counts positions

-- the reply, and everything lent as it is afterwards: on every outcome the records and both lent lists are as they were
pub record WroteRecords (l : Lists) (documents : List DocumentLength) (ids lengths out : List ℕ) (r : Answer ℕ)
    (documents' : List DocumentLength) (ids' lengths' out' : List ℕ) : Type 0 where
  pub reply : r ≡ length_of_written (write_records l (length ids) (length lengths) (length out))
  pub left : out' ≡ filled (λ xs. xs) (write_records l (length ids) (length lengths) (length out)) out
  pub records_left : documents' ≡ documents
  pub ids_left : ids' ≡ ids
  pub lengths_left : lengths' ≡ lengths
