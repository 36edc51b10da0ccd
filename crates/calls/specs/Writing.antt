-- The calls that write: the bytes, or the first refusal. `room` is how many places the lent slice has.
use Rattle.std.specs.Prelude.{Ok, ℕ, List, length, ◌&&◌, eqb}
use Rattle.segment.specs.Results.{Answer, roomy, check, ◌>>=◌}
use Rattle.calls.specs.Given.{Lists, given}
use Rattle.calls.specs.Checks.{check_lists, small}
use Rattle.segment.specs.Written.{segment_bytes}
use Rattle.segment.specs.Refusals.{too_large, list_shape}

-- from eight flat lists
unfoldable pub write : (l : Lists) (room : ℕ) → Answer (List ℕ)
write l room = do
  _ ← check_lists l
  _ ← roomy 1 (length (segment_bytes (given l))) room
  Ok (segment_bytes (given l))

-- from a list of records, id and length, with two lists lent to take them apart: 12 goes by what is handed in, not by the two lent lists;
-- then it is 11 if one of these has too few or too many places for the records; then the writer's own tests. With a place for each record
-- this is `write` (crate write_records, proofs/Entered.antt)
unfoldable pub write_records : (l : Lists) (id_places length_places room : ℕ) → Answer (List ℕ)
write_records l id_places length_places room = do
  _ ← check (small l) too_large
  _ ← check (eqb id_places (length l.ids) && eqb length_places (length l.ids)) list_shape
  write l room
