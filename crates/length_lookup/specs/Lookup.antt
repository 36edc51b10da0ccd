-- A length looked up in a caller's own lists of ids and lengths (document 02, wish 8): 12, 11, 21, then the lookup.
use Rattle.std.specs.Prelude.{None, Ok, Option, Some, ℕ, suc, ◌&&◌, List, [], ◌∷◌, leb, eqb, length}
use Rattle.common.specs.Lists.{paired}
use Rattle.segment.specs.Refusals.{too_large, list_shape, ids_not_rising}
use Rattle.segment.specs.Results.{Answer, ◌>>=◌, check}
use Rattle.segment.specs.Records.{rises}
use Rattle.segment.specs.Metadata.{document, length_of}

-- 21: every id is above the one before it, the whole list through; `place` is the first one's place in the list
unfoldable pub check_ids : (place : ℕ) (previous : Option ℕ) → List ℕ → Answer (Unit {0})
check_ids place previous [] = Ok tt
check_ids place previous (x ∷ xs) = do
  _ ← check (rises previous x) (ids_not_rising place)
  check_ids (suc place) (Some x) xs

-- all that is refused of the lists, in this order; no id is asked for yet
unfoldable pub check_ids_and_lengths : (ids lengths : List ℕ) → Answer (Unit {0})
check_ids_and_lengths ids lengths = do
  _ ← check (leb (length ids) 16777216 && leb (length lengths) 16777216) too_large
  _ ← check (eqb (length ids) (length lengths)) list_shape
  check_ids 0 None ids

-- the length beside the id; none where the list lacks it
unfoldable pub looked_up : (ids lengths : List ℕ) (id : ℕ) → Answer (Option ℕ)
looked_up ids lengths id = do
  _ ← check_ids_and_lengths ids lengths
  Ok (length_of (paired document ids lengths) id)
