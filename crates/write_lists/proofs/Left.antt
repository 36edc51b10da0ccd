-- The bytes of flat lists from an index on: one element more.
-- Assumes nothing.
use Rattle.std.specs.Prelude.{None, Option, Some}
use mathlib.Core.Path.{◌≡◌, refl, ◌∙◌}
use mathlib.Core.List.{List, [], ◌++◌, append_assoc}
use Prim.Native.Nat.{ℕ, ◌+◌, ◌≤◌, ◌<◌}
use native.Mathlib.Omega.{arith}
use lib.ListN.{length, drop, get_or}
use Rattle.leb128.specs.Leb128.{encoded}
use Rattle.common.proofs.Loops.{drop_step, drop_end}
use Rattle.segment.specs.Records.{between, gap}
use Rattle.segment.specs.Metadata.{document}
use Rattle.common.specs.Lists.{paired}
use Rattle.segment.specs.Written.{metadata_bytes, position_bytes, posting_bytes}
use Rattle.write_check_all.proofs.Walking.{part_length}
use Rattle.write_check_all.proofs.Left.{postings_left, postings_left_next}

-- ---- document metadata

module _ (ids lengths : List ℕ) where
  abbrev pub metadata_left : (previous : Option ℕ) (i : ℕ) → List ℕ
  metadata_left previous i = metadata_bytes previous (paired document (drop i ids) (drop i lengths))

  pub metadata_next : (previous : Option ℕ) (i : ℕ) → i < length ids → length ids ≡ length lengths
      → metadata_left previous i
      ≡ encoded (gap previous (get_or ids i 0)) ++ (encoded (get_or lengths i 0) ++ metadata_left (Some (get_or ids i 0)) (i + 1))
  unfolding metadata_bytes
  metadata_next previous i h e = rw (drop_step ids i 0 h, drop_step lengths i 0 (omega arith)) (simp append_assoc)

  pub metadata_end : (previous : Option ℕ) (i : ℕ) → length ids ≤ i → metadata_left previous i ≡ []
  unfolding metadata_bytes
  metadata_end previous i h = rw (drop_end ids i h)

-- ---- positions

module _ (positions : List ℕ) (previous : Option ℕ) (i : ℕ) where
  pub positions_next : i < length positions
      → position_bytes previous (drop i positions)
      ≡ encoded (gap previous (get_or positions i 0)) ++ position_bytes (Some (get_or positions i 0)) (drop (i + 1) positions)
  unfolding position_bytes
  positions_next h = rw (drop_step positions i 0 h)

  pub positions_end : length positions ≤ i → position_bytes previous (drop i positions) ≡ []
  unfolding position_bytes
  positions_end h = rw (drop_end positions i h)

-- ---- postings, down to the numbers that are stored

pub postings_next : (ids counts positions : List ℕ) (previous : Option ℕ) (from to i : ℕ) → i < length ids → length ids ≡ length counts
    → to ≡ from + get_or counts i 0 → to ≤ length positions
    → postings_left ids counts positions previous from i
    ≡ encoded (gap previous (get_or ids i 0))
    ++ (encoded (get_or counts i 0)
    ++ (position_bytes None (between from to positions) ++ postings_left ids counts positions (Some (get_or ids i 0)) to (i + 1)))
unfolding posting_bytes
postings_next ids counts positions previous from to i h e is k =
    let n : length (between from to positions) ≡ get_or counts i 0 = part_length from to positions k ∙ omega arith in
    rw (postings_left_next ids counts positions previous from i h e refl, ← is, n) (simp append_assoc)
