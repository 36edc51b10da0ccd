-- The bytes of postings from an index on, and of the posting lists from a term on: one posting, one list more.
-- Assumes nothing.
use Rattle.std.specs.Prelude.{None, Option, Some}
use mathlib.Core.Path.{◌≡◌, refl, ap}
use mathlib.Core.List.{List, [], ◌∷◌, ◌++◌}
use Prim.Native.Nat.{ℕ, ◌+◌, ◌≤◌, ◌<◌}
use native.Mathlib.Omega.{arith}
use lib.ListN.{length, drop, get_or}
use Rattle.common.proofs.Loops.{drop_end}
use Rattle.segment.specs.Records.{Posting, between}
use Rattle.segment.specs.Written.{posting_bytes, postings_bytes, lists_bytes}
use Rattle.calls.specs.Given.{Lists, posting, postings_in}
use Rattle.write_check_all.specs.declared.walk.Walk.{Walk}
use Rattle.write_check_all.specs.Steps.{terms_from, Checkable}
use Rattle.calls.proofs.Lengths.{flat_postings_size}
use Rattle.write_checks.proofs.Gaps.{posting_zero}
use Rattle.write_check_all.proofs.Walking.{postings_step, postings_end, postings_at, next_in, WalkFits, terms_step, terms_end}

-- ---- postings

-- the first gap is taken from 0
postings_zero : (ps : List Posting) → postings_bytes (Some 0) ps ≡ postings_bytes None ps
unfolding postings_bytes
postings_zero [] = refl
postings_zero (p ∷ ps) = rw (posting_zero p)

module _ (ids counts positions : List ℕ) where
  abbrev pub postings_left : (previous : Option ℕ) (from i : ℕ) → List ℕ
  postings_left previous from i = postings_bytes previous (postings_in (drop i ids) (drop i counts) (drop from positions))

  pub postings_whole : postings_left (Some 0) 0 0 ≡ postings_bytes None (postings_in ids counts positions)
  postings_whole = postings_zero (postings_in ids counts positions)

  pub postings_left_next : (previous : Option ℕ) (from i : ℕ) → i < length ids → length ids ≡ length counts → {n : ℕ}
      → n ≡ get_or counts i 0
      → postings_left previous from i
      ≡ posting_bytes previous (posting (get_or ids i 0) (between from (from + n) positions))
      ++ postings_left (Some (get_or ids i 0)) (from + n) (i + 1)
  unfolding postings_bytes
  postings_left_next previous from i h e is = rw (postings_step ids counts positions i from h (omega arith), is)

  pub postings_left_end : (previous : Option ℕ) (from i : ℕ) → length ids ≤ i → postings_left previous from i ≡ []
  unfolding postings_bytes
  postings_left_end previous from i h = rw (drop_end ids i h)

-- ---- posting lists

module _ (l : Lists) (k : Checkable l) (w : Walk) (f : WalkFits w l) where
  pub lists_next : w.term < length l.ends
      → lists_bytes (terms_from w l) ≡ postings_bytes None (postings_at w l) ++ lists_bytes (terms_from (next_in w l) l)
  unfolding lists_bytes
  lists_next h = ap lists_bytes (terms_step l k w f h)

  pub lists_end : length l.ends ≤ w.term → lists_bytes (terms_from w l) ≡ []
  unfolding lists_bytes
  lists_end h = ap lists_bytes (terms_end l k w f h)

-- what the search is given, at a turn of the postings
pub ruleset turn = (postings_step, postings_end, flat_postings_size)
