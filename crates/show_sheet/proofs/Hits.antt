-- A posting that was sought in a decoded list has a hit.
-- Assumes nothing.
use Rattle.std.specs.Prelude.{None, Option, Some}
use mathlib.Core.Path.{◌≡◌}
use mathlib.Core.Bool.{Bool, true, false, cond}
use mathlib.Core.List.{List, [], ◌∷◌}
use Prim.Native.Nat.{ℕ, zero, suc, ◌<◌}
use native.Mathlib.Omega.{arith}
use lib.Dec.{ltb}
use Rattle.read_cursors.specs.Held.{seek_in, PostingAt, Full, AllFull}
use Rattle.read_cursors.specs.declared.postings.Postings.{Postings}
use Rattle.read_cursors.specs.Steps.{postings_at, postings_from, SoughtPosting}

abbrev Fulls : List PostingAt → Type 0
Fulls [] = Unit {0}
Fulls (s ∷ ss) = Full s × Fulls ss

fulls : (previous : Option ℕ) (ss : List PostingAt) → AllFull previous ss → Fulls ss
fulls previous [] f = tt
fulls previous (s ∷ ss) (r, f, fs) = (f, fulls (Some s.doc) ss fs)

fulls_sought : (id : ℕ) (ss : List PostingAt) → Fulls ss → Fulls (seek_in (λ (s : PostingAt). s.doc) id ss)
fulls_sought id [] f = tt
fulls_sought id (s ∷ ss) (f, fs) = by (ltb s.doc id) (fulls_sought id ss fs)
  where
    by : (t : Bool) → Fulls (seek_in (λ (s : PostingAt). s.doc) id ss)
        → Fulls (cond t (seek_in (λ (s : PostingAt). s.doc) id ss) (s ∷ ss))
    by true later = later
    by false later = (f, fs)

first_full : (bytes : List ℕ) (left at count doc : ℕ) → 0 < left → Fulls (postings_at left at count doc bytes) → 0 < count
unfolding postings_at
first_full bytes zero at count doc h f = absurd (omega arith)
first_full bytes (suc n) at count doc h f = f.0.has_positions

-- the posting that was sought has a hit
pub sought_some : (bytes : List ℕ) (id : ℕ) {ss : List PostingAt} → AllFull None ss → (first here : Postings)
    → postings_from bytes first ≡ ss → SoughtPosting bytes id first here → 0 < here.remaining
    → 0 < here.count
sought_some bytes id {ss} full first here starts sought h =
    first_full bytes here.remaining here.at here.count here.doc.0 h
    (rw (sought.holds, starts) (fulls_sought id ss (fulls None ss full)))
