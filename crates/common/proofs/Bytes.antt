-- Lists of bytes: every element is below 256.
-- Assumes nothing.
use mathlib.Core.List.{List, [], ◌∷◌}
use Prim.Native.Nat.{ℕ, suc, ◌<◌}
use lib.ListN.{get_or}

pub data Bytes : List ℕ → Type 0 where
  none : Bytes []
  one : {b : ℕ} {l : List ℕ} → b < 256 → Bytes l → Bytes (b ∷ l)

-- what a slice of u8 shows of each of its places
pub each_below : (l : List ℕ) → ((i : ℕ) → get_or l i 0 < 256) → Bytes l
each_below [] h = none
each_below (b ∷ l) h = one (h 0) (each_below l (λ i. h (suc i)))
