-- A cursor in a loop over the postings of a list: its posting, then those of the advanced cursor; none if none remains.
-- Assumes nothing.
use mathlib.Core.Path.{◌≡◌, refl, sym, ap}
use mathlib.Core.List.{List, [], ◌∷◌, map}
use Prim.Native.Nat.{ℕ, zero, suc, ◌≤◌, ◌<◌}
use native.Mathlib.Omega.{arith}
use lib.ListN.{drop}
use Rattle.read_cursors.specs.Held.{rest_of, PostingAt}
use Rattle.read_cursors.specs.Steps.{postings_at}

abbrev pub spot_docs : List PostingAt → List ℕ
spot_docs ss = map (λ s. s.doc) ss

module _ (s : List ℕ) where
  pub posting_turn : (left at count doc : ℕ) {more : List PostingAt} → 0 < left → more ≡ rest_of (postings_at left at count doc s)
      → postings_at left at count doc s ≡ record { doc = doc; count = count; bytes = drop at s } ∷ more
  unfolding postings_at
  posting_turn zero at count doc h e = absurd (omega arith)
  posting_turn (suc n) at count doc h e = ap (λ ps. record { doc = doc; count = count; bytes = drop at s } ∷ ps) (sym e)

  pub no_posting : (left at count doc : ℕ) → left ≤ 0 → postings_at left at count doc s ≡ []
  unfolding postings_at
  no_posting zero at count doc h = refl
  no_posting (suc n) at count doc h = absurd (omega arith)
