-- How many positions lie in a window: the difference of what is left from its two edges on, for positions that rise.
-- Assumes nothing.
use Prim.Native.Nat.{ℕ, suc, ◌+◌, ◌≤◌, ◌<◌}
use mathlib.Core.Path.{◌≡◌, refl, ap}
use mathlib.Core.List.{List, [], ◌∷◌}
use mathlib.Core.Bool.{Bool, true, false, cond}
use native.Mathlib.Omega.{arith}
use lib.ListN.{length}
use lib.Dec.{ltb}
use borrow.Author.Tests.{le-leb, lt-leb, le-ltb, lt-ltb, ltb-true, ltb-false}
use Rattle.read_cursors.proofs.Rising.{Rises}
use Rattle.common.specs.Members.{kept}
use Rattle.rules.specs.Words.{within}
use Rattle.ask_match.proofs.Members.{onward}

onward_all : (a low : ℕ) (l : List ℕ) → Rises (λ (p : ℕ). p) low l → a ≤ low → onward a l ≡ l
onward_all a low [] u h = refl
onward_all a low (x ∷ l) (k, u) h = rw (le-ltb x a (omega arith))

module _ (a w z : ℕ) (edge : z ≡ a + w + 1) where
  -- a position is before the window, in it, or past it
  before : (x : ℕ) (l : List ℕ) → x < a → within a w (x ∷ l) ≡ within a w l
  unfolding within kept
  before x l h = rw (lt-leb a x h)

  inside : (x : ℕ) (l : List ℕ) → a ≤ x → x < z → within a w (x ∷ l) ≡ suc (within a w l)
  unfolding within kept
  inside x l h k = rw (le-leb a x h, le-leb x (a + w) (omega arith))

  past : (x : ℕ) (l : List ℕ) → z ≤ x → within a w (x ∷ l) ≡ within a w l
  unfolding within kept
  past x l h = rw (le-leb a x (omega arith), lt-leb x (a + w) (omega arith))

  none_in : within a w [] ≡ 0
  unfolding within kept
  none_in = refl

  pub within_count : (low : ℕ) (l : List ℕ) → Rises (λ (p : ℕ). p) low l → within a w l + length (onward z l) ≡ length (onward a l)
  within_count low [] u = omega (arith, none_in)
  within_count low (x ∷ l) (k, u) = go (ltb x a) refl (within_count (suc x) l u)
    where
      whole : a ≤ x → onward a l ≡ l
      whole h = onward_all a (suc x) l u (omega arith)

      more : (t : Bool) → ltb x z ≡ t → a ≤ x → within a w l + length (onward z l) ≡ length (onward a l)
          → within a w (x ∷ l) + length (cond t (onward z l) (x ∷ l)) ≡ suc (length l)
      more true g h ih = omega (arith, inside x l h (ltb-true x z g), ap length (whole h))
      more false g h ih =
          omega (
            arith,
            past x l (ltb-false x z g),
            ap length (whole h),
            ap length (onward_all z (suc x) l u (omega (arith, ltb-false x z g))),
          )

      go : (t : Bool) → ltb x a ≡ t → within a w l + length (onward z l) ≡ length (onward a l)
          → within a w (x ∷ l) + length (onward z (x ∷ l)) ≡ length (cond t (onward a l) (x ∷ l))
      go true e ih = let g = ltb-true x a e in rw (lt-ltb x z (omega arith)) (omega (arith, before x l g))
      go false e ih = more (ltb x z) refl (ltb-false x a e) ih

-- positions before the window do not count
pub within_onward : (a s w : ℕ) (l : List ℕ) → a ≤ s → within s w (onward a l) ≡ within s w l
within_onward a s w [] h = refl
within_onward a s w (x ∷ l) h = go (ltb x a) refl (within_onward a s w l h)
  where
    go : (t : Bool) → ltb x a ≡ t → within s w (onward a l) ≡ within s w l → within s w (cond t (onward a l) (x ∷ l)) ≡ within s w (x ∷ l)
    go true e ih = rw (before s w (s + w + 1) refl x l (omega (arith, ltb-true x a e))) ih
    go false e ih = refl
