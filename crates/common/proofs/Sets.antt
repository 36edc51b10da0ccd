-- Stores of a run of elements: one run behind another, and at the front.
-- Assumes nothing.
use mathlib.Core.Path.{◌≡◌, refl, sym, ap, ◌∙◌}
use mathlib.Core.List.{List, [], ◌∷◌, ◌++◌}
use Prim.Native.Nat.{ℕ, suc, ◌+◌, ◌≤◌}
use native.Mathlib.Nat.{add-zero}
use native.Mathlib.Omega.{arith}
use lib.ListN.{length, drop, set}
use lib.Seq.{sets, sets-eq, set_comm}

module _ {A : Type 0} where
  pub sets_append : (l : List A) (i : ℕ) (xs ys : List A) → sets l i (xs ++ ys) ≡ sets (sets l i xs) (i + length xs) ys
  sets_append l i [] ys = ap (λ (k : ℕ). sets l k ys) (sym (add-zero i))
  sets_append l i (x ∷ xs) ys =
      let e : suc i + length xs ≡ i + suc (length xs) = omega arith in
      sets_append (set l i x) (suc i) xs ys ∙ ap (λ (k : ℕ). sets (sets (set l i x) (suc i) xs) k ys) e

  pub sets_front : (l xs : List A) → length xs ≤ length l → sets l 0 xs ≡ xs ++ drop (length xs) l
  sets_front l xs h =
      let e : 0 + length xs ≡ length xs = omega arith in
      sets-eq xs l 0 (omega arith) ∙ ap (λ (k : ℕ). xs ++ drop k l) e

  -- one element is stored past the run, before it or after it
  sets_past : (l : List A) (i : ℕ) (xs : List A) (j : ℕ) (y : A) → i + length xs ≤ j → sets (set l j y) i xs ≡ set (sets l i xs) j y
  sets_past l i [] j y h = refl
  sets_past l i (x ∷ xs) j y h =
      ap (λ (r : List A). sets r (suc i) xs) (set_comm l j i y x (omega arith)) ∙ sets_past (set l i x) (suc i) xs j y (omega arith)

  -- a run whose last element is stored first
  pub sets_last : (l : List A) (i : ℕ) (xs : List A) (y : A) → sets (set l (i + length xs) y) i xs ≡ sets l i (xs ++ y ∷ [])
  sets_last l i xs y = sets_past l i xs (i + length xs) y (omega arith) ∙ sym (sets_append l i xs (y ∷ []))
