-- Stores of a run of bytes at offsets apart, and read again.
-- Assumes nothing.
use mathlib.Core.Path.{◌≡◌, refl, ap, ◌∙◌}
use mathlib.Core.List.{List, [], ◌∷◌, ◌++◌, append_assoc}
use Prim.Native.Nat.{ℕ, suc, ◌+◌, ◌-◌, ◌≤◌, ◌<◌}
use native.Mathlib.Omega.{arith}
use lib.ListN.{length, take, drop, set}
use lib.Seq.{sets, sets-eq, set_comm, take-set-le, drop-set-lt, drop-set-add, drop_at, take_at, length-take-le}
use Rattle.segment.specs.Records.{between}

module _ {A : Type 0} where
  sets_set : (l : List A) (i : ℕ) (x : A) (j : ℕ) (ys : List A) → i < j → sets (set l i x) j ys ≡ set (sets l j ys) i x
  sets_set l i x j [] h = refl
  sets_set l i x j (y ∷ ys) h =
      ap (λ (r : List A). sets r (suc j) ys) (set_comm l i j x y (omega arith)) ∙ sets_set (set l j y) i x (suc j) ys (omega arith)

  -- the first store ends before the second
  pub sets_comm : (l : List A) (i : ℕ) (xs : List A) (j : ℕ) (ys : List A) → i + length xs ≤ j
      → sets (sets l i xs) j ys ≡ sets (sets l j ys) i xs
  sets_comm l i [] j ys h = refl
  sets_comm l i (x ∷ xs) j ys h =
      sets_comm (set l i x) (suc i) xs j ys (omega arith)
      ∙ ap (λ (r : List A). sets r (suc i) xs) (sets_set l i x j ys (omega arith))

  pub take_sets : (n : ℕ) (l : List A) (i : ℕ) (xs : List A) → n ≤ i → take n (sets l i xs) ≡ take n l
  take_sets n l i [] h = refl
  take_sets n l i (x ∷ xs) h = take_sets n (set l i x) (suc i) xs (omega arith) ∙ take-set-le n l i x h

  pub drop_sets : (n : ℕ) (l : List A) (i : ℕ) (xs : List A) → i + length xs ≤ n → drop n (sets l i xs) ≡ drop n l
  drop_sets n l i [] h = refl
  drop_sets n l i (x ∷ xs) h = drop_sets n (set l i x) (suc i) xs (omega arith) ∙ drop-set-lt n l i x (omega arith)

  drop_sets_add : (n : ℕ) (l : List A) (i : ℕ) (xs : List A) → drop n (sets l (n + i) xs) ≡ sets (drop n l) i xs
  drop_sets_add n l i [] = refl
  drop_sets_add n l i (x ∷ xs) =
      let e : suc (n + i) ≡ n + suc i = omega arith in
      ap (λ (k : ℕ). drop n (sets (set l (n + i) x) k xs)) e
      ∙ drop_sets_add n (set l (n + i) x) (suc i) xs
      ∙ ap (λ (r : List A). sets r (suc i) xs) (drop-set-add n l i x)

-- ---- read between two offsets

module _ (l : List ℕ) (at : ℕ) (bs : List ℕ) where
  pub between_stored : {end : ℕ} → end ≡ at + length bs → end ≤ length l → between at end (sets l at bs) ≡ bs
  between_stored {end} is h =
      let n : end - at ≡ length bs = omega arith in
      rw (
        n,
        sets-eq bs l at (omega arith),
        append_assoc (take at l) bs (drop (at + length bs) l),
        drop_at (take at l) (bs ++ drop (at + length bs) l) at (length-take-le at l (omega arith)),
        take_at bs (drop (at + length bs) l) (length bs) refl,
      )

  pub between_before : (from to : ℕ) → from ≤ to → to ≤ at → between from to (sets l at bs) ≡ between from to l
  between_before from to h k =
      let e : at ≡ from + (at - from) = omega arith in
      ap (λ (i : ℕ). between from to (sets l i bs)) e
      ∙ ap (take (to - from)) (drop_sets_add from l (at - from) bs)
      ∙ take_sets (to - from) (drop from l) (at - from) bs (omega arith)

  pub between_after : (from to : ℕ) → at + length bs ≤ from → between from to (sets l at bs) ≡ between from to l
  between_after from to h = ap (take (to - from)) (drop_sets from l at bs h)
