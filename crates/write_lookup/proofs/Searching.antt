-- A document's length by its index: the ids rise, so an index that has the id is the only one.
-- Assumes nothing.
use Rattle.std.specs.Prelude.{None, Some}
use mathlib.Core.Path.{◌≡◌, refl, ap}
use mathlib.Core.List.{List, [], ◌∷◌}
use mathlib.Core.Logic.{⊎_elim}
use Prim.Native.Nat.{ℕ, zero, suc, ◌≤◌, ◌<◌}
use native.Mathlib.Omega.{arith}
use lib.ListN.{length, get_or}
use borrow.Author.Tests.{eq-eqb, ne_eqb}
use Rattle.common.proofs.Loops.{lt_or_ge}
use Rattle.segment.specs.Metadata.{document, length_of}
use Rattle.common.specs.Elements.{Rising}
use Rattle.common.proofs.Elements.{rising_tail}
use Rattle.common.specs.Lists.{paired}
use Rattle.write_lookup.specs.Steps.{RisingByIndex}

pub rises_tail : (x : ℕ) (xs : List ℕ) → RisingByIndex (x ∷ xs) → RisingByIndex xs
rises_tail x xs r i j h k = r (suc i) (suc j) (omega arith) (omega arith)

pub length_found : (ids lengths : List ℕ) (id i : ℕ) → RisingByIndex ids → length ids ≡ length lengths → get_or ids i 0 ≡ id
    → i < length ids
    → length_of (paired document ids lengths) id ≡ Some (get_or lengths i 0)
unfolding length_of
length_found [] ys id i r l e h = absurd (omega arith)
length_found (x ∷ xs) [] id i r l e h = absurd (omega arith)
length_found (x ∷ xs) (y ∷ ys) id zero r l e h = rw (eq-eqb x id e)
length_found (x ∷ xs) (y ∷ ys) id (suc i) r l e h =
    rw (ne_eqb x id (λ q. omega (arith, r 0 (suc i) (omega arith) h)))
    (length_found xs ys id i (rises_tail x xs r) (omega arith) e (omega arith))

pub length_missing : (ids lengths : List ℕ) (id : ℕ) → ((k : ℕ) → k < length ids → get_or ids k 0 ≡ id → ⊥)
    → length_of (paired document ids lengths) id ≡ None
unfolding length_of
length_missing [] ys id f = refl
length_missing (x ∷ xs) [] id f = refl
length_missing (x ∷ xs) (y ∷ ys) id f = rw (ne_eqb x id (f 0 (omega arith))) (length_missing xs ys id (λ k h. f (suc k) (omega arith)))

-- ---- ids that rise one after the other rise by index

-- all that comes after a number is greater, by index
before_all : (x : ℕ) (xs : List ℕ) → Rising (x ∷ xs) → (j : ℕ) → j < length xs → x < get_or xs j 0
before_all x [] r j h = absurd (omega arith)
before_all x (y ∷ ys) r zero h = r.0
before_all x (y ∷ ys) r (suc j) h = omega (arith, r.0, before_all y ys r.1 j (omega arith))

pub rises_by_place : (xs : List ℕ) → Rising xs → RisingByIndex xs
rises_by_place [] r i j h k = absurd (omega arith)
rises_by_place (x ∷ xs) r zero zero h k = absurd (omega arith)
rises_by_place (x ∷ xs) r zero (suc j) h k = before_all x xs r j (omega arith)
rises_by_place (x ∷ xs) r (suc i) zero h k = absurd (omega arith)
rises_by_place (x ∷ xs) r (suc i) (suc j) h k = rises_by_place xs (rising_tail x xs r) i j (omega arith) (omega arith)

-- ---- what the library's binary search found, or did not find

module _ (ids : List ℕ) (r : RisingByIndex ids) where
  pub no_lower : (i j : ℕ) → i ≤ j → j < length ids → get_or ids i 0 ≤ get_or ids j 0
  no_lower i j h k =
      ⊎_elim
      (λ (l : i < j). omega (arith, r i j l k))
      (λ (l : j ≤ i). let e : i ≡ j = omega arith in omega (arith, ap (λ (n : ℕ). get_or ids n 0) e))
      (lt_or_ge i j)

-- before an index all ids are lower, and from it on all are greater
pub nowhere : (ids : List ℕ) (id i : ℕ) → ((k : ℕ) → k < i → get_or ids k 0 < id)
    → ((k : ℕ) → i ≤ k → k < length ids → id < get_or ids k 0)
    → (k : ℕ) → k < length ids → get_or ids k 0 ≡ id → ⊥
nowhere ids id i l g k p e = ⊎_elim (λ (q : k < i). omega (arith, l k q)) (λ (q : i ≤ k). omega (arith, g k q p)) (lt_or_ge k i)
