-- What stands in a list, and what the tests over lists say of it, both ways.
-- Assumes nothing.
use mathlib.Core.Path.{◌≡◌, refl, sym, ap, ◌∙◌}
use mathlib.Core.Bool.{Bool, true, false, cond, ◌||◌}
use mathlib.Core.List.{List, [], ◌∷◌, ◌++◌, map}
use mathlib.Core.Logic.{◌⊎◌, inl, inr}
use Prim.Native.Nat.{ℕ, zero, suc, ◌<◌}
use native.Mathlib.Nat.{not-suc-le-zero}
use native.Mathlib.Omega.{arith}
use lib.Dec.{eqb}
use lib.ListN.{length, get_or}
use borrow.Author.Tests.{eqb-true, eq-eqb}
use Rattle.common.proofs.Loops.{true_false, and_left, and_right}
use Rattle.common.specs.Members.{every, some_of, kept}
use Rattle.common.specs.Lists.{joined}
use Rattle.common.specs.Elements.{◌∈◌}
use Rattle.common.proofs.Elements.{append_left, append_right}

pub or_cases : (a b : Bool) → a || b ≡ true → (a ≡ true) ⊎ (b ≡ true)
or_cases true b e = inl refl
or_cases false b e = inr e

pub or_right : (a b : Bool) → b ≡ true → a || b ≡ true
or_right true b e = refl
or_right false b e = e

pub neither : (a b : Bool) → a || b ≡ false → (a ≡ false) × (b ≡ false)
neither true b e = true_false e
neither false b e = (refl, e)

-- ---- the tests

module _ {A : Type 0} (f : A → Bool) where
  pub every_gives : (xs : List A) → every f xs ≡ true → (x : A) → x ∈ xs → f x ≡ true
  unfolding every
  every_gives [] t x m = absurd m
  every_gives (y ∷ ys) t x (inl e) = rw e (and_left (f y) (every f ys) t)
  every_gives (y ∷ ys) t x (inr m) = every_gives ys (and_right (f y) (every f ys) t) x m

  pub every_from : (xs : List A) → ((x : A) → x ∈ xs → f x ≡ true) → every f xs ≡ true
  unfolding every
  every_from [] h = refl
  every_from (y ∷ ys) h = rw (h y (inl refl)) (every_from ys (λ x m. h x (inr m)))

  pub some_gives : (xs : List A) → some_of f xs ≡ true → (x : A) × (x ∈ xs) × (f x ≡ true)
  unfolding some_of
  some_gives [] t = true_false (sym t)
  some_gives (y ∷ ys) t = step (or_cases (f y) (some_of f ys) t) (some_gives ys)
    where
      step : (f y ≡ true) ⊎ (some_of f ys ≡ true) → (some_of f ys ≡ true → (x : A) × (x ∈ ys) × (f x ≡ true))
          → (x : A) × (x ∈ (y ∷ ys)) × (f x ≡ true)
      step (inl e) later = (y, inl refl, e)
      step (inr e) later = let (x, m, t) = later e in (x, inr m, t)

  pub some_from : (xs : List A) (x : A) → x ∈ xs → f x ≡ true → some_of f xs ≡ true
  unfolding some_of
  some_from [] x m t = absurd m
  some_from (y ∷ ys) x (inl e) t = rw (← e, t)
  some_from (y ∷ ys) x (inr m) t = or_right (f y) (some_of f ys) (some_from ys x m t)

  pub kept_gives : (xs : List A) (x : A) → x ∈ kept f xs → (x ∈ xs) × (f x ≡ true)
  unfolding kept
  kept_gives [] x m = absurd m
  kept_gives (y ∷ ys) x m = step (f y) refl m (kept_gives ys x)
    where
      step : (b : Bool) → f y ≡ b → x ∈ cond b (y ∷ kept f ys) (kept f ys) → (x ∈ kept f ys → (x ∈ ys) × (f x ≡ true))
          → (x ∈ (y ∷ ys)) × (f x ≡ true)
      step true e (inl is) later = (inl is, rw is e)
      step true e (inr k) later = (inr (later k).0, (later k).1)
      step false e k later = (inr (later k).0, (later k).1)

  pub kept_from : (xs : List A) (x : A) → x ∈ xs → f x ≡ true → x ∈ kept f xs
  unfolding kept
  kept_from [] x m t = m
  kept_from (y ∷ ys) x (inl is) t = rw (ap f (sym is) ∙ t) (inl is)
  kept_from (y ∷ ys) x (inr m) t = step (f y) (kept_from ys x m t)
    where
      step : (b : Bool) → x ∈ kept f ys → x ∈ cond b (y ∷ kept f ys) (kept f ys)
      step true k = inr k
      step false k = k

-- a number among numbers
module _ (xs : List ℕ) (x : ℕ) where
  pub has_gives : some_of (eqb x) xs ≡ true → x ∈ xs
  has_gives t = let (y, m, e) = some_gives (eqb x) xs t in rw (eqb-true x y e) m

  pub has_from : x ∈ xs → some_of (eqb x) xs ≡ true
  has_from m = some_from (eqb x) xs x m (eq-eqb x x refl)

-- ---- lists made of lists

module _ {A : Type 0} where
  pub some_in : (xs : List A) → 0 < length xs → (x : A) × (x ∈ xs)
  some_in [] h = absurd (not-suc-le-zero h)
  some_in (x ∷ xs) h = (x, inl refl)

  pub in_some : (xs : List A) (x : A) → x ∈ xs → 0 < length xs
  in_some [] x m = absurd m
  in_some (y ∷ ys) x m = omega arith

  -- by its place
  pub place_of : (d : A) (xs : List A) (x : A) → x ∈ xs → (i : ℕ) × (i < length xs) × (get_or xs i d ≡ x)
  place_of d [] x m = absurd m
  place_of d (y ∷ ys) x (inl e) = (0, omega arith, sym e)
  place_of d (y ∷ ys) x (inr m) = let (i, h, e) = place_of d ys x m in (suc i, omega arith, e)

  pub at_place : (d : A) (xs : List A) (i : ℕ) → i < length xs → get_or xs i d ∈ xs
  at_place d [] i h = absurd (not-suc-le-zero h)
  at_place d (y ∷ ys) zero h = inl refl
  at_place d (y ∷ ys) (suc i) h = inr (at_place d ys i (omega arith))

  pub append_gives : (xs ys : List A) (x : A) → x ∈ (xs ++ ys) → (x ∈ xs) ⊎ (x ∈ ys)
  append_gives [] ys x m = inr m
  append_gives (y ∷ xs) ys x (inl e) = inl (inl e)
  append_gives (y ∷ xs) ys x (inr m) = step (append_gives xs ys x m)
    where
      step : (x ∈ xs) ⊎ (x ∈ ys) → (x ∈ (y ∷ xs)) ⊎ (x ∈ ys)
      step (inl k) = inl (inr k)
      step (inr k) = inr k

  pub joined_gives : (xss : List (List A)) (x : A) → x ∈ joined xss → (xs : List A) × (xs ∈ xss) × (x ∈ xs)
  joined_gives [] x m = absurd m
  joined_gives (xs ∷ xss) x m = step (append_gives xs (joined xss) x m) (joined_gives xss x)
    where
      step : (x ∈ xs) ⊎ (x ∈ joined xss) → (x ∈ joined xss → (ys : List A) × (ys ∈ xss) × (x ∈ ys))
          → (ys : List A) × (ys ∈ (xs ∷ xss)) × (x ∈ ys)
      step (inl k) later = (xs, inl refl, k)
      step (inr k) later = let (ys, m, j) = later k in (ys, inr m, j)

  pub joined_from : (xss : List (List A)) (xs : List A) (x : A) → xs ∈ xss → x ∈ xs → x ∈ joined xss
  joined_from [] xs x m k = absurd m
  joined_from (ys ∷ yss) xs x (inl e) k = append_left ys (joined yss) x (rw e at k)
  joined_from (ys ∷ yss) xs x (inr m) k = append_right ys (joined yss) x (joined_from yss xs x m k)

module _ {A B : Type 0} (f : A → B) where
  pub map_gives : (xs : List A) (y : B) → y ∈ map f xs → (x : A) × (x ∈ xs) × (y ≡ f x)
  map_gives [] y m = absurd m
  map_gives (x ∷ xs) y (inl e) = (x, inl refl, e)
  map_gives (x ∷ xs) y (inr m) = let (z, k, e) = map_gives xs y m in (z, inr k, e)
