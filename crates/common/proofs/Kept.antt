-- Tests over lists: they depend on the elements alone, and what passes is no more than there was.
-- Assumes nothing.
use mathlib.Core.Path.{◌≡◌, refl, sym}
use mathlib.Core.Bool.{Bool, true, false, cond}
use mathlib.Core.List.{List, [], ◌∷◌, ◌++◌, map}
use mathlib.Core.Logic.{inl, inr}
use Prim.Native.Nat.{◌≤◌}
use native.Mathlib.Omega.{arith}
use lib.ListN.{length}
use Rattle.common.proofs.Loops.{true_false}
use Rattle.common.specs.Members.{every, some_of, kept}
use Rattle.common.specs.Elements.{◌∈◌}

-- two tests that agree on the elements
module _ {A : Type 0} (f g : A → Bool) where
  pub every_same : (xs : List A) → ((x : A) → x ∈ xs → f x ≡ g x) → every f xs ≡ every g xs
  unfolding every
  every_same [] h = refl
  every_same (x ∷ xs) h = rw (h x (inl refl), every_same xs (λ y m. h y (inr m)))

  pub some_same : (xs : List A) → ((x : A) → x ∈ xs → f x ≡ g x) → some_of f xs ≡ some_of g xs
  unfolding some_of
  some_same [] h = refl
  some_same (x ∷ xs) h = rw (h x (inl refl), some_same xs (λ y m. h y (inr m)))

  pub kept_same : (xs : List A) → ((x : A) → x ∈ xs → f x ≡ g x) → kept f xs ≡ kept g xs
  unfolding kept
  kept_same [] h = refl
  kept_same (x ∷ xs) h = rw (h x (inl refl), kept_same xs (λ y m. h y (inr m)))

  -- a test that passes more keeps more
  pub kept_more : (xs : List A) → ((x : A) → x ∈ xs → f x ≡ true → g x ≡ true) → length (kept f xs) ≤ length (kept g xs)
  unfolding kept
  kept_more [] h = omega arith
  kept_more (x ∷ xs) h = step (f x) (g x) (h x (inl refl)) (kept_more xs (λ y m. h y (inr m)))
    where
      step : (a b : Bool) → (a ≡ true → b ≡ true) → length (kept f xs) ≤ length (kept g xs)
          → length (cond a (x ∷ kept f xs) (kept f xs)) ≤ length (cond b (x ∷ kept g xs) (kept g xs))
      step true true e h = omega arith
      step true false e h = true_false (sym (e refl))
      step false true e h = omega arith
      step false false e h = h

module _ {A : Type 0} (f : A → Bool) where
  pub kept_all : (xs : List A) → ((x : A) → x ∈ xs → f x ≡ true) → kept f xs ≡ xs
  unfolding kept
  kept_all [] h = refl
  kept_all (x ∷ xs) h = rw (h x (inl refl), kept_all xs (λ y m. h y (inr m)))

  pub kept_none : (xs : List A) → ((x : A) → x ∈ xs → f x ≡ false) → kept f xs ≡ []
  unfolding kept
  kept_none [] h = refl
  kept_none (x ∷ xs) h = rw (h x (inl refl), kept_none xs (λ y m. h y (inr m)))

  pub kept_append : (xs ys : List A) → kept f (xs ++ ys) ≡ kept f xs ++ kept f ys
  unfolding kept
  kept_append [] ys = refl
  kept_append (x ∷ xs) ys = rw (kept_append xs ys) (step (f x))
    where
      step : (b : Bool) → cond b (x ∷ (kept f xs ++ kept f ys)) (kept f xs ++ kept f ys) ≡ cond b (x ∷ kept f xs) (kept f xs) ++ kept f ys
      step true = refl
      step false = refl

pub kept_fewer : {A : Type 0} (f : A → Bool) (xs : List A) → length (kept f xs) ≤ length xs
kept_fewer f xs = rw (kept_all (λ x. true) xs (λ x m. refl)) at (kept_more f (λ x. true) xs (λ x m e. refl))

-- the pictures of what passes
module _ {A B : Type 0} (k : A → B) where
  pub map_kept : (f : B → Bool) (xs : List A) → map k (kept (λ x. f (k x)) xs) ≡ kept f (map k xs)
  unfolding kept
  map_kept f [] = refl
  map_kept f (x ∷ xs) = rw (← map_kept f xs) (step (f (k x)))
    where
      step : (b : Bool) → map k (cond b (x ∷ kept (λ x. f (k x)) xs) (kept (λ x. f (k x)) xs))
          ≡ cond b (k x ∷ map k (kept (λ x. f (k x)) xs)) (map k (kept (λ x. f (k x)) xs))
      step true = refl
      step false = refl

  pub map_same : (g : A → B) (xs : List A) → ((x : A) → x ∈ xs → k x ≡ g x) → map k xs ≡ map g xs
  map_same g [] h = refl
  map_same g (x ∷ xs) h = rw (h x (inl refl), map_same g xs (λ y m. h y (inr m)))
