-- Lists side by side: nothing is lost.
-- Assumes nothing.
use mathlib.Core.Path.{◌≡◌, refl, sym, ap, ◌∙◌}
use mathlib.Core.List.{List, [], ◌∷◌, map}
use Prim.Native.Nat.{ℕ, zero, suc}
use native.Mathlib.Omega.{arith}
use lib.ListN.{length, take, drop}
use Rattle.common.specs.Lists.{paired}

map_same : {A : Type 0} (xs : List A) → map (λ x. x) xs ≡ xs
map_same [] = refl
map_same {A} (x ∷ xs) = ap {B = List A} (λ l. x ∷ l) (map_same xs)

-- what is taken of each pair of one side alone
module _ {A B C D : Type 0} (f : A → B → C) (g : C → D) where
  paired_left : (h : A → D) → ((x : A) (y : B) → g (f x y) ≡ h x) → (xs : List A) (ys : List B) → length xs ≡ length ys
      → map g (paired f xs ys) ≡ map h xs
  paired_left h e [] ys l = refl
  paired_left h e (x ∷ xs) [] l = absurd (omega arith)
  paired_left h e (x ∷ xs) (y ∷ ys) l = rw (e x y, paired_left h e xs ys (omega arith))

  pub paired_right : (h : B → D) → ((x : A) (y : B) → g (f x y) ≡ h y) → (xs : List A) (ys : List B) → length xs ≡ length ys
      → map g (paired f xs ys) ≡ map h ys
  paired_right h e [] [] l = refl
  paired_right h e [] (y ∷ ys) l = absurd (omega arith)
  paired_right h e (x ∷ xs) [] l = absurd (omega arith)
  paired_right h e (x ∷ xs) (y ∷ ys) l = rw (e x y, paired_right h e xs ys (omega arith))

pub lefts : {A B C : Type 0} (f : A → B → C) (g : C → A) → ((x : A) (y : B) → g (f x y) ≡ x) → (xs : List A) (ys : List B)
    → length xs ≡ length ys
    → map g (paired f xs ys) ≡ xs
lefts f g e xs ys l = paired_left f g (λ x. x) e xs ys l ∙ map_same xs

pub rights : {A B C : Type 0} (f : A → B → C) (g : C → B) → ((x : A) (y : B) → g (f x y) ≡ y) → (xs : List A) (ys : List B)
    → length xs ≡ length ys
    → map g (paired f xs ys) ≡ ys
rights f g e xs ys l = paired_right f g (λ y. y) e xs ys l ∙ map_same ys

-- how many pairs, and pairs from a place on and up to a place
module _ {A B C : Type 0} (f : A → B → C) where
  paired_none : (xs : List A) → paired f xs [] ≡ []
  paired_none [] = refl
  paired_none (x ∷ xs) = refl

  pub paired_count : (xs : List A) (ys : List B) → length xs ≡ length ys → length (paired f xs ys) ≡ length xs
  paired_count [] ys e = refl
  paired_count (x ∷ xs) [] e = absurd (omega arith)
  paired_count (x ∷ xs) (y ∷ ys) e = ap suc (paired_count xs ys (omega arith))

  pub paired_take : (n : ℕ) (xs : List A) (ys : List B) → take n (paired f xs ys) ≡ paired f (take n xs) (take n ys)
  paired_take zero xs ys = refl
  paired_take (suc n) [] ys = refl
  paired_take (suc n) (x ∷ xs) [] = refl
  paired_take (suc n) (x ∷ xs) (y ∷ ys) = rw (paired_take n xs ys)

  pub paired_drop : (n : ℕ) (xs : List A) (ys : List B) → drop n (paired f xs ys) ≡ paired f (drop n xs) (drop n ys)
  paired_drop zero xs ys = refl
  paired_drop (suc n) [] ys = refl
  paired_drop (suc n) (x ∷ xs) [] = sym (paired_none (drop n xs))
  paired_drop (suc n) (x ∷ xs) (y ∷ ys) = paired_drop n xs ys

-- a list beside its picture
pub paired_picture : {A B C : Type 0} (f : A → B → C) (g : A → B) (xs : List A) → paired f xs (map g xs) ≡ map (λ x. f x (g x)) xs
paired_picture f g [] = refl
paired_picture f g (x ∷ xs) = rw (paired_picture f g xs)

-- two pictures of one list, side by side
pub paired_back : {A B C : Type 0} (a : C → A) (b : C → B) (f : A → B → C) → ((c : C) → f (a c) (b c) ≡ c) → (cs : List C)
    → paired f (map a cs) (map b cs) ≡ cs
paired_back a b f e [] = refl
paired_back a b f e (c ∷ cs) = rw (e c, paired_back a b f e cs)
