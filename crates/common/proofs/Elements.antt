-- Membership: in lists one behind another, and in an image. Lists that rise: what follows an element rises too, and is above it.
-- Assumes nothing.
use mathlib.Core.Path.{ap}
use mathlib.Core.List.{List, [], ◌∷◌, ◌++◌, map}
use mathlib.Core.Logic.{inl, inr}
use Prim.Native.Nat.{ℕ, ◌<◌}
use native.Mathlib.Omega.{arith}
use Rattle.common.specs.Elements.{◌∈◌, Rising}

module _ {A : Type 0} where
  pub append_left : (xs ys : List A) (x : A) → x ∈ xs → x ∈ (xs ++ ys)
  append_left [] ys x m = absurd m
  append_left (y ∷ xs) ys x (inl e) = inl e
  append_left (y ∷ xs) ys x (inr m) = inr (append_left xs ys x m)

  pub append_right : (xs ys : List A) (x : A) → x ∈ ys → x ∈ (xs ++ ys)
  append_right [] ys x m = m
  append_right (y ∷ xs) ys x m = inr (append_right xs ys x m)

  -- what holds of the first and of the others holds of each
  pub each : (P : A → Type 0) (x : A) (xs : List A) → P x → ((y : A) → y ∈ xs → P y) → (y : A) → y ∈ (x ∷ xs) → P y
  each P x xs h f y (inl e) = rw e h
  each P x xs h f y (inr m) = f y m

module _ {A B : Type 0} (f : A → B) where
  pub map_from : (xs : List A) (x : A) → x ∈ xs → f x ∈ map f xs
  map_from [] x m = absurd m
  map_from (y ∷ ys) x (inl e) = inl (ap f e)
  map_from (y ∷ ys) x (inr m) = inr (map_from ys x m)

pub rising_tail : (x : ℕ) (xs : List ℕ) → Rising (x ∷ xs) → Rising xs
rising_tail x [] r = tt
rising_tail x (y ∷ ys) r = r.1

pub rising_above : (x : ℕ) (xs : List ℕ) → Rising (x ∷ xs) → (y : ℕ) → y ∈ xs → x < y
rising_above x [] r y m = absurd m
rising_above x (z ∷ zs) (up, r) y (inl e) = omega arith
rising_above x (z ∷ zs) (up, r) y (inr m) = omega (arith, rising_above z zs r y m)
