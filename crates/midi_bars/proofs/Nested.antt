-- Lists of lists, joined.
-- Assumes nothing.
use mathlib.Core.Path.{◌≡◌, refl, sym, ap, ◌∙◌}
use mathlib.Core.List.{List, [], ◌∷◌, ◌++◌, map, append_assoc, map-append}
use Rattle.common.specs.Elements.{◌∈◌}
use Rattle.common.specs.Lists.{joined}
use Rattle.common.proofs.Elements.{map_from}
use Rattle.common.proofs.Membership.{joined_gives, joined_from, map_gives}

pub map_joined : {A B C : Type 0} (f : B → C) (k : A → List B) (xs : List A)
    → map f (joined (map k xs)) ≡ joined (map (λ x. map f (k x)) xs)
map_joined f k [] = refl
map_joined f k (x ∷ xs) = map-append f (k x) (joined (map k xs)) ∙ ap (λ l. map f (k x) ++ l) (map_joined f k xs)

pub joined_append : {A : Type 0} (xs ys : List (List A)) → joined (xs ++ ys) ≡ joined xs ++ joined ys
joined_append [] ys = refl
joined_append (x ∷ xs) ys = ap (λ l. x ++ l) (joined_append xs ys) ∙ sym (append_assoc x (joined xs) (joined ys))

-- joined from within or from without
pub joined_twice : {A B : Type 0} (f : B → List (List A)) (xs : List B) → joined (joined (map f xs)) ≡ joined (map (λ x. joined (f x)) xs)
joined_twice f [] = refl
joined_twice f (x ∷ xs) = joined_append (f x) (joined (map f xs)) ∙ ap (λ l. joined (f x) ++ l) (joined_twice f xs)

module _ {A B : Type 0} (f : A → List B) where
  pub parts_give : (zs : List A) (y : B) → y ∈ joined (map f zs) → (a : A) × (a ∈ zs) × (y ∈ f a)
  parts_give zs y m =
      let (ys, k, j) = joined_gives (map f zs) y m in
      let (a, i, e) = map_gives f zs ys k in
      (a, i, rw e at j)

  pub parts_from : (zs : List A) (a : A) (y : B) → a ∈ zs → y ∈ f a → y ∈ joined (map f zs)
  parts_from zs a y m k = joined_from (map f zs) (f a) y (map_from f zs a m) k
