-- The bar under an id, a bar at a time.
-- Assumes nothing.
use Rattle.std.specs.Prelude.{Some}
use mathlib.Core.Path.{◌≡◌}
use mathlib.Core.List.{List, ◌∷◌}
use Prim.Native.Nat.{ℕ}
use borrow.Author.Tests.{eq-eqb, ne_eqb}
use Rattle.pad_map.specs.Bars.{Bar, lookup}

module _ (b : Bar) (bs : List Bar) (id : ℕ) where
  pub lookup_here : b.id ≡ id → lookup (b ∷ bs) id ≡ Some b
  unfolding lookup
  lookup_here e = rw (eq-eqb b.id id e)

  pub lookup_later : (b.id ≡ id → ⊥) → lookup (b ∷ bs) id ≡ lookup bs id
  unfolding lookup
  lookup_later n = rw (ne_eqb b.id id n)
