-- Byte strings: the same is equal, the byte order is the order in words and strict and total, the library's tests of slices are these two,
-- and what an order that was answered says.
-- Assumes nothing.
use Rattle.std.specs.declared.cmp.Ordering.{Ordering}
use Rattle.std.specs.declared.cmp.Ordering.TheVariants.{Less, Equal, Greater}
use Rattle.std.specs.Cmp.Lexicographic.{pointwise, slice_cmp}
use Rattle.std.specs.Ordering.{nat_cmp, ordering_then}
use Rattle.std.proofs.lemmas.Cmp.{nat_eq_equiv}
use mathlib.Core.Path.{◌≡◌, refl, sym, ap, ap₂, ◌∙◌}
use mathlib.Core.Bool.{Bool, true, false, cond, ◌&&◌, ◌||◌}
use mathlib.Core.List.{List, [], ◌∷◌, ◌++◌}
use mathlib.Core.Logic.{◌⊎◌, inl, inr, ⊎_elim}
use Prim.Native.Nat.{ℕ, ◌<◌}
use native.Mathlib.Omega.{arith}
use lib.Dec.{ltb, eqb}
use borrow.Author.Tests.{ltb-true, ltb-false, eqb-true, eqb-false, lt-ltb, le-ltb, eq-eqb}
use Rattle.common.proofs.Loops.{true_false, and_left, and_right}
use Rattle.segment.specs.Names.{same, precedes, Before}
use Rattle.segment.specs.Steps.{order}
use Rattle.segment.specs.Claims.{SameAgrees, OrderAgrees}

-- ---- the same

pub same_refl : (a : List ℕ) → same a a ≡ true
unfolding same
same_refl [] = refl
same_refl (x ∷ a) = rw (eq-eqb x x refl, same_refl a)

same_eq : (a b : List ℕ) → same a b ≡ true → a ≡ b
unfolding same
same_eq [] [] e = refl
same_eq [] (y ∷ b) e = true_false (sym e)
same_eq (x ∷ a) [] e = true_false (sym e)
same_eq (x ∷ a) (y ∷ b) e =
    ap₂ ◌∷◌ (eqb-true x y (and_left (eqb x y) (same a b) e)) (same_eq a b (and_right (eqb x y) (same a b) e))

pub same_is : SameAgrees
same_is a b = (same_eq a b, λ e. rw e (same_refl b))

pub apart : (a b : List ℕ) → (a ≡ b → ⊥) → same a b ≡ false
apart a b n = by_test (same a b) refl
  where
    by_test : (t : Bool) → same a b ≡ t → same a b ≡ false
    by_test true e = absurd (n (same_eq a b e))
    by_test false e = e

-- ---- the order in words

-- a byte and the byte beside it decide, or the rest does
by_byte : (x y : ℕ) (p : Bool) → ltb x y || (eqb x y && p) ≡ true → (x < y) ⊎ ((x ≡ y) × (p ≡ true))
by_byte x y p e = go (ltb x y) (eqb x y) refl refl e
  where
    go : (l q : Bool) → ltb x y ≡ l → eqb x y ≡ q → l || (q && p) ≡ true → (x < y) ⊎ ((x ≡ y) × (p ≡ true))
    go true q l e h = inl (ltb-true x y l)
    go false true l e h = inr (eqb-true x y e, h)
    go false false l e h = true_false (sym h)

lower : (x y : ℕ) (p : Bool) → x < y → ltb x y || (eqb x y && p) ≡ true
lower x y p h = rw (lt-ltb x y h)

level : (x : ℕ) (p : Bool) → ltb x x || (eqb x x && p) ≡ p
level x p = rw (le-ltb x x (omega arith), eq-eqb x x refl)

beginning : (a : List ℕ) (n : ℕ) (r : List ℕ) → precedes a (a ++ (n ∷ r)) ≡ true
unfolding precedes
beginning [] n r = refl
beginning (x ∷ a) n r = level x _ ∙ beginning a n r

after_common : (c : List ℕ) (x y : ℕ) (xs ys : List ℕ) → x < y → precedes (c ++ (x ∷ xs)) (c ++ (y ∷ ys)) ≡ true
unfolding precedes
after_common [] x y xs ys h = lower x y _ h
after_common (z ∷ c) x y xs ys h = level z _ ∙ after_common c x y xs ys h

from_words : (a b : List ℕ) → Before a b → precedes a b ≡ true
from_words a b (inl w) = rw w.whole (beginning a w.next w.rest)
from_words a b (inr w) = rw (w.of_a, w.of_b) (after_common w.common w.x w.y w.xs w.ys w.less)

-- a common first byte in front of both
in_front : (x y : ℕ) (a b : List ℕ) → x ≡ y → Before a b → Before (x ∷ a) (y ∷ b)
in_front x y a b e (inl w) = inl (record { next = w.next; rest = w.rest; whole = ap₂ ◌∷◌ (sym e) w.whole })
in_front x y a b e (inr w) =
    inr (record {
      common = x ∷ w.common;
      x = w.x;
      y = w.y;
      xs = w.xs;
      ys = w.ys;
      of_a = ap (λ l. x ∷ l) w.of_a;
      of_b = ap₂ ◌∷◌ (sym e) w.of_b;
      less = w.less;
    })

in_words : (a b : List ℕ) → precedes a b ≡ true → Before a b
unfolding precedes
in_words [] [] e = true_false (sym e)
in_words [] (y ∷ b) e = inl (record { next = y; rest = b; whole = refl })
in_words (x ∷ a) [] e = true_false (sym e)
in_words (x ∷ a) (y ∷ b) e =
    ⊎_elim
    (λ (h : x < y). inr (record { common = []; x = x; y = y; xs = a; ys = b; of_a = refl; of_b = refl; less = h }))
    (λ (h : (x ≡ y) × (precedes a b ≡ true)). in_front x y a b h.0 (in_words a b h.1))
    (by_byte x y (precedes a b) e)

pub precedes_is : OrderAgrees
precedes_is a b = (in_words a b, from_words a b)

-- ---- the order is strict and total

pub precedes_irreflexive : (a : List ℕ) → precedes a a ≡ false
unfolding precedes
precedes_irreflexive [] = refl
precedes_irreflexive (x ∷ a) = level x (precedes a a) ∙ precedes_irreflexive a

pub precedes_transitive : (a b c : List ℕ) → precedes a b ≡ true → precedes b c ≡ true → precedes a c ≡ true
unfolding precedes
precedes_transitive [] [] c e f = true_false (sym e)
precedes_transitive [] (y ∷ b) [] e f = f
precedes_transitive [] (y ∷ b) (z ∷ c) e f = refl
precedes_transitive (x ∷ a) [] c e f = true_false (sym e)
precedes_transitive (x ∷ a) (y ∷ b) [] e f = f
precedes_transitive (x ∷ a) (y ∷ b) (z ∷ c) e f =
    step (by_byte x y (precedes a b) e) (by_byte y z (precedes b c) f) (precedes_transitive a b c)
  where
    step : (x < y) ⊎ ((x ≡ y) × (precedes a b ≡ true)) → (y < z) ⊎ ((y ≡ z) × (precedes b c ≡ true))
        → (precedes a b ≡ true → precedes b c ≡ true → precedes a c ≡ true) → precedes (x ∷ a) (z ∷ c) ≡ true
    step (inl h) (inl k) ih = lower x z _ (omega arith)
    step (inl h) (inr k) ih = lower x z _ (omega (arith, k.0))
    step (inr h) (inl k) ih = lower x z _ (omega (arith, h.0))
    step (inr h) (inr k) ih = rw (h.0 ∙ k.0) (level z _ ∙ ih h.1 k.1)

pub precedes_apart : (a b : List ℕ) → precedes a b ≡ true → same a b ≡ false
precedes_apart a b e = apart a b (λ q. true_false (sym (rw q at e) ∙ precedes_irreflexive b))

pub precedes_total : (a b : List ℕ) → precedes a b ≡ false → same a b ≡ false → precedes b a ≡ true
unfolding precedes same
precedes_total [] [] e f = sym f
precedes_total [] (y ∷ b) e f = sym e
precedes_total (x ∷ a) [] e f = refl
precedes_total (x ∷ a) (y ∷ b) e f = step (ltb x y) (eqb x y) refl refl e f (precedes_total a b)
  where
    step : (l q : Bool) → ltb x y ≡ l → eqb x y ≡ q → l || (q && precedes a b) ≡ false → q && same a b ≡ false
        → (precedes a b ≡ false → same a b ≡ false → precedes b a ≡ true) → precedes (y ∷ b) (x ∷ a) ≡ true
    step true q l w h k ih = true_false h
    step false true l w h k ih = rw (eqb-true x y w) (level y _ ∙ ih h k)
    step false false l w h k ih = lower y x _ (omega (arith, ltb-false x y l, eqb-false x y w))

-- ---- the library's tests of slices

-- the library's test of equality, which takes the two the other way round
pub pointwise_same : (a b : List ℕ) → pointwise eqb b a ≡ same a b
unfolding same
pointwise_same [] [] = refl
pointwise_same [] (y ∷ b) = refl
pointwise_same (x ∷ a) [] = refl
pointwise_same (x ∷ a) (y ∷ b) = rw (nat_eq_equiv.symm y x, pointwise_same a b)

-- the library's order of slices
pub cmp_order : (a b : List ℕ) → slice_cmp nat_cmp a b ≡ order a b
unfolding precedes same
cmp_order [] [] = refl
cmp_order [] (y ∷ b) = refl
cmp_order (x ∷ a) [] = refl
cmp_order (x ∷ a) (y ∷ b) = by_heads (ltb x y) (eqb x y) (precedes a b) (same a b) (cmp_order a b)
  where
    by_heads : (l q p s : Bool) {rest : Ordering} → rest ≡ cond p Less (cond s Equal Greater)
        → ordering_then (cond l Less (cond q Equal Greater)) rest ≡ cond (l || (q && p)) Less (cond (q && s) Equal Greater)
    by_heads true q p s e = refl
    by_heads false true p s e = e
    by_heads false false p s e = refl

-- ---- an order that was answered

-- what an order says of the two tests that it is made of
abbrev Told : Bool → Bool → Ordering → Type 0
Told before equal Less = before ≡ true
Told before equal Equal = (before ≡ false) × (equal ≡ true)
Told before equal Greater = (before ≡ false) × (equal ≡ false)

told : (before equal : Bool) → Told before equal (cond before Less (cond equal Equal Greater))
told true equal = refl
told false true = (refl, refl)
told false false = (refl, refl)

module _ (a b : List ℕ) where
  pub less_is : order a b ≡ Less → precedes a b ≡ true
  less_is e = rw e at (told (precedes a b) (same a b))

  pub equal_is : order a b ≡ Equal → (precedes a b ≡ false) × (same a b ≡ true)
  equal_is e = rw e at (told (precedes a b) (same a b))

  pub greater_is : order a b ≡ Greater → (precedes a b ≡ false) × (same a b ≡ false)
  greater_is e = rw e at (told (precedes a b) (same a b))
