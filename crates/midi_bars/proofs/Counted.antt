-- There are no more positions than hits.
-- Assumes nothing.
use mathlib.Core.Path.{◌≡◌, refl, sym, ap}
use mathlib.Core.Bool.{Bool, true, false, cond, ◌&&◌, ◌||◌}
use mathlib.Core.List.{List, [], ◌∷◌, ◌++◌, map, map-map}
use Prim.Native.Nat.{ℕ, zero, suc, ◌+◌, ◌≤◌, ◌<◌}
use native.Mathlib.Omega.{arith}
use lib.Dec.{eqb}
use lib.ListN.{length}
use borrow.Author.Tests.{eqb-true, eqb-false}
use Rattle.common.specs.Members.{some_of, kept}
use Rattle.common.specs.Lists.{total}
use Rattle.midi_read.specs.declared.track.Hit.{Hit}
use Rattle.midi_read.specs.Files.{Grid, bar_of, position_of}
use Rattle.midi_bars.specs.Bars.{rising_from, on_position}

abbrev pub sum : {A : Type 0} → (A → ℕ) → List A → ℕ
sum f xs = total (map f xs)

abbrev pub bit : Bool → ℕ
bit true = 1
bit false = 0

module _ {A : Type 0} where
  pub sum_le : (f g : A → ℕ) (xs : List A) → ((x : A) → f x ≤ g x) → sum f xs ≤ sum g xs
  sum_le f g [] h = omega arith
  sum_le f g (x ∷ xs) h = omega (arith, h x, sum_le f g xs h)

  sum_split : (f g k : A → ℕ) (xs : List A) → ((x : A) → f x ≤ g x + k x) → sum f xs ≤ sum g xs + sum k xs
  sum_split f g k [] h = omega arith
  sum_split f g k (x ∷ xs) h = omega (arith, h x, sum_split f g k xs h)

  sum_zero : (f : A → ℕ) (xs : List A) → ((x : A) → f x ≡ 0) → sum f xs ≡ 0
  sum_zero f [] h = refl
  sum_zero f (x ∷ xs) h = omega (arith, h x, sum_zero f xs h)

  -- over fewer it is no more
  pub sum_kept : (t : A → Bool) (f : A → ℕ) (xs : List A) → sum f (kept t xs) ≤ sum f xs
  unfolding kept
  sum_kept t f [] = omega arith
  sum_kept t f (x ∷ xs) = step (t x) (sum_kept t f xs)
    where
      step : (b : Bool) → sum f (kept t xs) ≤ sum f xs → sum f (cond b (x ∷ kept t xs) (kept t xs)) ≤ f x + sum f xs
      step true h = omega arith
      step false h = omega arith

  pub kept_length : (t : A → Bool) (xs : List A) → length (kept t xs) ≡ sum (λ x. bit (t x)) xs
  unfolding kept
  kept_length t [] = refl
  kept_length t (x ∷ xs) = step (t x) (kept_length t xs)
    where
      step : (b : Bool) → length (kept t xs) ≡ sum (λ x. bit (t x)) xs
          → length (cond b (x ∷ kept t xs) (kept t xs)) ≡ bit b + sum (λ x. bit (t x)) xs
      step true h = omega arith
      step false h = omega arith

module _ {A : Type 0} (f : A → ℕ) where
  pub sum_append : (xs ys : List A) → sum f (xs ++ ys) ≡ sum f xs + sum f ys
  sum_append [] ys = omega arith
  sum_append (x ∷ xs) ys = omega (arith, sum_append xs ys)

  pub sum_map : {B : Type 0} (k : B → A) (xs : List B) → sum f (map k xs) ≡ sum (λ x. f (k x)) xs
  sum_map k xs = ap total (map-map f k xs)

-- a sum of which one number at most has a part
past : (f : ℕ → ℕ) (x a n : ℕ) → x < a → ((y : ℕ) → (y ≡ x → ⊥) → f y ≡ 0) → sum f (rising_from a n) ≡ 0
unfolding rising_from
past f x a zero h z = refl
past f x a (suc n) h z = omega (arith, z a (λ e. omega arith), past f x (suc a) n (omega arith) z)

once : (f : ℕ → ℕ) (x k a n : ℕ) → f x ≤ k → ((y : ℕ) → (y ≡ x → ⊥) → f y ≡ 0) → sum f (rising_from a n) ≤ k
unfolding rising_from
once f x k a zero h z = omega arith
once f x k a (suc n) h z = step (eqb a x) refl (once f x k (suc a) n h z)
  where
    step : (b : Bool) → eqb a x ≡ b → sum f (rising_from (suc a) n) ≤ k → f a + sum f (rising_from (suc a) n) ≤ k
    step true e ih =
        let is : a ≡ x = eqb-true a x e in
        let here : f a ≤ k = rw is h in
        omega (arith, past f x (suc a) n (omega arith) z)
    step false e ih = omega (arith, z a (eqb-false a x e))

or_bit : (a b : Bool) → bit (a || b) ≤ bit a + bit b
or_bit true b = omega arith
or_bit false b = omega arith

module _ (g : Grid) (N B P : ℕ) where
  -- the positions of all sounds in all bars
  abbrev pub cells : List Hit → ℕ
  cells hs = sum (λ n. sum (λ b. sum (λ p. bit (some_of (on_position g n b p) hs)) (rising_from 0 P)) (rising_from 0 B)) (rising_from 0 N)

  -- one hit is on one
  abbrev cell : Hit → ℕ
  cell h = sum (λ n. sum (λ b. sum (λ p. bit (on_position g n b p h)) (rising_from 0 P)) (rising_from 0 B)) (rising_from 0 N)

  not_on : (n b p : ℕ) (h : Hit) → ((h.note ≡ n) × (bar_of g h ≡ b) × (position_of g h ≡ p) → ⊥) → bit (on_position g n b p h) ≡ 0
  not_on n b p h k = step (eqb h.note n) (eqb (bar_of g h) b) (eqb (position_of g h) p) refl refl refl
    where
      step : (x y z : Bool) → eqb h.note n ≡ x → eqb (bar_of g h) b ≡ y → eqb (position_of g h) p ≡ z → bit ((x && y) && z) ≡ 0
      step true true true e f i = absurd (k (eqb-true _ _ e, eqb-true _ _ f, eqb-true _ _ i))
      step true true false e f i = refl
      step true false z e f i = refl
      step false y z e f i = refl

  bit_le : (b : Bool) → bit b ≤ 1
  bit_le true = omega arith
  bit_le false = omega arith

  one_cell : (h : Hit) → cell h ≤ 1
  one_cell h =
      once _ h.note 1 0 N
      (once _ (bar_of g h) 1 0 B
      (once _ (position_of g h) 1 0 P (bit_le (on_position g h.note (bar_of g h) (position_of g h) h))
      (λ p k. not_on _ _ p h (λ e. k (sym e.2))))
      (λ b k. sum_zero _ (rising_from 0 P) (λ p. not_on _ b p h (λ e. k (sym e.1)))))
      (λ n k. sum_zero _ (rising_from 0 B) (λ b. sum_zero _ (rising_from 0 P) (λ p. not_on n b p h (λ e. k (sym e.0)))))

  pub few_cells : (hs : List Hit) → cells hs ≤ length hs
  unfolding some_of
  few_cells [] =
      let z : cells [] ≡ 0 =
      sum_zero _ (rising_from 0 N) (λ n. sum_zero _ (rising_from 0 B) (λ b. sum_zero _ (rising_from 0 P) (λ p. refl))) in
      omega arith
  few_cells (h ∷ hs) =
      let split : cells (h ∷ hs) ≤ cell h + cells hs =
      sum_split _ _ _ (rising_from 0 N) (λ n. sum_split _ _ _ (rising_from 0 B) (λ b. sum_split _ _ _ (rising_from 0 P) (λ p.
      or_bit (on_position g n b p h) (some_of (on_position g n b p) hs)))) in
      omega (arith, one_cell h, few_cells hs)
