-- The tests of the lists: a hit at a time, and one behind another.
-- Assumes nothing.
use Rattle.std.specs.Prelude.{Err, None, Ok, Option, Some, EachIndex, ◌↔◌}
use mathlib.Core.Path.{◌≡◌, refl, sym, ◌∙◌}
use mathlib.Core.Bool.{Bool, true, false, ◌&&◌}
use mathlib.Core.Logic.{◌⊎◌, inl, inr}
use mathlib.Core.List.{List, [], ◌∷◌}
use Prim.Native.Nat.{ℕ, max, zero, suc, ◌+◌, ◌≤◌, ◌<◌}
use native.Mathlib.Omega.{arith}
use lib.Dec.{ltb, leb, eqb}
use lib.ListN.{length, drop, get_or}
use borrow.Author.Tests.{ltb-true, leb-true, lt-ltb, le-ltb, le-leb, lt-leb, eq-eqb, ne_eqb}
use Rattle.std.proofs.lemmas.Bool.Decides.{nat_tests}
use Rattle.common.proofs.Loops.{and_left, and_right, drop_step, drop_end}
use Rattle.segment.specs.Refusals.{too_large, list_shape, velocity_range}
use Rattle.segment.specs.Refusals.{invalid_layout, positions_not_increasing, written_position_exceeds_length}
use Rattle.pad_map.specs.declared.Key.{Key}
use Rattle.pad_map.specs.Bars.{key}
use Rattle.pad_map.specs.Rules.{VelocityFits, velocity_fits, comes_after, all_up_to, all_audible, hits_rise, all_below, check_hits}
use Rattle.pad_map.specs.Claims.{SideBySide}
use Rattle.pad_map.proofs.Ordered.{fits_gives, fits_from}
use Rattle.pad_map.proofs.Saved.{small_from, even_from}

-- A test that goes through a list element by element is true exactly where each element passes
module _ (P : ℕ → Type 0) (p : ℕ → Bool) (gives : (x : ℕ) → p x ≡ true → P x) (from : (x : ℕ) → P x → p x ≡ true)
    (test : List ℕ → Bool) (none : test [] ≡ true) (step : (x : ℕ) (xs : List ℕ) → test (x ∷ xs) ≡ p x && test xs) where
  each_gives : (xs : List ℕ) → test xs ≡ true → EachIndex xs (λ k. P (get_or xs k 0))
  each_gives [] e k h = absurd (omega arith)
  each_gives (x ∷ xs) e zero h = gives x (and_left (p x) (test xs) (sym (step x xs) ∙ e))
  each_gives (x ∷ xs) e (suc k) h = each_gives xs (and_right (p x) (test xs) (sym (step x xs) ∙ e)) k (omega arith)

  each_from : (xs : List ℕ) → EachIndex xs (λ k. P (get_or xs k 0)) → test xs ≡ true
  each_from [] e = none
  each_from (x ∷ xs) e = rw (step x xs, from x (e 0 (omega arith)), each_from xs (λ k h. e (suc k) (omega arith)))

  by_each : (r : Bool) (xs : List ℕ) → (r ≡ true) ↔ EachIndex xs (λ k. P (get_or xs k 0)) → r ≡ test xs
  by_each true xs e = sym (each_from xs (e.0 refl))
  by_each false xs e = go (test xs) refl
    where
      go : (t : Bool) → test xs ≡ t → false ≡ t
      go true t = e.1 (each_gives xs t)
      go false t = refl

pub up_to_by_each : (high : ℕ) (r : Bool) (xs : List ℕ) → (r ≡ true) ↔ EachIndex xs (λ k. get_or xs k 0 ≤ high) → r ≡ all_up_to high xs
unfolding all_up_to
up_to_by_each high =
    by_each (λ x. x ≤ high) (λ x. leb x high) (λ x. leb-true x high) (λ x. le-leb x high) (all_up_to high) refl (λ x xs. refl)

pub audible_by_each : (r : Bool) (xs : List ℕ) → (r ≡ true) ↔ EachIndex xs (λ k. VelocityFits (get_or xs k 0)) → r ≡ all_audible xs
unfolding all_audible
audible_by_each = by_each VelocityFits velocity_fits fits_gives fits_from all_audible refl (λ x xs. refl)

pub below_by_each : (len : ℕ) (r : Bool) (xs : List ℕ) → (r ≡ true) ↔ EachIndex xs (λ k. get_or xs k 0 < len) → r ≡ all_below len xs
unfolding all_below
below_by_each len =
    by_each (λ x. x < len) (λ x. ltb x len) (λ x. ltb-true x len) (λ x. lt-ltb x len) (all_below len) refl (λ x xs. refl)

module _ (previous : Option Key) (ss ts : List ℕ) (e : length ss ≡ length ts) (i : ℕ) {all : Bool}
    (inv : hits_rise previous (drop i ss) (drop i ts) ≡ all) where
  module _ (h : i < length ss) (s : ℕ) (is : s ≡ get_or ss i 0) where
    step : hits_rise previous (s ∷ drop (i + 1) ss) (get_or ts i 0 ∷ drop (i + 1) ts) ≡ all
    step = rw is (rw (drop_step ss i 0 h, drop_step ts i 0 (omega arith)) at inv)

    pub rise_stop : false ≡ comes_after previous (key s (get_or ts i 0)) → false ≡ all
    unfolding hits_rise
    rise_stop k = rw (← k) at step

    pub rise_next : true ≡ comes_after previous (key s (get_or ts i 0))
        → hits_rise (Some (key s (get_or ts i 0))) (drop (i + 1) ss) (drop (i + 1) ts) ≡ all
    unfolding hits_rise
    rise_next k = rw (← k) at step

  pub rise_end : length ss ≤ i → true ≡ all
  unfolding hits_rise
  rise_end h = rw (drop_end ss i h) at inv

-- ---- one test behind another

some_high : (a b c n : ℕ) → n < max (max a b) c → leb a n && (leb b n && leb c n) ≡ false
some_high a b c n h = grind (arith, nat_tests)

none_high : (a b c n : ℕ) → max (max a b) c ≤ n → leb a n && (leb b n && leb c n) ≡ true
none_high a b c n h = rw (le-leb a n (omega arith), le-leb b n (omega arith), le-leb c n (omega arith))

some_other : (a b c : ℕ) → (a ≡ b → ⊥) ⊎ ((a ≡ b) × (a ≡ c → ⊥)) → eqb a b && eqb a c ≡ false
some_other a b c (inl n) = rw (ne_eqb a b n)
some_other a b c (inr (e, n)) = rw (eq-eqb a b e, ne_eqb a c n)

module _ (len : ℕ) (ss ts vs : List ℕ) where
  pub too_many : 16777216 < max (max (length ss) (length ts)) (length vs) → check_hits len ss ts vs ≡ Err too_large
  unfolding check_hits
  too_many h = rw (some_high (length ss) (length ts) (length vs) 16777216 h)

  module _ (few : max (max (length ss) (length ts)) (length vs) ≤ 16777216) where
    pub uneven : (length ss ≡ length ts → ⊥) ⊎ ((length ss ≡ length ts) × (length ss ≡ length vs → ⊥))
        → check_hits len ss ts vs ≡ Err list_shape
    unfolding check_hits
    uneven n = rw (none_high (length ss) (length ts) (length vs) 16777216 few, some_other (length ss) (length ts) (length vs) n)

  module _ (w : SideBySide ss ts vs) where
    pub sound_high : false ≡ all_up_to 127 ss → check_hits len ss ts vs ≡ Err too_large
    unfolding check_hits
    sound_high f = rw (small_from ss ts vs w, even_from ss ts vs w, ← f)

    module _ (f : true ≡ all_up_to 127 ss) where
      pub velocity_out : false ≡ all_audible vs → check_hits len ss ts vs ≡ Err velocity_range
      unfolding check_hits
      velocity_out v = rw (small_from ss ts vs w, even_from ss ts vs w, ← f, ← v)

      module _ (v : true ≡ all_audible vs) where
        pub order_wrong : false ≡ hits_rise None ss ts → check_hits len ss ts vs ≡ Err (invalid_layout positions_not_increasing)
        unfolding check_hits
        order_wrong g = rw (small_from ss ts vs w, even_from ss ts vs w, ← f, ← v, ← g)

        module _ (g : true ≡ hits_rise None ss ts) where
          pub step_past : false ≡ all_below len ts → check_hits len ss ts vs ≡ Err (invalid_layout written_position_exceeds_length)
          unfolding check_hits
          step_past h = rw (small_from ss ts vs w, even_from ss ts vs w, ← f, ← v, ← g, ← h)

          pub all_passed : true ≡ all_below len ts → check_hits len ss ts vs ≡ Ok tt
          unfolding check_hits
          all_passed h = rw (small_from ss ts vs w, even_from ss ts vs w, ← f, ← v, ← g, ← h)
