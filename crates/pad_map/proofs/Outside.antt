-- 22: some velocity is outside its range, and no test before it fails.
-- Assumes nothing.
use Rattle.std.specs.Prelude.{Err, None}
use mathlib.Core.Path.{◌≡◌, refl, sym, ◌∙◌}
use mathlib.Core.Bool.{Bool, true, false}
use mathlib.Core.List.{List, [], ◌∷◌}
use mathlib.Core.Logic.{inl, inr}
use Prim.Native.Nat.{ℕ, ◌≤◌}
use native.Mathlib.Omega.{arith}
use lib.Dec.{leb}
use borrow.Author.Tests.{leb-true, le-leb}
use Rattle.common.specs.Elements.{◌∈◌}
use Rattle.common.proofs.Elements.{each}
use Rattle.common.proofs.Loops.{true_false, and_left, and_right}
use Rattle.segment.specs.Refusals.{too_large, list_shape, velocity_range}
use Rattle.segment.specs.declared.refusal.Refusal.{Refusal}
use Rattle.segment.specs.Results.{Answer, ◌>>=◌, check}
use Rattle.pad_map.specs.Rules.{VelocityFits, velocity_fits, all_up_to, all_audible, hits_rise, all_below, check_hits}
use Rattle.pad_map.specs.Claims.{VelocityOut, VelocityExactly}
use Rattle.pad_map.proofs.Ordered.{fits_gives, fits_from}
use Rattle.pad_map.proofs.Saved.{small_test, even_test, side_gives, small_from, even_from}
use Rattle.pad_map.proofs.Room.{other_passed, other_last}

-- ---- the sounds

up_to_gives : (high : ℕ) (xs : List ℕ) → all_up_to high xs ≡ true → (x : ℕ) → x ∈ xs → x ≤ high
unfolding all_up_to
up_to_gives high [] t x m = absurd m
up_to_gives high (y ∷ ys) t x m =
    each (λ (x : ℕ). x ≤ high) y ys (leb-true y high (and_left (leb y high) (all_up_to high ys) t))
    (up_to_gives high ys (and_right (leb y high) (all_up_to high ys) t)) x m

up_to_from : (high : ℕ) (xs : List ℕ) → ((x : ℕ) → x ∈ xs → x ≤ high) → all_up_to high xs ≡ true
unfolding all_up_to
up_to_from high [] f = refl
up_to_from high (y ∷ ys) f = rw (le-leb y high (f y (inl refl)), up_to_from high ys (λ x m. f x (inr m)))

-- ---- the velocities

pub record OneOutside (vs : List ℕ) : Type 0 where
  pub velocity : ℕ
  pub there : velocity ∈ vs
  pub outside : VelocityFits velocity → ⊥

one_outside : (vs : List ℕ) → all_audible vs ≡ false → OneOutside vs
unfolding all_audible
one_outside [] e = true_false e
one_outside (v ∷ vs) e = go (velocity_fits v) refl (one_outside vs)
  where
    go : (b : Bool) → velocity_fits v ≡ b → (all_audible vs ≡ false → OneOutside vs) → OneOutside (v ∷ vs)
    go true t r =
        let o = r (rw t at e) in
        record { velocity = o.velocity; there = inr o.there; outside = o.outside }
    go false t r = record { velocity = v; there = inl refl; outside = λ w. true_false (sym (fits_from v w) ∙ t) }

all_inside : (vs : List ℕ) → all_audible vs ≡ true → (v : ℕ) → v ∈ vs → VelocityFits v
unfolding all_audible
all_inside [] t v m = absurd m
all_inside (w ∷ ws) t v m =
    each VelocityFits w ws (fits_gives w (and_left (velocity_fits w) (all_audible ws) t))
    (all_inside ws (and_right (velocity_fits w) (all_audible ws) t)) v m

not_audible : (vs : List ℕ) (v : ℕ) → v ∈ vs → (VelocityFits v → ⊥) → all_audible vs ≡ false
not_audible vs v m out = go (all_audible vs) refl
  where
    go : (b : Bool) → all_audible vs ≡ b → b ≡ false
    go true t = absurd (out (all_inside vs t v m))
    go false t = refl

-- ---- the tests one behind another

-- refused here, where nothing behind it refuses so
refused_here : {B : Type 0} (t : Bool) (x : Refusal) (f : Unit {0} → Answer B) → (f tt ≡ Err x → ⊥) → check t x >>= f ≡ Err x
    → t ≡ false
refused_here true x f n e = absurd (n e)
refused_here false x f n e = refl

module _ (len : ℕ) (ss ts vs : List ℕ) where
  outside_gives : check_hits len ss ts vs ≡ Err velocity_range → VelocityOut ss ts vs
  unfolding check_hits
  outside_gives e =
      let (small, a) = other_passed (small_test ss ts vs) too_large _ (λ z. omega arith) e in
      let (even, b) = other_passed (even_test ss ts vs) list_shape _ (λ z. omega arith) a in
      let (low, c) = other_passed (all_up_to 127 ss) too_large _ (λ z. omega arith) b in
      let o = one_outside vs (refused_here (all_audible vs) velocity_range _ (λ d.
      let (_, f) = other_passed (hits_rise None ss ts) _ _ (λ z. omega arith) d in
      other_last (all_below len ts) _ (λ z. omega arith) f) c) in
      record {
        side_by_side = side_gives ss ts vs small even;
        sounds_low = up_to_gives 127 ss low;
        velocity = o.velocity;
        there = o.there;
        outside = o.outside;
      }

  outside_from : VelocityOut ss ts vs → check_hits len ss ts vs ≡ Err velocity_range
  unfolding check_hits
  outside_from o =
      let s = o.side_by_side in
      rw (
        small_from ss ts vs s,
        even_from ss ts vs s,
        up_to_from 127 ss o.sounds_low,
        not_audible vs o.velocity o.there o.outside,
      )

pub velocity_exactly : VelocityExactly
velocity_exactly len ss ts vs = (outside_gives len ss ts vs, outside_from len ss ts vs)
