-- Lists whose elements rise: what passes of one rises too, and one is known by its elements.
-- Assumes nothing.
use mathlib.Core.Path.{◌≡◌, refl, sym, ap₂}
use mathlib.Core.Bool.{Bool, true, false, cond}
use mathlib.Core.List.{List, [], ◌∷◌}
use mathlib.Core.Logic.{inl, inr}
use Prim.Native.Nat.{ℕ, ◌<◌}
use native.Mathlib.Omega.{arith}
use Rattle.common.specs.Members.{kept}
use Rattle.common.specs.Elements.{◌∈◌, Rising}
use Rattle.common.proofs.Elements.{rising_tail, rising_above}
use Rattle.common.proofs.Membership.{kept_gives, kept_from}

pub rising_cons : (x : ℕ) (xs : List ℕ) → ((y : ℕ) → y ∈ xs → x < y) → Rising xs → Rising (x ∷ xs)
rising_cons x [] h r = tt
rising_cons x (y ∷ ys) h r = (h y (inl refl), r)

-- what passes a test
pub kept_rises : (f : ℕ → Bool) (xs : List ℕ) → Rising xs → Rising (kept f xs)
unfolding kept
kept_rises f [] r = tt
kept_rises f (x ∷ xs) r = step (f x) (kept_rises f xs (rising_tail x xs r))
  where
    step : (b : Bool) → Rising (kept f xs) → Rising (cond b (x ∷ kept f xs) (kept f xs))
    step true later = rising_cons x (kept f xs) (λ y m. rising_above x xs r y (kept_gives f xs y m).0) later
    step false later = later

-- all but the first of the one stand behind the first of the other
behind : (x : ℕ) (xs : List ℕ) (y : ℕ) (ys : List ℕ) → Rising (x ∷ xs) → x ≡ y → ((d : ℕ) → d ∈ (x ∷ xs) → d ∈ (y ∷ ys)) → (d : ℕ) → d ∈ xs
    → d ∈ ys
behind x xs y ys r heads f d m = step (f d (inr m))
  where
    step : d ∈ (y ∷ ys) → d ∈ ys
    step (inl e) = absurd (omega (arith, rising_above x xs r d m))
    step (inr k) = k

-- two with the same elements are one
pub rising_unique : (xs ys : List ℕ) → Rising xs → Rising ys → ((d : ℕ) → d ∈ xs → d ∈ ys) → ((d : ℕ) → d ∈ ys → d ∈ xs) → xs ≡ ys
rising_unique [] [] r s f g = refl
rising_unique [] (y ∷ ys) r s f g = absurd (g y (inl refl))
rising_unique (x ∷ xs) [] r s f g = absurd (f x (inl refl))
rising_unique (x ∷ xs) (y ∷ ys) r s f g =
    ap₂ ◌∷◌ heads
    (rising_unique xs ys (rising_tail x xs r) (rising_tail y ys s) (behind x xs y ys r heads f) (behind y ys x xs s (sym heads) g))
  where
    meet : x ∈ (y ∷ ys) → y ∈ (x ∷ xs) → x ≡ y
    meet (inl e) m = e
    meet (inr m) (inl e) = sym e
    meet (inr m) (inr k) = omega (arith, rising_above y ys s x m, rising_above x xs r y k)

    heads : x ≡ y
    heads = meet (f x (inl refl)) (g y (inl refl))

-- A test may be put to a part only, where nothing outside the part passes
module _ (f : ℕ → Bool) (whole part : List ℕ) where
  pub kept_of_part : Rising whole → Rising part → ((d : ℕ) → d ∈ part → d ∈ whole)
      → ((d : ℕ) → d ∈ whole → f d ≡ true → d ∈ part) → kept f whole ≡ kept f part
  kept_of_part r s inside enough =
      rising_unique (kept f whole) (kept f part) (kept_rises f whole r) (kept_rises f part s)
      (λ d m. let (k, t) = kept_gives f whole d m in kept_from f part d (enough d k t) t)
      (λ d m. let (k, t) = kept_gives f part d m in kept_from f whole d (inside d k) t)
