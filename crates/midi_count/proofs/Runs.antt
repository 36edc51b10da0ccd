-- Numbers that never fall: the different ones among them, each once. They rise, and so are known by their elements.
-- Assumes nothing.
use mathlib.Core.Path.{◌≡◌, refl}
use mathlib.Core.Bool.{Bool, true, false, cond}
use mathlib.Core.List.{List, [], ◌∷◌, ◌++◌, map}
use mathlib.Core.Logic.{◌⊎◌, inl, inr}
use Prim.Native.Nat.{ℕ, ◌+◌, ◌/◌, ◌≤◌, ◌<◌}
use native.Mathlib.Nat.{le-div_iff_mul-le, div-mul-le_self}
use native.Mathlib.Omega.{arith}
use lib.Dec.{eqb}
use borrow.Author.Tests.{eqb-true, eqb-false}
use Rattle.common.proofs.Loops.{lt_or_ge}
use Rattle.common.specs.Elements.{◌∈◌, Rising}
use Rattle.common.proofs.Elements.{rising_tail, rising_above}
use Rattle.common.proofs.Membership.{append_gives}
use Rattle.common.proofs.Rising.{rising_cons, rising_unique}
use Rattle.common.specs.Lists.{joined}
use Rattle.midi_bars.proofs.Nested.{parts_give}

-- one after another, without those that equal the last one; `last` is that one plus one, 0 where there is none
abbrev pub runs : (last : ℕ) → List ℕ → List ℕ
runs last [] = []
runs last (x ∷ xs) = cond (eqb last (x + 1)) (runs last xs) (x ∷ runs (x + 1) xs)

abbrev pub Grows : (low : ℕ) → List ℕ → Type 0
Grows low [] = Unit {0}
Grows low (x ∷ xs) = (low ≤ x) × Grows x xs

pub runs_above : (last low : ℕ) (xs : List ℕ) → last ≤ low + 1 → Grows low xs → (y : ℕ) → y ∈ runs last xs → last ≤ y
runs_above last low [] h up y m = absurd m
runs_above last low (x ∷ xs) h (at, up) y m =
    step (eqb last (x + 1)) refl m (runs_above last x xs (omega arith) up y) (runs_above (x + 1) x xs (omega arith) up y)
  where
    step : (b : Bool) → eqb last (x + 1) ≡ b → y ∈ cond b (runs last xs) (x ∷ runs (x + 1) xs) → (y ∈ runs last xs → last ≤ y)
        → (y ∈ runs (x + 1) xs → x + 1 ≤ y) → last ≤ y
    step true e m same new = same m
    step false e (inl is) same new = omega (arith, eqb-false last (x + 1) e)
    step false e (inr m) same new = omega (arith, new m)

pub runs_rise : (last low : ℕ) (xs : List ℕ) → last ≤ low + 1 → Grows low xs → Rising (runs last xs)
runs_rise last low [] h up = tt
runs_rise last low (x ∷ xs) h (at, up) =
    step (eqb last (x + 1)) (runs_rise last x xs (omega arith) up) (runs_rise (x + 1) x xs (omega arith) up)
  where
    step : (b : Bool) → Rising (runs last xs) → Rising (runs (x + 1) xs) → Rising (cond b (runs last xs) (x ∷ runs (x + 1) xs))
    step true same new = same
    step false same new = rising_cons x (runs (x + 1) xs) (λ y m. omega (arith, runs_above (x + 1) x xs (omega arith) up y m)) new

pub runs_gives : (last : ℕ) (xs : List ℕ) (y : ℕ) → y ∈ runs last xs → y ∈ xs
runs_gives last [] y m = m
runs_gives last (x ∷ xs) y m = step (eqb last (x + 1)) m (runs_gives last xs y) (runs_gives (x + 1) xs y)
  where
    step : (b : Bool) → y ∈ cond b (runs last xs) (x ∷ runs (x + 1) xs) → (y ∈ runs last xs → y ∈ xs) → (y ∈ runs (x + 1) xs → y ∈ xs)
        → y ∈ (x ∷ xs)
    step true m same new = inr (same m)
    step false (inl e) same new = inl e
    step false (inr m) same new = inr (new m)

pub runs_from : (last : ℕ) (xs : List ℕ) (y : ℕ) → y ∈ xs → (y + 1 ≡ last) ⊎ (y ∈ runs last xs)
runs_from last [] y m = absurd m
runs_from last (x ∷ xs) y m = step (eqb last (x + 1)) refl m (runs_from last xs y) (runs_from (x + 1) xs y)
  where
    later : (y + 1 ≡ x + 1) ⊎ (y ∈ runs (x + 1) xs) → (y + 1 ≡ last) ⊎ (y ∈ (x ∷ runs (x + 1) xs))
    later (inl e) = inr (inl (omega arith))
    later (inr m) = inr (inr m)

    step : (b : Bool) → eqb last (x + 1) ≡ b → y ∈ (x ∷ xs) → (y ∈ xs → (y + 1 ≡ last) ⊎ (y ∈ runs last xs))
        → (y ∈ xs → (y + 1 ≡ x + 1) ⊎ (y ∈ runs (x + 1) xs))
        → (y + 1 ≡ last) ⊎ (y ∈ cond b (runs last xs) (x ∷ runs (x + 1) xs))
    step true e (inl is) same new = inl (omega (arith, eqb-true last (x + 1) e))
    step true e (inr m) same new = same m
    step false e (inl is) same new = inr (inl is)
    step false e (inr m) same new = later (new m)

none_left : {A : Type 0} (y : ℕ) → (y + 1 ≡ 0) ⊎ A → A
none_left y (inl e) = absurd (omega arith)
none_left y (inr a) = a

-- the rising list with the same elements
pub runs_are : (xs ys : List ℕ) → Grows 0 xs → Rising ys → ((y : ℕ) → y ∈ xs → y ∈ ys) → ((y : ℕ) → y ∈ ys → y ∈ xs) → runs 0 xs ≡ ys
runs_are xs ys up r f g =
    rising_unique (runs 0 xs) ys (runs_rise 0 0 xs (omega arith) up) r (λ y m. f y (runs_gives 0 xs y m))
    (λ y m. none_left y (runs_from 0 xs y (g y m)))

-- ---- parts that rise, one above another

pub div_up : (a b s : ℕ) → 1 ≤ s → a ≤ b → a / s ≤ b / s
div_up a b s h l = (le-div_iff_mul-le {k = s} {x = a / s} {y = b} h).1 (omega (arith, div-mul-le_self a s))

pub rising_append : (xs ys : List ℕ) → Rising xs → Rising ys → ((x y : ℕ) → x ∈ xs → y ∈ ys → x < y) → Rising (xs ++ ys)
rising_append [] ys r s h = s
rising_append (x ∷ xs) ys r s h =
    rising_cons x (xs ++ ys) (λ y m. step y (append_gives xs ys y m))
    (rising_append xs ys (rising_tail x xs r) s (λ a b m k. h a b (inr m) k))
  where
    step : (y : ℕ) → (y ∈ xs) ⊎ (y ∈ ys) → x < y
    step y (inl m) = rising_above x xs r y m
    step y (inr m) = h x y (inl refl) m

pub shifted_rise : (k : ℕ) (xs : List ℕ) → Rising xs → Rising (map (λ x. k + x) xs)
shifted_rise k [] r = tt
shifted_rise k (x ∷ []) r = tt
shifted_rise k (x ∷ (y ∷ ys)) (up, r) = (omega arith, shifted_rise k (y ∷ ys) r)

-- each part within its own multiple
pub parts_rise : (s : ℕ) → 1 ≤ s → (f : ℕ → List ℕ) → ((b : ℕ) → Rising (f b)) → ((b y : ℕ) → y ∈ f b → y / s ≡ b)
    → (bs : List ℕ) → Rising bs → Rising (joined (map f bs))
parts_rise s h f r own [] up = tt
parts_rise s h f r own (b ∷ bs) up =
    rising_append (f b) (joined (map f bs)) (r b) (parts_rise s h f r own bs (rising_tail b bs up)) (λ x y m k.
    let (c, j, i) = parts_give f bs y k in
    apart x y c (own b x m) (own c y i) (rising_above b bs up c j))
  where
    apart : (x y c : ℕ) → x / s ≡ b → y / s ≡ c → b < c → x < y
    apart x y c e i u = step (lt_or_ge x y)
      where
        step : (x < y) ⊎ (y ≤ x) → x < y
        step (inl l) = l
        step (inr l) = absurd (omega (arith, div_up y x s h l))
