-- The elements of a rising list found one after the other: those that are still to come.
-- Assumes nothing.
use Prim.Native.Nat.{ℕ, ◌+◌, ◌≤◌, ◌<◌}
use mathlib.Core.Path.{◌≡◌, sym, ap}
use mathlib.Core.Bool.{Bool}
use mathlib.Core.List.{List, [], ◌∷◌}
use mathlib.Core.Logic.{inl, inr, ⊎_elim}
use native.Mathlib.Nat.{eq-or-lt_of_le}
use native.Mathlib.Omega.{arith}
use lib.Dec.{leb, eqb}
use lib.ListN.{length}
use borrow.Author.Tests.{leb-true, le-leb, lt-leb}
use Rattle.common.specs.Elements.{◌∈◌, Rising}
use Rattle.common.specs.Members.{kept, some_of}
use Rattle.common.proofs.Loops.{lt_or_ge}
use Rattle.common.proofs.Kept.{kept_same, kept_all, kept_none, kept_fewer}
use Rattle.common.proofs.Membership.{kept_gives, kept_from, has_gives, has_from}
use Rattle.common.proofs.Rising.{rising_cons, kept_rises, rising_unique}

-- those from a on
abbrev pub to_come : List ℕ → ℕ → List ℕ
to_come xs a = kept (leb a) xs

module _ (xs : List ℕ) where
  come_gives : (a d : ℕ) → d ∈ to_come xs a → (d ∈ xs) × (a ≤ d)
  come_gives a d m = let (k, t) = kept_gives (leb a) xs d m in (k, leb-true a d t)

  come_from : (a d : ℕ) → d ∈ xs → a ≤ d → d ∈ to_come xs a
  come_from a d m h = kept_from (leb a) xs d m (le-leb a d h)

  pub come_all : to_come xs 0 ≡ xs
  come_all = kept_all (leb 0) xs (λ d m. le-leb 0 d (omega arith))

  pub come_none : (a : ℕ) → ((d : ℕ) → d ∈ xs → a ≤ d → ⊥) → to_come xs a ≡ []
  come_none a none =
      kept_none (leb a) xs (λ d m. ⊎_elim (λ (l : d < a). lt-leb a d l) (λ (l : a ≤ d). absurd (none d m l)) (lt_or_ge d a))

  -- none is between a and b
  pub come_same : (a b : ℕ) → a ≤ b → ((d : ℕ) → d ∈ xs → a ≤ d → d < b → ⊥) → to_come xs b ≡ to_come xs a
  come_same a b up none =
      kept_same (leb b) (leb a) xs
      (λ d m. ⊎_elim
      (λ (l : d < a). rw (lt-leb a d l, lt-leb b d (omega arith)))
      (λ (l : a ≤ d). ⊎_elim
      (λ (h : d < b). absurd (none d m l h))
      (λ (h : b ≤ d). rw (le-leb a d l, le-leb b d h))
      (lt_or_ge d b))
      (lt_or_ge d a))

  -- the first from a on is b
  pub come_next : Rising xs → (a b : ℕ) → a ≤ b → b ∈ xs → ((d : ℕ) → d ∈ xs → a ≤ d → b ≤ d) → to_come xs a ≡ b ∷ to_come xs (b + 1)
  come_next up a b h is least =
      rising_unique (to_come xs a) (b ∷ to_come xs (b + 1))
      (kept_rises (leb a) xs up)
      (rising_cons b (to_come xs (b + 1)) (λ d m. omega (arith, (come_gives (b + 1) d m).1)) (kept_rises (leb (b + 1)) xs up))
      (λ d m.
      let (k, l) = come_gives a d m in
      ⊎_elim (λ e. inl (sym e)) (λ g. inr (come_from (b + 1) d k (omega arith))) (eq-or-lt_of_le (least d k l)))
      (λ d m. ⊎_elim
      (λ e. rw e (come_from a b is h))
      (λ k. let (g, l) = come_gives (b + 1) d k in come_from a d g (omega arith)) m)

-- a part is no longer than the whole
module _ (part whole : List ℕ) (r : Rising part) (s : Rising whole) (inside : (d : ℕ) → d ∈ part → d ∈ whole) where
  abbrev in_part : ℕ → Bool
  in_part d = some_of (eqb d) part

  part_is : part ≡ kept in_part whole
  part_is =
      rising_unique part (kept in_part whole) r (kept_rises in_part whole s)
      (λ d m. kept_from in_part whole d (inside d m) (has_from part d m))
      (λ d m. has_gives part d (kept_gives in_part whole d m).1)

  pub part_fewer : length part ≤ length whole
  part_fewer = omega (arith, ap length part_is, kept_fewer in_part whole)
