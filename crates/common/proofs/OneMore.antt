-- One element more: at the end of a list, or set into an array behind those in use. What holds of each before and of the new one holds of all.
-- Assumes nothing.
use mathlib.Core.Path.{◌≡◌, refl}
use mathlib.Core.Bool.{Bool, true, false}
use mathlib.Core.List.{List, [], ◌∷◌, ◌++◌}
use mathlib.Core.Logic.{◌⊎◌, inl, inr, ⊎_elim}
use Prim.Native.Nat.{ℕ, zero, suc, ◌+◌, ◌≤◌, ◌<◌}
use native.Mathlib.Omega.{arith}
use lib.Dec.{eqb}
use lib.ListN.{length, get_or, set}
use lib.Seq.{get_or-set_same, get_or-set_other}
use borrow.Author.Tests.{eqb-true, eqb-false}
use Rattle.common.proofs.Loops.{lt_or_ge}
use Rattle.common.specs.Elements.{◌∈◌}
use Rattle.common.proofs.Membership.{append_gives}

pub equal_or_not : (a b : ℕ) → (a ≡ b) ⊎ (a ≡ b → ⊥)
equal_or_not a b = step (eqb a b) refl
  where
    step : (t : Bool) → eqb a b ≡ t → (a ≡ b) ⊎ (a ≡ b → ⊥)
    step true e = inl (eqb-true a b e)
    step false e = inr (eqb-false a b e)

module _ {A : Type 0} where
  pub in_more : (xs : List A) (y x : A) → x ∈ (xs ++ (y ∷ [])) → (x ∈ xs) ⊎ (x ≡ y)
  in_more xs y x m = ⊎_elim inl (⊎_elim inr absurd) (append_gives xs (y ∷ []) x m)

  pub each_more : (d : A) (xs : List A) (x : A) (P : ℕ → A → Type 0) → ((i : ℕ) → i < length xs → P i (get_or xs i d)) → P (length xs) x
      → (i : ℕ) → i < length (xs ++ (x ∷ [])) → P i (get_or (xs ++ (x ∷ [])) i d)
  each_more d [] x P old new zero h = new
  each_more d [] x P old new (suc i) h = absurd (omega arith)
  each_more d (y ∷ xs) x P old new zero h = old 0 (omega arith)
  each_more d (y ∷ xs) x P old new (suc i) h =
      each_more d xs x (λ j. P (suc j)) (λ j g. old (suc j) (omega arith)) new i (omega arith)

  pub each_set : (d : A) (xs : List A) (k : ℕ) (x : A) (P : ℕ → A → Type 0) → k < length xs
      → ((i : ℕ) → i < k → P i (get_or xs i d)) → P k x → (i : ℕ) → i < k + 1 → P i (get_or (set xs k x) i d)
  each_set d xs k x P g old new i h = step (lt_or_ge i k)
    where
      step : (i < k) ⊎ (k ≤ i) → P i (get_or (set xs k x) i d)
      step (inl b) = rw (get_or-set_other xs k i x d (λ e. omega arith)) (old i b)
      step (inr b) = let here : i ≡ k = omega arith in rw (here, get_or-set_same xs k x d g) new
