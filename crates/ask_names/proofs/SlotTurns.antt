-- Looking for an entry among the lists of the terms named so far.
-- Assumes nothing.
use mathlib.Core.Path.{◌≡◌, refl, sym, ap, ◌∙◌}
use mathlib.Core.Bool.{Bool, true, false, cond}
use mathlib.Core.List.{List}
use mathlib.Core.Logic.{◌⊎◌, inl, inr, ⊎_elim}
use Prim.Native.Nat.{ℕ, zero, suc, ◌+◌, ◌≤◌, ◌<◌}
use native.Mathlib.Omega.{arith}
use lib.Dec.{eqb}
use lib.ListN.{length, get_or, take}
use Rattle.std.specs.Prelude.{None, Option, Some, MatchOption}
use Rattle.std.specs.List.{AllWithin, HoldsAt}
use Rattle.std.specs.Option.{unwrap_or}
use Rattle.std.proofs.lemmas.List.{get_or-take, length-take-le}
use borrow.Author.Tests.{eqb-true, eqb-false}
use Rattle.common.proofs.Loops.{lt_or_ge}
use Rattle.read_terms.specs.declared.find.TermList.{TermList}
use Rattle.ask_names.specs.Steps.{no_list, slot_from, slot_for}

-- no further than the index after the last
pub slot_range : (n k : ℕ) (xs : List TermList) (x : ℕ) → slot_from n k xs x ≤ k + n
unfolding slot_from
slot_range zero k xs x = omega arith
slot_range (suc n) k xs x = step (eqb ((get_or xs k no_list).entry) x) (slot_range n (suc k) xs x)
  where
    step : (t : Bool) → slot_from n (suc k) xs x ≤ suc k + n → cond t k (slot_from n (suc k) xs x) ≤ k + suc n
    step true h = omega arith
    step false h = omega arith

-- what is there, if it is no further than the last
pub slot_finds : (n k : ℕ) (xs : List TermList) (x : ℕ) → slot_from n k xs x < k + n → (get_or xs (slot_from n k xs x) no_list).entry ≡ x
unfolding slot_from
slot_finds zero k xs x h = absurd (omega arith)
slot_finds (suc n) k xs x h = step (eqb ((get_or xs k no_list).entry) x) refl h (λ g. slot_finds n (suc k) xs x g)
  where
    step : (t : Bool) → eqb ((get_or xs k no_list).entry) x ≡ t → cond t k (slot_from n (suc k) xs x) < k + suc n
        → (slot_from n (suc k) xs x < suc k + n → (get_or xs (slot_from n (suc k) xs x) no_list).entry ≡ x)
        → (get_or xs (cond t k (slot_from n (suc k) xs x)) no_list).entry ≡ x
    step true e g later = eqb-true _ _ e
    step false e g later = later (omega arith)

-- and not before
pub slot_skips : (n k : ℕ) (xs : List TermList) (x j : ℕ) → k ≤ j → j < slot_from n k xs x → (get_or xs j no_list).entry ≡ x → ⊥
unfolding slot_from
slot_skips zero k xs x j a b = absurd (omega arith)
slot_skips (suc n) k xs x j a b = step (eqb ((get_or xs k no_list).entry) x) refl b (lt_or_ge k j) (slot_skips n (suc k) xs x j)
  where
    step : (t : Bool) → eqb ((get_or xs k no_list).entry) x ≡ t → j < cond t k (slot_from n (suc k) xs x) → (k < j) ⊎ (j ≤ k)
        → (suc k ≤ j → j < slot_from n (suc k) xs x → (get_or xs j no_list).entry ≡ x → ⊥) → (get_or xs j no_list).entry ≡ x → ⊥
    step true e b c later is = omega arith
    step false e b (inl c) later is = later c b is
    step false e b (inr c) later is =
        let here : j ≡ k = omega arith in
        eqb-false _ _ e (rw here at is)

-- ---- what a search has found: the first such list, or none

module _ (n : ℕ) (xs : List TermList) (x : ℕ) (few : n ≤ length xs) where
  abbrev Is : TermList → Type 0
  Is l = l.entry ≡ x

  abbrev IsNot : TermList → Type 0
  IsNot l = l.entry ≡ x → ⊥

  -- those that were passed
  passed : (i : ℕ) → i ≤ n → AllWithin IsNot (take n xs) 0 i → (j : ℕ) → j < i → IsNot (get_or xs j no_list)
  passed i h before j g e = before j no_list (omega arith) g (ap (λ l. l.entry) (get_or-take n xs j no_list (omega arith)) ∙ e)

  pub slot_found : (r : Option ℕ)
      → MatchOption r (AllWithin IsNot (take n xs) 0 (length (take n xs)))
      (λ i. (i < length (take n xs)) × HoldsAt Is (take n xs) i × AllWithin IsNot (take n xs) 0 i)
      → unwrap_or r n ≡ slot_for n xs x
  slot_found (Some i) (h, at, before) =
      let g : i < n = omega (arith, length-take-le n xs few) in
      let is : (get_or xs i no_list).entry ≡ x = ap (λ l. l.entry) (sym (get_or-take n xs i no_list g)) ∙ at no_list in
      ⊎_elim
      (λ (l : i < slot_for n xs x). absurd (slot_skips n 0 xs x i (omega arith) l is))
      (λ (l : slot_for n xs x ≤ i).
      ⊎_elim (λ (m : slot_for n xs x < i). absurd (passed i (omega arith) before _ m (slot_finds n 0 xs x (omega arith))))
      (λ (m : i ≤ slot_for n xs x). omega arith) (lt_or_ge (slot_for n xs x) i))
      (lt_or_ge i (slot_for n xs x))
  slot_found None before =
      ⊎_elim
      (λ (l : slot_for n xs x < n).
      absurd (passed n (omega arith) (rw (length-take-le n xs few) at before) _ l (slot_finds n 0 xs x (omega arith))))
      (λ (l : n ≤ slot_for n xs x). omega (arith, slot_range n 0 xs x))
      (lt_or_ge (slot_for n xs x) n)
