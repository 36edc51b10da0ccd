-- Sequences of ranges at a place of a list, and characters one after the other.
-- Assumes nothing.
use mathlib.Core.Path.{◌≡◌, refl, sym, ap, ◌∙◌}
use mathlib.Core.List.{List, [], ◌∷◌}
use mathlib.Core.Bool.{Bool, true, false, cond, ◌&&◌}
use mathlib.Core.Logic.{⊎_elim}
use Prim.Native.Nat.{ℕ, zero, suc, ◌+◌, ◌≤◌, ◌<◌}
use native.Mathlib.Nat.{not-suc-le-zero}
use native.Mathlib.Omega.{arith}
use lib.ListN.{length, drop, get_or, length-drop}
use lib.Seq.{drop-drop}
use Rattle.utf8.specs.Utf8.{Range, in_range, starts, first_of, sequences, char_length, characters}
use Rattle.common.proofs.Loops.{lt_or_ge, drop_step, drop_end, and_true, and_right, true_false}

-- One range, past the end and at a place
pub out : (r : Range) (rs : List Range) (s : List ℕ) (at : ℕ) → length s ≤ at → starts (r ∷ rs) (drop at s) ≡ false
unfolding starts
out r rs s at h = rw (drop_end s at h)

pub here : (r : Range) (s : List ℕ) (at : ℕ) → at < length s → starts (r ∷ []) (drop at s) ≡ in_range r (get_or s at 0)
unfolding starts
here r s at h = rw (drop_step s at 0 h) (and_true (in_range r (get_or s at 0)))

split : (r : Range) (rs : List Range) (s : List ℕ) (at : ℕ)
    → starts (r ∷ rs) (drop at s) ≡ starts (r ∷ []) (drop at s) && starts rs (drop (at + 1) s)
unfolding starts
split r rs s at =
    ⊎_elim
    (λ (h : at < length s). rw (drop_step s at 0 h, and_true (in_range r (get_or s at 0))))
    (λ (h : length s ≤ at). rw (drop_end s at h))
    (lt_or_ge at (length s))

-- A range and more, from the answer t for the range alone
module _ (r : Range) (s : List ℕ) (at : ℕ) {t : Bool} (is : t ≡ starts (r ∷ []) (drop at s)) where
  pub within : t ≡ true → at < length s
  within e =
      ⊎_elim
      (λ (h : at < length s). h)
      (λ (h : length s ≤ at). true_false (sym e ∙ is ∙ out r [] s at h))
      (lt_or_ge at (length s))

  pub joined : (rs : List Range) {b : Bool} → t ≡ true → b ≡ starts rs (drop (at + 1) s) → b ≡ starts (r ∷ rs) (drop at s)
  joined rs e f = rw (split r rs s at, ← is, e) f

  pub apart : (rs : List Range) → t ≡ false → false ≡ starts (r ∷ rs) (drop at s)
  apart rs e = rw (split r rs s at, ← is, e)

-- A sequence that the list starts with is no longer than the list
starts_le : (rs : List Range) (l : List ℕ) → starts rs l ≡ true → length rs ≤ length l
unfolding starts
starts_le [] l e = omega arith
starts_le (r ∷ rs) [] e = true_false (sym e)
starts_le (r ∷ rs) (b ∷ l) e = omega (arith, starts_le rs l (and_right (in_range r b) (starts rs l) e))

picked_le : (t : Bool) (a b n : ℕ) → (t ≡ true → a ≤ n) → b ≤ n → cond t a b ≤ n
picked_le true a b n f h = f refl
picked_le false a b n f h = h

first_le : (qs : List (List Range)) (l : List ℕ) → first_of qs l ≤ length l
unfolding first_of
first_le [] l = omega arith
first_le (q ∷ qs) l = picked_le (starts q l) (length q) (first_of qs l) (length l) (starts_le q l) (first_le qs l)

skip : (k : ℕ) (l : List ℕ) → characters k l ≡ characters 0 (drop k l)
unfolding characters
skip zero l = refl
skip (suc k) [] = refl
skip (suc k) (b ∷ l) = skip k l

-- The text goes on behind its first character, and no text starts with none
pub next : (l : List ℕ) (k : ℕ) → 0 < k → char_length l ≡ k → characters 0 l ≡ characters 0 (drop k l)
unfolding characters
next l zero h e = absurd (not-suc-le-zero h)
next [] (suc k) h e = refl
next (b ∷ l) (suc k) h e = rw e (skip k l)

stop : (l : List ℕ) → 0 < length l → char_length l ≡ 0 → characters 0 l ≡ false
unfolding characters
stop [] h e = absurd (not-suc-le-zero h)
stop (b ∷ l) h e = rw e

-- At a place, from the answer k for the character's length
module _ (s : List ℕ) (at : ℕ) {k : ℕ} (is : k ≡ char_length (drop at s)) where
  pub char_le : at ≤ length s → at + k ≤ length s
  unfolding char_length
  char_le h = omega (arith, is, first_le sequences (drop at s), length-drop at s)

  pub no_char : at < length s → k ≡ 0 → characters 0 (drop at s) ≡ false
  no_char h e = stop (drop at s) (omega (arith, length-drop at s)) (sym is ∙ e)

  pub next_char : 0 < k → characters 0 (drop at s) ≡ characters 0 (drop (at + k) s)
  next_char h = next (drop at s) k h (sym is) ∙ ap (characters 0) (drop-drop k at s)

pub no_more : (s : List ℕ) (at : ℕ) → length s ≤ at → characters 0 (drop at s) ≡ true
unfolding characters
no_more s at h = rw (drop_end s at h)
