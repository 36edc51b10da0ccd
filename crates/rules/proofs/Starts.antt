-- The phrase: the starts listed are those on which it stands, and its test is the rule in words.
-- Assumes nothing.
use mathlib.Core.Path.{◌≡◌, refl, sym}
use mathlib.Core.Bool.{true}
use mathlib.Core.List.{List, [], ◌∷◌}
use mathlib.Core.Logic.{inl, ◌↔◌}
use Prim.Native.Nat.{ℕ, zero, suc, ◌+◌, ◌<◌}
use native.Mathlib.Nat.{add-zero, suc-add, add-suc, not-suc-le-zero, le_of_suc-le-suc}
use native.Mathlib.Omega.{arith}
use lib.ListN.{length, get_or}
use Rattle.common.proofs.Loops.{true_false, and_left, and_right}
use Rattle.common.specs.Elements.{◌∈◌, Rising}
use Rattle.rules.specs.Words.{HasPhrase}
use Rattle.rules.specs.Rules.{has, phrase_at, starts, not_empty, phrase}
use Rattle.common.proofs.Membership.{has_gives, has_from, kept_gives, kept_from}
use Rattle.common.proofs.Rising.{kept_rises}

-- name i stands on start + i
abbrev pub StandsFrom : ℕ → (List ℕ → List ℕ) → List (List ℕ) → Type 0
StandsFrom start own ns = (i : ℕ) → i < length ns → (start + i) ∈ own (get_or ns i [])

-- one start is enough
first_left : (xs : List ℕ) → not_empty xs ≡ true → (x : ℕ) × (x ∈ xs)
first_left [] t = true_false (sym t)
first_left (x ∷ xs) t = (x, inl refl)

pub left_if : (xs : List ℕ) (x : ℕ) → x ∈ xs → not_empty xs ≡ true
left_if [] x m = absurd m
left_if (y ∷ ys) x m = refl

module _ (own : List ℕ → List ℕ) where
  stands : (start : ℕ) (ns : List (List ℕ)) → phrase_at start own ns ≡ true → StandsFrom start own ns
  unfolding phrase_at
  stands start [] t i h = absurd (not-suc-le-zero h)
  stands start (n ∷ ns) t zero h = rw add-zero (has_gives (own n) start (and_left (has (own n) start) (phrase_at (suc start) own ns) t))
  stands start (n ∷ ns) t (suc i) h =
      rw (add-suc, ← suc-add)
      (stands (suc start) ns (and_right (has (own n) start) (phrase_at (suc start) own ns) t) i (le_of_suc-le-suc h))

  fits : (start : ℕ) (ns : List (List ℕ)) → StandsFrom start own ns → phrase_at start own ns ≡ true
  unfolding phrase_at
  fits start [] h = refl
  fits start (n ∷ ns) h =
      rw (has_from (own n) start (rw add-zero at (h 0 (omega arith))))
      (fits (suc start) ns (λ i l. rw (suc-add, ← add-suc) (h (suc i) (omega arith))))

  pub phrase_at_is : (start : ℕ) (ns : List (List ℕ)) → (phrase_at start own ns ≡ true) ↔ StandsFrom start own ns
  phrase_at_is start ns = (stands start ns, fits start ns)

  -- the starts of a phrase of no names are none
  pub starts_are : (ns : List (List ℕ)) (start : ℕ) → (start ∈ starts own ns) ↔ ((0 < length ns) × StandsFrom start own ns)
  unfolding starts
  starts_are [] start = (λ m. absurd m, λ h. absurd (not-suc-le-zero h.0))
  starts_are (n ∷ ns) start = (
    λ m. (omega arith, stands start (n ∷ ns) (kept_gives (λ p. phrase_at p own (n ∷ ns)) (own n) start m).1),
    λ h. kept_from (λ p. phrase_at p own (n ∷ ns)) (own n) start (rw add-zero at (h.1 0 h.0)) (fits start (n ∷ ns) h.1),
  )

  pub starts_rise : (ns : List (List ℕ)) → Rising (own (get_or ns 0 [])) → Rising (starts own ns)
  unfolding starts
  starts_rise [] r = tt
  starts_rise (n ∷ ns) r = kept_rises (λ p. phrase_at p own (n ∷ ns)) (own n) r

  -- a phrase of one name or more
  pub phrase_is : (ns : List (List ℕ)) → 0 < length ns → (phrase own ns ≡ true) ↔ HasPhrase own ns
  phrase_is ns h = (
    λ t. let (start, m) = first_left (starts own ns) t in record { start = start; on = ((starts_are ns start).0 m).1 },
    λ w. left_if (starts own ns) w.start ((starts_are ns w.start).1 (h, w.on)),
  )
