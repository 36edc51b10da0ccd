-- The checks of the lists a test at a time, as the code takes them; and what they say in words.
-- Assumes nothing.
use Rattle.std.specs.Prelude.{Err, None, Ok, Some}
use Rattle.segment.specs.Results.{Answer, check}
use mathlib.Core.Path.{◌≡◌, refl, sym, ◌∙◌}
use mathlib.Core.Bool.{Bool, true, false, ◌&&◌}
use mathlib.Core.List.{List, [], ◌∷◌}
use mathlib.Core.Logic.{◌⊎◌, ⊎_elim, inl, inr}
use Prim.Native.Nat.{ℕ, ◌+◌, ◌≤◌, ◌<◌}
use native.Mathlib.Numerals.{add-one}
use lib.Dec.{leb, eqb}
use lib.ListN.{length, drop, get_or}
use borrow.Author.Tests.{lt-ltb, le-ltb, le-leb, lt-leb, leb-true, leb-false, eq-eqb, ne_eqb, eqb-true}
use Rattle.common.proofs.Loops.{drop_step, drop_end, and_left, and_right, true_false}
use Rattle.segment.specs.declared.refusal.Refusal.{Refusal}
use Rattle.segment.specs.Refusals.{too_large, list_shape, ids_not_rising}
use Rattle.segment.specs.Steps.{checked}
use Rattle.segment.proofs.Accepted.{check_gives}
use Rattle.segment.proofs.Refused.{refused_by, check_refuses}
use Rattle.segment.proofs.Inversions.{last_gives, and_none}
use Rattle.length_lookup.specs.Lookup.{check_ids, check_ids_and_lengths}
use Rattle.length_lookup.specs.Words.{Small, RisingLists, RefusedFor}
use Rattle.length_lookup.proofs.Places.{ids_give, ids_from, place_gives, place_from}

-- ---- the ids, from the second on

pub ids_start : (ids : List ℕ) → checked (check_ids 1 (Some (get_or ids 0 0)) (drop 1 ids)) ≡ checked (check_ids 0 None ids)
unfolding check_ids
ids_start [] = refl
ids_start (x ∷ xs) = refl

module _ (ids : List ℕ) (i previous : ℕ) {whole : (Answer (Unit {0}))} (inv : checked (check_ids i (Some previous) (drop i ids)) ≡ whole) where
  pub ids_next : i < length ids → previous < get_or ids i 0 → checked (check_ids (i + 1) (Some (get_or ids i 0)) (drop (i + 1) ids)) ≡ whole
  unfolding check_ids
  ids_next h k = rw (add-one i) (rw (drop_step ids i 0 h, lt-ltb previous (get_or ids i 0) k, add-one i) at inv)

  pub ids_stop : i < length ids → get_or ids i 0 ≤ previous → Err (ids_not_rising i) ≡ whole
  unfolding check_ids
  ids_stop h k = rw (drop_step ids i 0 h, le-ltb previous (get_or ids i 0) k) at inv

  pub ids_end : length ids ≤ i → (Ok tt) ≡ whole
  unfolding check_ids
  ids_end h = rw (drop_end ids i h) at inv

-- ---- the lists, a test at a time

module _ (ids lengths : List ℕ) where
  pub many_ids : 16777216 < length ids → check_ids_and_lengths ids lengths ≡ Err too_large
  unfolding check_ids_and_lengths
  many_ids h = rw (lt-leb (length ids) 16777216 h)

  pub many_lengths : 16777216 < length lengths → check_ids_and_lengths ids lengths ≡ Err too_large
  unfolding check_ids_and_lengths
  many_lengths h = rw (lt-leb (length lengths) 16777216 h, and_none (leb (length ids) 16777216))

  module _ (s : Small ids lengths) where
    pub lengths_differ : (length ids ≡ length lengths → ⊥) → check_ids_and_lengths ids lengths ≡ Err list_shape
    unfolding check_ids_and_lengths
    lengths_differ n =
        rw (le-leb (length ids) 16777216 s.0, le-leb (length lengths) 16777216 s.1, ne_eqb (length ids) (length lengths) n)

    pub ids_decide : length ids ≡ length lengths → check_ids_and_lengths ids lengths ≡ check_ids 0 None ids
    unfolding check_ids_and_lengths
    ids_decide e =
        rw (le-leb (length ids) 16777216 s.0, le-leb (length lengths) 16777216 s.1, eq-eqb (length ids) (length lengths) e)

-- ---- and in words

-- a test that failed names a list that is too long
too_long : (a b : ℕ) → leb a 16777216 && leb b 16777216 ≡ false → (16777216 < a) ⊎ (16777216 < b)
too_long a b e = by_test (leb a 16777216) refl e
  where
    by_test : (t : Bool) → leb a 16777216 ≡ t → t && leb b 16777216 ≡ false → (16777216 < a) ⊎ (16777216 < b)
    by_test true q h = inr (leb-false b 16777216 h)
    by_test false q h = inl (leb-false a 16777216 q)

module _ (ids lengths : List ℕ) where
  small_gives : leb (length ids) 16777216 && leb (length lengths) 16777216 ≡ true → Small ids lengths
  small_gives t =
      (leb-true (length ids) 16777216 (and_left _ _ t), leb-true (length lengths) 16777216 (and_right (leb (length ids) 16777216) _ t))

  -- the checks pass exactly lists side by side of which the ids rise
  pub passed_gives : check_ids_and_lengths ids lengths ≡ Ok tt → RisingLists ids lengths
  unfolding check_ids_and_lengths
  passed_gives e =
      let r₁ = check_gives (leb (length ids) 16777216 && leb (length lengths) 16777216) _ _ e in
      let r₂ = check_gives (eqb (length ids) (length lengths)) _ _ r₁.1 in (
        record { small = small_gives r₁.0; same = eqb-true (length ids) (length lengths) r₂.0 },
        ids_give 0 None ids r₂.1,
      )

  pub passed_from : RisingLists ids lengths → check_ids_and_lengths ids lengths ≡ Ok tt
  passed_from (s, r) = ids_decide ids lengths s.small s.same ∙ ids_from 0 None ids r

  -- and refuse the others, each for what is named first
  pub refused_gives : {x : Refusal} → check_ids_and_lengths ids lengths ≡ Err x → RefusedFor ids lengths x
  unfolding check_ids_and_lengths
  refused_gives {x = x} e =
      ⊎_elim
      (λ h. let (t, same) = check_refuses _ _ h in inl (too_long (length ids) (length lengths) t, sym same))
      (λ (_, h, f).
      let small : Small ids lengths = small_gives (last_gives _ _ h) in
      ⊎_elim
      (λ g. let (t, same) = check_refuses _ _ g in inr (inl (small, differ t, sym same)))
      (λ (_, g, k).
      let (place, first, is) = place_gives ids k in
      inr (inr (record { small = small; same = eqb-true (length ids) (length lengths) (last_gives _ _ g) }, place, first, is)))
      (refused_by (check (eqb (length ids) (length lengths)) list_shape) _ f))
      (refused_by (check (leb (length ids) 16777216 && leb (length lengths) 16777216) too_large) _ e)
    where
      differ : eqb (length ids) (length lengths) ≡ false → length ids ≡ length lengths → ⊥
      differ t q = true_false (sym (eq-eqb (length ids) (length lengths) q) ∙ t)

  pub refused_from : {x : Refusal} → RefusedFor ids lengths x → check_ids_and_lengths ids lengths ≡ Err x
  refused_from (inl (inl h, same)) = rw same (many_ids ids lengths h)
  refused_from (inl (inr h, same)) = rw same (many_lengths ids lengths h)
  refused_from (inr (inl (small, n, same))) = rw same (lengths_differ ids lengths small n)
  refused_from (inr (inr (s, k, f, same))) = rw same (ids_decide ids lengths s.small s.same ∙ place_from ids k f)
