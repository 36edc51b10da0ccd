-- 21 in words: the check passes exactly the lists that rise, and else names the place of the first id that is not above the one before it.
-- Assumes nothing.
use Rattle.std.specs.Prelude.{Err, None, Ok, Option, Some}
use mathlib.Core.Path.{◌≡◌, refl, sym, ap, ◌∙◌}
use mathlib.Core.Bool.{Bool, true, false}
use mathlib.Core.List.{List, [], ◌∷◌}
use Prim.Native.Nat.{ℕ, zero, suc, ◌+◌, ◌<◌}
use native.Mathlib.Omega.{arith}
use lib.Dec.{ltb}
use lib.ListN.{get_or}
use borrow.Author.Tests.{lt-ltb, le-ltb, ltb-true, ltb-false}
use Rattle.segment.specs.declared.refusal.Refusal.{Refusal}
use Rattle.segment.specs.Refusals.{ids_not_rising}
use Rattle.segment.specs.Records.{rises}
use Rattle.segment.specs.Results.{◌>>=◌, check}
use Rattle.segment.proofs.Refused.{ok_refuse, refuse_same}
use Rattle.segment.proofs.Accepted.{check_gives}
use Rattle.segment.proofs.After.{After, after_none, after_cons, after_head, after_tail}
use Rattle.length_lookup.specs.Lookup.{check_ids}
use Rattle.length_lookup.specs.Words.{FirstNotAbove}

-- ---- a list that rises

pub ids_give : (place : ℕ) (previous : Option ℕ) (xs : List ℕ) → check_ids place previous xs ≡ Ok tt → After previous xs
unfolding check_ids
ids_give place previous [] e = after_none previous
ids_give place previous (x ∷ xs) e =
    let r = check_gives (rises previous x) _ _ e in
    after_cons previous x xs r.0 (ids_give (suc place) (Some x) xs r.1)

pub ids_from : (place : ℕ) (previous : Option ℕ) (xs : List ℕ) → After previous xs → check_ids place previous xs ≡ Ok tt
unfolding check_ids
ids_from place previous [] a = refl
ids_from place previous (x ∷ xs) a =
    rw (after_head previous x xs a) (ids_from (suc place) (Some x) xs (after_tail previous x xs a))

-- ---- one that does not

-- an id more in front, below the first: the place is one further
pub place_behind : (p y : ℕ) (ys : List ℕ) (k : ℕ) → p < y → FirstNotAbove (y ∷ ys) k → FirstNotAbove (p ∷ (y ∷ ys)) (suc k)
place_behind p y ys k up f = record {
  before = suc f.before;
  next = ap suc f.next;
  inside = omega (arith, f.inside);
  not_above = f.not_above;
  first = earlier;
}
  where
    earlier : (i : ℕ) → suc i < suc k → get_or (p ∷ (y ∷ ys)) i 0 < get_or (p ∷ (y ∷ ys)) (suc i) 0
    earlier zero l = up
    earlier (suc i) l = f.first i (omega arith)

-- and back
place_before : (p y : ℕ) (ys : List ℕ) (k : ℕ) → FirstNotAbove (p ∷ (y ∷ ys)) (suc (suc k)) → FirstNotAbove (y ∷ ys) (suc k)
place_before p y ys k f = record {
  before = k;
  next = refl;
  inside = omega (arith, f.inside);
  not_above = let e : f.before ≡ suc k = omega (arith, f.next) in rw e at f.not_above;
  first = λ i l. f.first (suc i) (omega arith);
}

-- behind an id, whose own place is `place`
pub behind_gives : (place p : ℕ) (xs : List ℕ) {x : Refusal} → check_ids (suc place) (Some p) xs ≡ Err x
    → (k : ℕ) × FirstNotAbove (p ∷ xs) k × (x ≡ ids_not_rising (place + k))
unfolding check_ids
behind_gives place p [] e = ok_refuse e
behind_gives place p (y ∷ ys) {x = x} e = by_test (ltb p y) refl e (λ h. behind_gives (suc place) y ys h)
  where
    by_test : (t : Bool) → ltb p y ≡ t → check t (ids_not_rising (suc place)) >>= (λ _. check_ids (suc (suc place)) (Some y) ys) ≡ Err x
        → (check_ids (suc (suc place)) (Some y) ys ≡ Err x
        → (k : ℕ) × FirstNotAbove (y ∷ ys) k × (x ≡ ids_not_rising (suc place + k)))
        → (k : ℕ) × FirstNotAbove (p ∷ (y ∷ ys)) k × (x ≡ ids_not_rising (place + k))
    by_test true q h later =
        let (k, f, same) = later h in
        (suc k, place_behind p y ys k (ltb-true p y q) f, same ∙ ap ids_not_rising (omega arith))
    by_test false q h later = (
      1,
      record {
        before = 0;
        next = refl;
        inside = omega arith;
        not_above = ltb-false p y q;
        first = λ i l. absurd (omega arith);
      },
      sym (refuse_same h) ∙ ap ids_not_rising (omega arith),
    )

pub behind_from : (place p : ℕ) (xs : List ℕ) (k : ℕ) → FirstNotAbove (p ∷ xs) k
    → check_ids (suc place) (Some p) xs ≡ Err (ids_not_rising (place + k))
unfolding check_ids
behind_from place p xs zero f = absurd (omega (arith, f.next))
behind_from place p [] (suc k) f = absurd (omega (arith, f.inside))
behind_from place p (y ∷ ys) (suc zero) f =
    let e : f.before ≡ 0 = omega (arith, f.next) in
    rw (le-ltb p y (rw e at f.not_above)) (ap (λ n. Err (ids_not_rising n)) (omega arith))
behind_from place p (y ∷ ys) (suc (suc k)) f =
    rw (lt-ltb p y (f.first 0 (omega arith)))
    (behind_from (suc place) y ys (suc k) (place_before p y ys k f) ∙ ap (λ n. Err (ids_not_rising n)) (omega arith))

-- ---- the whole list

pub place_gives : (xs : List ℕ) {x : Refusal} → check_ids 0 None xs ≡ Err x → (k : ℕ) × FirstNotAbove xs k × (x ≡ ids_not_rising k)
unfolding check_ids
place_gives [] e = ok_refuse e
place_gives (y ∷ ys) e =
    let (k, f, same) = behind_gives 0 y ys e in
    (k, f, same ∙ ap ids_not_rising (omega arith))

pub place_from : (xs : List ℕ) (k : ℕ) → FirstNotAbove xs k → check_ids 0 None xs ≡ Err (ids_not_rising k)
unfolding check_ids
place_from [] k f = absurd (omega (arith, f.inside))
place_from (y ∷ ys) k f = behind_from 0 y ys k f ∙ ap (λ n. Err (ids_not_rising n)) (omega arith)
