-- Names in one text: as many as ends; and the test of a text's shape passes exactly where the shape holds in words.
-- Assumes nothing.
use mathlib.Core.Path.{◌≡◌, refl, sym, ap}
use mathlib.Core.Bool.{true}
use mathlib.Core.List.{List, [], ◌∷◌}
use Prim.Native.Nat.{ℕ, zero, suc, ◌-◌, ◌≤◌, ◌<◌}
use native.Mathlib.Omega.{arith}
use lib.Dec.{leb}
use lib.ListN.{length, drop, get_or}
use borrow.Author.Tests.{leb-true, le-leb, eqb-true, eq-eqb}
use Rattle.common.proofs.Loops.{and_left, and_right}
use Rattle.segment.specs.Texts.{ends_fit, names}
use Rattle.segment.specs.Claims.{ShapeAgrees}

-- as many names as ends
pub names_count : (from : ℕ) (ends text : List ℕ) → length (names from ends text) ≡ length ends
unfolding names
names_count from [] text = refl
names_count from (e ∷ es) text = ap suc (names_count e es (drop (e - from) text))

-- the shape of what is left from a place on
record Fits (from : ℕ) (ends : List ℕ) (n : ℕ) : Type 0 where
  first : 0 < length ends → from ≤ get_or ends 0 0
  never_fall : (i : ℕ) → suc i < length ends → get_or ends i 0 ≤ get_or ends (suc i) 0
  last : (i : ℕ) → suc i ≡ length ends → get_or ends i 0 ≡ n
  without : length ends ≡ 0 → from ≡ n

-- one end more in front
one_more : (from e : ℕ) (es : List ℕ) (n : ℕ) → from ≤ e → Fits e es n → Fits from (e ∷ es) n
one_more from e es n h f = record { first = λ _. h; never_fall = never_fall; last = last; without = λ z. absurd (omega arith) }
  where
    never_fall : (i : ℕ) → suc i < suc (length es) → get_or (e ∷ es) i 0 ≤ get_or es i 0
    never_fall zero k = f.first (omega arith)
    never_fall (suc i) k = f.never_fall i (omega arith)

    last : (i : ℕ) → suc i ≡ suc (length es) → get_or (e ∷ es) i 0 ≡ n
    last zero k = f.without (omega arith)
    last (suc i) k = f.last i (omega arith)

passed : (from : ℕ) (ends : List ℕ) (n : ℕ) → ends_fit from ends n ≡ true → Fits from ends n
unfolding ends_fit
passed from [] n t = record {
  first = λ h. absurd (omega arith);
  never_fall = λ i h. absurd (omega arith);
  last = λ i h. absurd (omega arith);
  without = λ h. eqb-true from n t;
}
passed from (e ∷ es) n t =
    one_more from e es n (leb-true from e (and_left (leb from e) (ends_fit e es n) t))
    (passed e es n (and_right (leb from e) (ends_fit e es n) t))

passes : (from : ℕ) (ends : List ℕ) (n : ℕ) → Fits from ends n → ends_fit from ends n ≡ true
unfolding ends_fit
passes from [] n f = eq-eqb from n (f.without refl)
passes from (e ∷ es) n f =
    rw (le-leb from e (f.first (omega arith)))
    (passes e es n (record {
      first = λ h. f.never_fall 0 (omega arith);
      never_fall = λ i h. f.never_fall (suc i) (omega arith);
      last = λ i h. f.last (suc i) (omega arith);
      without = λ h. f.last 0 (omega arith);
    }))

pub shape_is : ShapeAgrees
shape_is text ends = (
  λ t. let f = passed 0 ends (length text) t in
      record { never_fall = f.never_fall; last = f.last; without = λ h. sym (f.without h) },
  λ s. passes 0 ends (length text) (record {
    first = λ h. omega arith;
    never_fall = s.never_fall;
    last = s.last;
    without = λ h. sym (s.without h);
  }),
)
