-- Reading an unsigned LEB128 number a byte at a time, at an offset of a list.
-- Assumes nothing.
use Rattle.std.specs.Prelude.{None, Option, Some}
use mathlib.Core.Path.{◌≡◌, refl, ap, ◌∙◌}
use mathlib.Core.List.{List, [], ◌∷◌}
use mathlib.Core.Bool.{Bool, true, false, cond, ◌&&◌}
use mathlib.Core.Logic.{⊎_elim}
use Prim.Native.Nat.{ℕ, suc, ◌+◌, ◌*◌, ◌%◌, ◌^◌, ◌≤◌, ◌<◌}
use native.Mathlib.Omega.{arith}
use lib.Dec.{ltb, leb}
use lib.ListN.{length, drop, get_or}
use borrow.Author.Tests.{lt-ltb, le-ltb, le-leb, lt-leb}
use Rattle.leb128.specs.Leb128.{Leb, below, uleb128, limited}
use Rattle.leb128.specs.Promise.{decoded}
use Rattle.leb128.specs.Claims as claims
use Rattle.common.proofs.Loops.{lt_or_ge, drop_step, drop_end}

-- a byte b of a list: x, which `get` answers at the offset, as a u32
module _ (s : List ℕ) (at : ℕ) {b x : ℕ} (is : b ≡ x) (read : at < length s × ((d : ℕ) → x ≡ get_or s at d)) where
  pub more : 128 ≤ b → uleb128 (drop at s) ≡ below b (uleb128 (drop (at + 1) s))
  unfolding uleb128
  more k = rw (drop_step s at 0 read.0, ← read.1 0, ← is, le-ltb b 128 k)

  pub last : b < 128 → uleb128 (drop at s) ≡ Some (claims.leb_number b 1)
  unfolding uleb128
  last k = rw (drop_step s at 0 read.0, ← read.1 0, ← is, lt-ltb b 128 k)

pub out : (s : List ℕ) (at : ℕ) → length s ≤ at → uleb128 (drop at s) ≡ None
unfolding uleb128
out s at h = rw (drop_end s at h)

-- what the code answers, from what the definition finds
module _ (at : ℕ) (l : Option Leb) where
  pub refused : l ≡ None → None ≡ decoded at (limited l)
  refused e = rw e

  pub large : (v k : ℕ) → l ≡ Some (claims.leb_number v k) → 2 ^ 32 ≤ v → None ≡ decoded at (limited l)
  large v k e h = rw (e, le-ltb v (2 ^ 32) h) (either (leb k 5))
    where
      either : (b : Bool) → None ≡ decoded at (cond (b && false) (Some (claims.leb_number v k)) None)
      either true = refl
      either false = refl

  pub long : (v k : ℕ) → l ≡ Some (claims.leb_number v k) → 5 < k → None ≡ decoded at (limited l)
  long v k e h = rw (e, lt-leb k 5 h)

  pub value : (v k x p : ℕ) → l ≡ Some (claims.leb_number v k) → k ≤ 5 → v < 2 ^ 32 → x ≡ v → p ≡ at + k
      → Some (record { value = x; next = record { at = p } }) ≡ decoded at (limited l)
  value v k x p e f h a b = rw (e, le-leb k 5 f, lt-ltb v (2 ^ 32) h, a, b)

-- a number takes a byte at least
below_size : (b : ℕ) (o : Option Leb) (t : Bool) (r : Leb) → cond t (Some (claims.leb_number b 1)) (below b o) ≡ Some r → 1 ≤ r.size
below_size b o true r e = let f : 1 ≡ r.size = cc in omega arith
below_size b None false r e = let z : ◌≡◌ {A = ℕ} 0 1 = cc in omega arith
below_size b (Some q) false r e = let f : suc q.size ≡ r.size = cc in omega arith

pub size_pos : (l : List ℕ) (r : Leb) → uleb128 l ≡ Some r → 1 ≤ r.size
unfolding uleb128
size_pos [] r e = let z : ◌≡◌ {A = ℕ} 0 1 = cc in omega arith
size_pos (b ∷ l) r e = below_size b (uleb128 l) (ltb b 128) r e

-- four and five bytes: the value is below 2^32, and the code's sum is the value
pub four_lt : (a b c d : ℕ) → d < 128 → a % 128 + 128 * (b % 128 + 128 * (c % 128 + 128 * d)) < 2 ^ 32
four_lt a b c d h = omega arith

pub four_eq : (a b c d : ℕ) → d < 128
    → a % 128 + b % 128 * 128 + c % 128 * 16384 + d % 128 * 2097152 ≡ a % 128 + 128 * (b % 128 + 128 * (c % 128 + 128 * d))
four_eq a b c d h = omega arith

pub five_lt : (a b c d e : ℕ) → e < 16 → a % 128 + 128 * (b % 128 + 128 * (c % 128 + 128 * (d % 128 + 128 * e))) < 2 ^ 32
five_lt a b c d e h = omega arith

pub five_eq : (a b c d e : ℕ) → e < 16
    → a % 128 + b % 128 * 128 + c % 128 * 16384 + d % 128 * 2097152 + e * 268435456
    ≡ a % 128 + 128 * (b % 128 + 128 * (c % 128 + 128 * (d % 128 + 128 * e)))
five_eq a b c d e h = omega arith

five_ge : (a b c d e : ℕ) → 16 ≤ e → 2 ^ 32 ≤ a % 128 + 128 * (b % 128 + 128 * (c % 128 + 128 * (d % 128 + 128 * e)))
five_ge a b c d e h = omega arith

-- a fifth byte above 0F: the value is too large, or a sixth byte follows
module _ (at : ℕ) (s : List ℕ) (p a b c d : ℕ) (l : Option Leb) (four : l ≡ below a (below b (below c (below d (uleb128 (drop p s))))))
    {e x : ℕ} (is : e ≡ x) (read : p < length s × ((k : ℕ) → x ≡ get_or s p k)) where
  sixth : (o : Option Leb) → uleb128 (drop (p + 1) s) ≡ o → 128 ≤ e → None ≡ decoded at (limited l)
  sixth None f k =
      refused at l (four ∙ ap (λ x. below a (below b (below c (below d x)))) (more s p is read k ∙ ap (below e) f))
  sixth (Some r) f k =
      long at l _ _ (four ∙ ap (λ x. below a (below b (below c (below d x)))) (more s p is read k ∙ ap (below e) f))
      (omega (arith, size_pos (drop (p + 1) s) r f))

  pub fifth : 16 ≤ e → None ≡ decoded at (limited l)
  fifth k =
      ⊎_elim
      (λ (y : e < 128).
      large at l _ _ (four ∙ ap (λ x. below a (below b (below c (below d x)))) (last s p is read y)) (five_ge a b c d _ k))
      (λ (y : 128 ≤ e). sixth (uleb128 (drop (p + 1) s)) refl y)
      (lt_or_ge e 128)
