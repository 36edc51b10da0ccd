-- Variable-length numbers a byte at a time, at a place of a file; how large they are.
-- Assumes nothing.
use Rattle.std.specs.Prelude.{None, Some}
use mathlib.Core.Path.{◌≡◌, refl, sym, ap, subst, ◌∙◌}
use mathlib.Core.Bool.{Bool, true, false, cond}
use mathlib.Core.List.{List}
use Prim.Native.Nat.{ℕ, zero, suc, ◌+◌, ◌-◌, ◌*◌, ◌%◌, ◌≤◌, ◌<◌}
use native.Mathlib.Omega.{arith}
use lib.Dec.{ltb}
use lib.ListN.{length, get_or}
use borrow.Author.Tests.{lt-ltb, le-ltb, ltb-true}
use Rattle.midi_read.specs.declared.track.Number.{Number}
use Rattle.midi_read.specs.Files.{number_from}

abbrev pub numbered : ℕ → ℕ → Number
numbered v p = record { value = v; next = p }

module _ (file : List ℕ) (at n v : ℕ) where
  pub out : length file ≤ at → number_from (suc n) v file at ≡ None
  unfolding number_from
  out h = rw (le-ltb at (length file) h)

  pub last : at < length file → get_or file at 0 < 128 → number_from (suc n) v file at ≡ Some (numbered (v * 128 + get_or file at 0) (at + 1))
  unfolding number_from
  last h k = rw (lt-ltb at (length file) h, lt-ltb (get_or file at 0) 128 k)

  pub more : at < length file → 128 ≤ get_or file at 0
      → number_from (suc n) v file at ≡ number_from n (v * 128 + get_or file at 0 % 128) file (at + 1)
  unfolding number_from
  more h k = rw (lt-ltb at (length file) h, le-ltb (get_or file at 0) 128 k)

-- a turn of the loop over at most four bytes
module _ (file : List ℕ) (from i v : ℕ) (so : number_from 4 0 file from ≡ number_from (4 - i) v file (from + i)) (few : i < 4) where
  turn : number_from 4 0 file from ≡ number_from (suc (4 - (i + 1))) v file (from + i)
  turn = let one : 4 - i ≡ suc (4 - (i + 1)) = omega arith in so ∙ ap (λ k. number_from k v file (from + i)) one

  pub turn_out : length file ≤ from + i → number_from 4 0 file from ≡ None
  turn_out h = turn ∙ out file (from + i) (4 - (i + 1)) v h

  module _ (h : from + i < length file) {b : ℕ} (is : b ≡ get_or file (from + i) 0) where
    pub turn_last : b < 128 → number_from 4 0 file from ≡ Some (numbered (v * 128 + b % 128) (from + i + 1))
    turn_last k =
        let same : v * 128 + get_or file (from + i) 0 ≡ v * 128 + b % 128 = omega arith in
        turn ∙ last file (from + i) (4 - (i + 1)) v h (omega arith) ∙ ap (λ x. Some (numbered x (from + i + 1))) same

    pub turn_more : 128 ≤ b → number_from 4 0 file from ≡ number_from (4 - (i + 1)) (v * 128 + b % 128) file (from + (i + 1))
    turn_more k =
        let place : from + i + 1 ≡ from + (i + 1) = omega arith in
        turn ∙ more file (from + i) (4 - (i + 1)) v h (omega arith)
        ∙ ap (λ x. number_from (4 - (i + 1)) (v * 128 + x % 128) file (from + i + 1)) (sym is)
        ∙ ap (number_from (4 - (i + 1)) (v * 128 + b % 128) file) place

-- ---- the size of what is found

-- the greatest number of n bytes below what was read
abbrev pub greatest : (n v : ℕ) → ℕ
greatest zero v = v
greatest (suc n) v = greatest n (v * 128 + 127)

pub record Sized (file : List ℕ) (at v n : ℕ) (r : Number) : Type 0 where
  pub after : at < r.next
  pub inside : r.next ≤ length file
  pub most : r.value ≤ greatest n v

rises : (n v w : ℕ) → v ≤ w → greatest n v ≤ greatest n w
rises zero v w h = h
rises (suc n) v w h = rises n (v * 128 + 127) (w * 128 + 127) (omega arith)

itself : (n v : ℕ) → v ≤ greatest n v
itself zero v = omega arith
itself (suc n) v = omega (arith, itself n (v * 128 + 127))

pub sized : (n v : ℕ) (file : List ℕ) (at : ℕ) (r : Number) → number_from n v file at ≡ Some r → Sized file at v n r
unfolding number_from
sized zero v file at r e = let z : ◌≡◌ {A = ℕ} 0 1 = cc in absurd (omega arith)
sized (suc n) v file at r e =
    step (ltb at (length file)) (ltb (get_or file at 0) 128) refl refl e (sized n (v * 128 + get_or file at 0 % 128) file (at + 1) r)
  where
    step : (i l : Bool) → ltb at (length file) ≡ i → ltb (get_or file at 0) 128 ≡ l
        → let w = v * 128 + get_or file at 0 % 128 in
        cond i (cond l (Some (numbered (v * 128 + get_or file at 0) (at + 1))) (number_from n w file (at + 1))) None ≡ Some r
        → (number_from n w file (at + 1) ≡ Some r → Sized file (at + 1) w n r)
        → Sized file at v (suc n) r
    step true true i l e ih =
        let is : numbered (v * 128 + get_or file at 0) (at + 1) ≡ r = cc in
        let value_is : v * 128 + get_or file at 0 ≡ r.value = ap (λ (q : Number). q.value) is in
        let next_is : at + 1 ≡ r.next = ap (λ (q : Number). q.next) is in
        record {
          after = omega arith;
          inside = omega (arith, ltb-true at (length file) i);
          most = omega (arith, ltb-true (get_or file at 0) 128 l, itself n (v * 128 + 127));
        }
    step true false i l e ih =
        let s = ih e in
        record {
          after = omega (arith, s.after);
          inside = s.inside;
          most = omega (arith, s.most, rises n (v * 128 + get_or file at 0 % 128) (v * 128 + 127) (omega arith));
        }
    step false l i k e ih = let z : ◌≡◌ {A = ℕ} 0 1 = cc in absurd (omega arith)

-- the loop's sum: what is still to be read keeps it small
pub small_more : (i v x : ℕ) → i < 4 → greatest (4 - i) v ≤ 268435455 → x ≤ 127
    → (v * 128 + x ≤ 268435455) × (greatest (4 - (i + 1)) (v * 128 + x) ≤ 268435455)
small_more i v x few small below =
    let one : 4 - i ≡ suc (4 - (i + 1)) = omega arith in
    let bound : greatest (4 - (i + 1)) (v * 128 + 127) ≤ 268435455 = subst (λ k. greatest k v ≤ 268435455) one small in
    let next : greatest (4 - (i + 1)) (v * 128 + x) ≤ greatest (4 - (i + 1)) (v * 128 + 127) =
    rises (4 - (i + 1)) (v * 128 + x) (v * 128 + 127) (omega arith) in
    (omega (arith, itself (4 - (i + 1)) (v * 128 + x)), omega arith)
