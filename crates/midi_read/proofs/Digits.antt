-- Variable-length numbers in words and as they are read: the same.
-- Assumes nothing.
use Rattle.std.specs.Prelude.{None, Some}
use mathlib.Core.Path.{◌≡◌, refl, sym, ap, ◌∙◌}
use mathlib.Core.Bool.{Bool, true, false, cond}
use mathlib.Core.List.{List, [], ◌∷◌, ◌++◌}
use mathlib.Core.Logic.{◌⊎◌, inl, inr}
use Prim.Native.Nat.{ℕ, zero, suc, ◌+◌, ◌*◌, ◌%◌, ◌≤◌, ◌<◌}
use native.Mathlib.Omega.{arith}
use lib.Dec.{ltb}
use lib.ListN.{length, drop, get_or}
use lib.Seq.{drop-drop, drop-append_seam, append_snoc}
use borrow.Author.Tests.{ltb-true, ltb-false}
use Rattle.common.specs.Elements.{◌∈◌}
use Rattle.common.proofs.Elements.{each}
use Rattle.common.proofs.Loops.{lt_or_ge, drop_step, drop_end}
use Rattle.midi_read.specs.declared.track.Number.{Number}
use Rattle.midi_read.specs.Files.{number_from}
use Rattle.midi_read.specs.Tracks.{base_128, IsNumber}
use Rattle.midi_read.proofs.Numbers.{numbered, last, more}

-- ---- bytes from an offset on

head_is : {A : Type 0} (x y : A) (xs ys : List A) → x ∷ xs ≡ y ∷ ys → x ≡ y
head_is x y xs ys e = cc

tail_is : {A : Type 0} (x y : A) (xs ys : List A) → x ∷ xs ≡ y ∷ ys → xs ≡ ys
tail_is x y xs ys e = cc

not_empty : {A P : Type 0} (x : A) (xs : List A) → [] ≡ x ∷ xs → P
not_empty x xs e = let z : ◌≡◌ {A = ℕ} 0 (length (x ∷ xs)) = ap length e in absurd (omega arith)

-- a byte, and the rest
pub front : (file : List ℕ) (at : ℕ) (x : ℕ) (xs : List ℕ) → drop at file ≡ x ∷ xs
    → (at < length file) × (get_or file at 0 ≡ x) × (drop (at + 1) file ≡ xs)
front file at x xs e = step (lt_or_ge at (length file))
  where
    step : (at < length file) ⊎ (length file ≤ at) → (at < length file) × (get_or file at 0 ≡ x) × (drop (at + 1) file ≡ xs)
    step (inl h) =
        let f : get_or file at 0 ∷ drop (at + 1) file ≡ x ∷ xs = sym (drop_step file at 0 h) ∙ e in
        (h, head_is _ _ _ _ f, tail_is _ _ _ _ f)
    step (inr h) = not_empty x xs (sym (drop_end file at h) ∙ e)

-- behind the first of two parts
pub behind : (file : List ℕ) (at : ℕ) (xs ys : List ℕ) → drop at file ≡ xs ++ ys → drop (at + length xs) file ≡ ys
behind file at xs ys e = sym (drop-drop (length xs) at file) ∙ ap (drop (length xs)) e ∙ drop-append_seam xs ys

-- ---- what was read, in words

record Digits (n v : ℕ) (file : List ℕ) (at : ℕ) (r : Number) : Type 0 where
  high : List ℕ
  low : ℕ
  few : length high < n
  above : (b : ℕ) → b ∈ high → 128 ≤ b
  below : low ≤ 127
  rest : drop at file ≡ high ++ (low ∷ drop r.next file)
  value_is : r.value ≡ base_128 v (high ++ (low ∷ []))

digits : (n v : ℕ) (file : List ℕ) (at : ℕ) (r : Number) → number_from n v file at ≡ Some r → Digits n v file at r
unfolding number_from
digits zero v file at r e = let z : ◌≡◌ {A = ℕ} 0 1 = cc in absurd (omega arith)
digits (suc n) v file at r e =
    step (ltb at (length file)) (ltb (get_or file at 0) 128) refl refl e (digits n (v * 128 + get_or file at 0 % 128) file (at + 1) r)
  where
    step : (i l : Bool) → ltb at (length file) ≡ i → ltb (get_or file at 0) 128 ≡ l
        → cond i
        (cond l (Some (numbered (v * 128 + get_or file at 0) (at + 1))) (number_from n (v * 128 + get_or file at 0 % 128) file (at + 1)))
        None
        ≡ Some r
        → (number_from n (v * 128 + get_or file at 0 % 128) file (at + 1) ≡ Some r
        → Digits n (v * 128 + get_or file at 0 % 128) file (at + 1) r)
        → Digits (suc n) v file at r
    step true true i l e ih =
        let is : numbered (v * 128 + get_or file at 0) (at + 1) ≡ r = cc in
        let value_is : v * 128 + get_or file at 0 ≡ r.value = ap (λ (q : Number). q.value) is in
        let next_is : at + 1 ≡ r.next = ap (λ (q : Number). q.next) is in
        record {
          high = [];
          low = get_or file at 0;
          few = omega arith;
          above = λ b m. absurd m;
          below = omega (arith, ltb-true (get_or file at 0) 128 l);
          rest = drop_step file at 0 (ltb-true at (length file) i) ∙ ap (λ k. get_or file at 0 ∷ drop k file) next_is;
          value_is = omega (arith, ltb-true (get_or file at 0) 128 l);
        }
    step true false i l e ih =
        let d = ih e in
        record {
          high = get_or file at 0 ∷ d.high;
          low = d.low;
          few = omega (arith, d.few);
          above = each (λ b. 128 ≤ b) (get_or file at 0) d.high (ltb-false (get_or file at 0) 128 l) d.above;
          below = d.below;
          rest = drop_step file at 0 (ltb-true at (length file) i) ∙ ap (λ (l : List ℕ). get_or file at 0 ∷ l) d.rest;
          value_is = d.value_is;
        }
    step false l i k e ih = let z : ◌≡◌ {A = ℕ} 0 1 = cc in absurd (omega arith)

-- its bytes
pub record NumberAt (file : List ℕ) (at : ℕ) (r : Number) : Type 0 where
  pub bytes : List ℕ
  pub is : IsNumber bytes r.value
  pub rest : drop at file ≡ bytes ++ drop r.next file

pub number_said : (file : List ℕ) (at : ℕ) (r : Number) → number_from 4 0 file at ≡ Some r → NumberAt file at r
number_said file at r e =
    let d = digits 4 0 file at r e in
    record {
      bytes = d.high ++ (d.low ∷ []);
      is = record {
        high = d.high;
        last = d.low;
        bytes_are = refl;
        at_most_4 = omega (arith, d.few);
        above_127 = d.above;
        at_most_127 = d.below;
        value_is = d.value_is;
      };
      rest = d.rest ∙ sym (append_snoc d.high d.low (drop r.next file));
    }

-- ---- what is said in words, read

reads : (high : List ℕ) (n v : ℕ) (file : List ℕ) (at low : ℕ) (rest : List ℕ) → length high < n → ((b : ℕ) → b ∈ high → 128 ≤ b)
    → low ≤ 127 → drop at file ≡ high ++ (low ∷ rest)
    → number_from n v file at ≡ Some (numbered (base_128 v (high ++ (low ∷ []))) (at + length (high ++ (low ∷ []))))
reads [] zero v file at low rest few above below e = absurd (omega arith)
reads [] (suc n) v file at low rest few above below e =
    let (i, is, _) = front file at low rest e in
    let value_is : v * 128 + get_or file at 0 ≡ v * 128 + low % 128 = omega arith in
    last file at n v i (omega arith) ∙ ap (λ x. Some (numbered x (at + 1))) value_is
reads (b ∷ high) zero v file at low rest few above below e = absurd (omega arith)
reads (b ∷ high) (suc n) v file at low rest few above below e =
    let (i, is, later) = front file at b (high ++ (low ∷ rest)) e in
    let big : 128 ≤ b = above b (inl refl) in
    let next_is : at + 1 + length (high ++ (low ∷ [])) ≡ at + length ((b ∷ high) ++ (low ∷ [])) = omega arith in
    let value_is : v * 128 + get_or file at 0 % 128 ≡ v * 128 + b % 128 = ap (λ x. v * 128 + x % 128) is in
    more file at n v i (omega arith)
    ∙ reads high n (v * 128 + get_or file at 0 % 128) file (at + 1) low rest (omega arith) (λ c m. above c (inr m)) below later
    ∙ ap (λ x. Some (numbered (base_128 x (high ++ (low ∷ []))) (at + 1 + length (high ++ (low ∷ []))))) value_is
    ∙ ap (λ k. Some (numbered (base_128 (v * 128 + b % 128) (high ++ (low ∷ []))) k)) next_is

pub number_read : (file : List ℕ) (at : ℕ) (bytes : List ℕ) (value : ℕ) (rest : List ℕ) → IsNumber bytes value
    → drop at file ≡ bytes ++ rest → number_from 4 0 file at ≡ Some (numbered value (at + length bytes))
number_read file at bytes value rest is e =
    let f : drop at file ≡ is.high ++ (is.last ∷ rest) =
    e ∙ ap (λ (l : List ℕ). l ++ rest) is.bytes_are ∙ append_snoc is.high is.last rest in
    reads is.high 4 0 file at is.last rest (omega (arith, is.at_most_4)) is.above_127 is.at_most_127 f
    ∙ ap (λ (l : List ℕ). Some (numbered (base_128 0 l) (at + length l))) (sym is.bytes_are)
    ∙ ap (λ x. Some (numbered x (at + length bytes))) (sym is.value_is)
