-- The names of the notes: text in UTF-8, different for different notes, rising with them.
-- Assumes nothing.
use mathlib.Core.Path.{◌≡◌, refl, sym, ap, ◌∙◌}
use mathlib.Core.List.{List, [], ◌∷◌}
use mathlib.Core.Logic.{◌⊎◌, inl, inr}
use Prim.Native.Nat.{ℕ, ◌+◌, ◌*◌, ◌/◌, ◌%◌, ◌≤◌, ◌<◌}
use native.Mathlib.Omega.{arith}
use lib.ListN.{get_or}
use borrow.Author.Tests.{lt-ltb}
use Rattle.common.proofs.Loops.{lt_or_ge}
use Rattle.utf8.specs.Utf8.{IsUtf8, octets}
use Rattle.segment.specs.Names.{Before}
use Rattle.midi_bars.specs.Bars.{name_of}

one_octet : (c : ℕ) → c < 128 → octets c ≡ c ∷ []
unfolding octets
one_octet c h = rw (lt-ltb c 128 h)

four : (a b c d : ℕ) → a < 128 → b < 128 → c < 128 → d < 128 → IsUtf8 (a ∷ b ∷ c ∷ d ∷ [])
four a b c d ha hb hc hd = record {
  values = a ∷ b ∷ c ∷ d ∷ [];
  scalars = (inl (omega arith), (inl (omega arith), (inl (omega arith), (inl (omega arith), tt))));
  encoded = rw (one_octet a ha, one_octet b hb, one_octet c hc, one_octet d hd);
}

pub name_text : (n : ℕ) → n < 128 → IsUtf8 (name_of n)
name_text n h = four 110 (48 + n / 100) (48 + n / 10 % 10) (48 + n % 10) (omega arith) (omega arith) (omega arith) (omega arith)

digits : (n : ℕ) → n ≡ n / 100 * 100 + n / 10 % 10 * 10 + n % 10
digits n = omega arith

same_digits : (a b c x y z : ℕ) → 48 + a ≡ 48 + x → 48 + b ≡ 48 + y → 48 + c ≡ 48 + z → a * 100 + b * 10 + c ≡ x * 100 + y * 10 + z
same_digits a b c x y z e f g = omega arith

pub name_one : (m n : ℕ) → name_of m ≡ name_of n → m ≡ n
name_one m n e =
    let byte : (i : ℕ) → get_or (name_of m) i 0 ≡ get_or (name_of n) i 0 = λ i. ap (λ (l : List ℕ). get_or l i 0) e in
    digits m
    ∙ same_digits (m / 100) (m / 10 % 10) (m % 10) (n / 100) (n / 10 % 10) (n % 10) (byte 1) (byte 2) (byte 3)
    ∙ sym (digits n)

hundreds : (p a b c x y z : ℕ) → a < x → Before (p ∷ a ∷ b ∷ c ∷ []) (p ∷ x ∷ y ∷ z ∷ [])
hundreds p a b c x y z h = inr (record {
  common = p ∷ [];
  x = a;
  y = x;
  xs = b ∷ c ∷ [];
  ys = y ∷ z ∷ [];
  of_a = refl;
  of_b = refl;
  less = h;
})

tens : (p a b c x y z : ℕ) → a ≡ x → b < y → Before (p ∷ a ∷ b ∷ c ∷ []) (p ∷ x ∷ y ∷ z ∷ [])
tens p a b c x y z e h = inr (record {
  common = p ∷ a ∷ [];
  x = b;
  y = y;
  xs = c ∷ [];
  ys = z ∷ [];
  of_a = refl;
  of_b = rw e;
  less = h;
})

ones : (p a b c x y z : ℕ) → a ≡ x → b ≡ y → c < z → Before (p ∷ a ∷ b ∷ c ∷ []) (p ∷ x ∷ y ∷ z ∷ [])
ones p a b c x y z e f h = inr (record {
  common = p ∷ a ∷ b ∷ [];
  x = c;
  y = z;
  xs = [];
  ys = [];
  of_a = refl;
  of_b = rw (e, f);
  less = h;
})

pub name_before : (m n : ℕ) → m < n → Before (name_of m) (name_of n)
name_before m n h = by_hundreds (lt_or_ge (m / 100) (n / 100)) (lt_or_ge (m / 10 % 10) (n / 10 % 10))
  where
    by_hundreds : (m / 100 < n / 100) ⊎ (n / 100 ≤ m / 100) → (m / 10 % 10 < n / 10 % 10) ⊎ (n / 10 % 10 ≤ m / 10 % 10)
        → Before (name_of m) (name_of n)
    by_hundreds (inl u) t = hundreds 110 _ _ _ _ _ _ (omega arith)
    by_hundreds (inr u) (inl t) = tens 110 _ _ _ _ _ _ (omega arith) (omega arith)
    by_hundreds (inr u) (inr t) = ones 110 _ _ _ _ _ _ (omega arith) (omega arith) (omega arith)
