-- A number's columns in words: blanks, then its decimal digits; and the words leave no choice.
-- Assumes nothing.
use mathlib.Core.Path.{◌≡◌, refl, sym, ap, ap₂, ◌∙◌}
use mathlib.Core.List.{List, [], ◌∷◌, ◌++◌, append_assoc, append-nil}
use mathlib.Core.Logic.{⊎_elim}
use Prim.Native.Nat.{ℕ, zero, suc, ◌+◌, ◌-◌, ◌/◌, ◌%◌, ◌^◌, ◌≤◌, ◌<◌}
use native.Mathlib.Nat.{pow-suc}
use native.Mathlib.Omega.{arith}
use lib.ListN.{length, replicate, length-append, length-replicate}
use borrow.Author.Tests.{lt-ltb, le-ltb}
use Rattle.common.proofs.Loops.{lt_or_ge}
use Rattle.calls.specs.Listing.{digits, column}
use Rattle.calls.specs.Sheet.{right_justified}
use Rattle.show_columns.proofs.Columns.{column_length}
use Rattle.claim_sheet.specs.Words.{Decimal, one, more, InColumns}

-- ---- what is computed

record Digits (most n : ℕ) (rest : List ℕ) : Type 0 where
  all : List ℕ
  decimal : Decimal n all
  are : digits most n rest ≡ all ++ rest

digits_decimal : (m n : ℕ) (rest : List ℕ) → n < 10 ^ suc m → Digits (suc m) n rest
unfolding digits
digits_decimal zero n rest h =
    let low : n < 10 = omega (arith, pow-suc 10 0) in
    record { all = (48 + n) ∷ []; decimal = one low; are = rw (lt-ltb n 10 low) }
digits_decimal (suc m) n rest h = ⊎_elim
    (λ (low : n < 10). record { all = (48 + n) ∷ []; decimal = one low; are = rw (lt-ltb n 10 low) })
    (λ (high : 10 ≤ n).
    let last = 48 + n % 10 in
    let d = digits_decimal m (n / 10) (last ∷ rest) (omega (arith, pow-suc 10 (suc m))) in
    record {
      all = d.all ++ last ∷ [];
      decimal = more high d.decimal;
      are = rw (le-ltb n 10 high) (d.are ∙ sym (append_assoc d.all (last ∷ []) rest));
    })
    (lt_or_ge n 10)

-- of at most 20 digits
module _ (n : ℕ) (small : n < 10000000000) where
  whole : Digits 20 n []
  whole = digits_decimal 19 n [] (omega arith)

  shown_digits : digits 20 n [] ≡ whole.all
  shown_digits = whole.are ∙ append-nil whole.all

  pub in_width : (width : ℕ) → length (right_justified width n) ≡ width → InColumns width n (right_justified width n)
  unfolding right_justified
  in_width width wide = record {
    blanks = width - length whole.all;
    digits = whole.all;
    decimal = whole.decimal;
    are = rw shown_digits;
    wide = wide;
  }

  pub in_ten : InColumns 10 n (column n)
  unfolding right_justified column
  in_ten = in_width 10 (column_length n small)

-- ---- no choice

decimal_same : {n : ℕ} {a b : List ℕ} → Decimal n a → Decimal n b → a ≡ b
decimal_same (one h) (one k) = refl
decimal_same (one h) (more k e) = absurd (omega arith)
decimal_same (more h d) (one k) = absurd (omega arith)
decimal_same (more {n = n} h d) (more k e) = ap (λ (l : List ℕ). l ++ (48 + n % 10) ∷ []) (decimal_same d e)

module _ {width n : ℕ} {x y : List ℕ} (a : InColumns width n x) (b : InColumns width n y) where
  digits_same : a.digits ≡ b.digits
  digits_same = decimal_same a.decimal b.decimal

  blanks_same : a.blanks ≡ b.blanks
  blanks_same = omega (
    arith,
    a.wide,
    b.wide,
    ap length a.are,
    ap length b.are,
    ap length digits_same,
    length-append (replicate a.blanks 32) a.digits,
    length-append (replicate b.blanks 32) b.digits,
    length-replicate {0} {A = ℕ} a.blanks 32,
    length-replicate {0} {A = ℕ} b.blanks 32,
  )

  pub columns_same : x ≡ y
  columns_same =
      a.are
      ∙ ap₂ (λ (k : ℕ) (ds : List ℕ). replicate k 32 ++ ds) blanks_same digits_same
      ∙ sym b.are
