-- A number's columns from the right, as the code stores them.
-- Assumes nothing.
use mathlib.Core.Path.{◌≡◌, refl, sym, ap, ◌∙◌}
use mathlib.Core.List.{List, [], ◌∷◌, ◌++◌, append_assoc, append-nil}
use mathlib.Core.Logic.{⊎_elim}
use Prim.Native.Nat.{ℕ, zero, suc, ◌+◌, ◌-◌, ◌/◌, ◌%◌, ◌^◌, ◌≤◌, ◌<◌}
use native.Mathlib.Nat.{pow-suc, sub-zero}
use native.Mathlib.Numerals.{add-one}
use native.Mathlib.Omega.{arith}
use lib.ListN.{length, set, replicate, length-append, length-replicate}
use lib.Seq.{sets}
use borrow.Author.Tests.{lt-ltb, le-ltb, ne_eqb}
use Rattle.common.specs.Stores.{Stored}
use Rattle.common.proofs.Loops.{lt_or_ge}
use Rattle.calls.specs.Listing.{digits, column}
use Rattle.calls.specs.Sheet.{right_justified}
use Rattle.show_columns.specs.Steps.{digit_of}
use Rattle.common.proofs.Sets.{sets_last}
use Rattle.common.proofs.Stores.{stored_append}

-- ---- a number

-- the columns in front of the last digit, from what is left of the number
unfoldable pub front : (columns left : ℕ) → List ℕ
front zero left = []
front (suc i) left = front i (left / 10) ++ digit_of left ∷ []

front_length : (i left : ℕ) → length (front i left) ≡ i
unfolding front
front_length zero left = refl
front_length (suc i) left = let ih = front_length i (left / 10) in omega (arith, length-append (front i (left / 10)) (digit_of left ∷ []))

-- nothing left: spaces
spaces : (i s : ℕ) → replicate i s ++ s ∷ [] ≡ s ∷ replicate i s
spaces zero s = refl
spaces (suc i) s = ap (λ l. s ∷ l) (spaces i s)

front_none : (i : ℕ) → front i 0 ≡ replicate i 32
unfolding front
front_none zero = refl
front_none (suc i) = rw (front_none i) (spaces i 32)

digits_rest : (m n : ℕ) (rest : List ℕ) → digits m n rest ≡ digits m n [] ++ rest
unfolding digits
digits_rest zero n rest = refl
digits_rest (suc m) n rest = ⊎_elim
    (λ (h : n < 10). rw (lt-ltb n 10 h))
    (λ (h : 10 ≤ n).
    rw (le-ltb n 10 h)
    (digits_rest m (n / 10) ((48 + n % 10) ∷ rest)
    ∙ sym (append_assoc (digits m (n / 10) []) ((48 + n % 10) ∷ []) rest)
    ∙ ap (λ l. l ++ rest) (sym (digits_rest m (n / 10) ((48 + n % 10) ∷ [])))))
    (lt_or_ge n 10)

digits_low : (m n : ℕ) → n < 10 → digits (suc m) n [] ≡ (48 + n % 10) ∷ []
unfolding digits
digits_low m n h = let last : n % 10 ≡ n = omega arith in rw (lt-ltb n 10 h, last)

digits_high : (m n : ℕ) → 10 ≤ n → digits (suc m) n [] ≡ digits m (n / 10) [] ++ (48 + n % 10) ∷ []
unfolding digits
digits_high m n h = rw (le-ltb n 10 h) (digits_rest m (n / 10) ((48 + n % 10) ∷ []))

-- right-justified
abbrev justified : ℕ → List ℕ → List ℕ
justified w ds = replicate (w - length ds) 32 ++ ds

justified_last : (w : ℕ) (ds : List ℕ) (d : ℕ) → justified (suc w) (ds ++ d ∷ []) ≡ justified w ds ++ d ∷ []
justified_last w ds d =
    let e : suc w - length (ds ++ d ∷ []) ≡ w - length ds = omega (arith, length-append ds (d ∷ [])) in
    rw e (sym (append_assoc (replicate (w - length ds) 32) ds (d ∷ [])))

justified_none : (w : ℕ) → justified w [] ≡ front w 0
justified_none w = rw (append-nil, sub-zero) (sym (front_none w))

column_step : (w m n : ℕ) → (10 ≤ n → justified w (digits m (n / 10) []) ≡ front w (n / 10))
    → justified (suc w) (digits (suc m) n []) ≡ front w (n / 10) ++ (48 + n % 10) ∷ []
column_step w m n above = ⊎_elim
    (λ (low : n < 10).
    let none : n / 10 ≡ 0 = omega arith in
    ap (justified (suc w)) (digits_low m n low) ∙ justified_last w [] (48 + n % 10)
    ∙ ap (λ l. l ++ (48 + n % 10) ∷ []) (justified_none w ∙ ap (front w) (sym none)))
    (λ (high : 10 ≤ n).
    ap (justified (suc w)) (digits_high m n high) ∙ justified_last w (digits m (n / 10) []) (48 + n % 10)
    ∙ ap (λ l. l ++ (48 + n % 10) ∷ []) (above high))
    (lt_or_ge n 10)

-- in w + 1 columns, by as many digits or more
column_front : (w m n : ℕ) → w ≤ m → n < 10 ^ suc w → justified (suc w) (digits (suc m) n []) ≡ front w (n / 10) ++ (48 + n % 10) ∷ []
unfolding front
column_front zero m n h b = column_step 0 m n (λ high. absurd (omega (arith, pow-suc 10 0)))
column_front (suc w) zero n h b = absurd (omega arith)
column_front (suc w) (suc m) n h b = column_step (suc w) (suc m) n (λ high.
    let some : n / 10 ≡ 0 → ⊥ = λ e. omega arith in
    rw (ne_eqb (n / 10) 0 some) (column_front w m (n / 10) (omega arith) (omega (arith, pow-suc 10 (suc w)))))

column_is : (n : ℕ) → n < 10000000000 → column n ≡ front 9 (n / 10) ++ (48 + n % 10) ∷ []
unfolding column
column_is n h = column_front 9 19 n (omega arith) h

pub column_length : (n : ℕ) → n < 10000000000 → length (column n) ≡ 10
column_length n h =
    ap length (column_is n h) ∙ length-append (front 9 (n / 10)) ((48 + n % 10) ∷ []) ∙ ap (λ k. k + 1) (front_length 9 (n / 10))

pub past_number : (n : ℕ) {at next : ℕ} {l o : List ℕ} → Stored (column n) at l next o → n < 10000000000 → next ≡ at + 10
past_number n s h = omega (arith, s.past, column_length n h)

-- of whatever number
digits_most : (m n : ℕ) (rest : List ℕ) → length (digits m n rest) ≤ m + length rest
unfolding digits
digits_most zero n rest = omega arith
digits_most (suc m) n rest = ⊎_elim
    (λ (h : n < 10). rw (lt-ltb n 10 h) (omega arith))
    (λ (h : 10 ≤ n). rw (le-ltb n 10 h) (omega (arith, digits_most m (n / 10) ((48 + n % 10) ∷ rest))))
    (lt_or_ge n 10)

pub column_most : (n : ℕ) → length (column n) ≤ 20
unfolding column
column_most n =
    let ds = digits 20 n [] in
    let blank : List ℕ = replicate (10 - length ds) 32 in
    omega (arith, digits_most 20 n [], length-append blank ds, length-replicate {0} {A = ℕ} (10 - length ds) 32)

-- the loop: each digit is stored in front of the last one
pub front_next : (i left : ℕ) → 0 < i → front i left ≡ front (i - 1) (left / 10) ++ digit_of left ∷ []
unfolding front
front_next zero left h = absurd (omega arith)
front_next (suc i) left h = let e : suc i - 1 ≡ i = omega arith in rw e

pub front_stored : (l : List ℕ) (at i left d : ℕ) → sets (set l (at + i) d) at (front i left) ≡ sets l at (front i left ++ d ∷ [])
front_stored l at i left d =
    ap (λ (k : ℕ). sets (set l (at + k) d) at (front i left)) (sym (front_length i left)) ∙ sets_last l at (front i left) d

pub front_end : (i left : ℕ) → i ≤ 0 → front i left ≡ []
unfolding front
front_end zero left h = refl
front_end (suc i) left h = absurd (omega arith)

pub column_stored : (l : List ℕ) (at n : ℕ) → n < 10000000000
    → sets (set l (at + 9) (48 + n % 10)) at (front 9 (n / 10)) ≡ sets l at (column n)
column_stored l at n h = front_stored l at 9 (n / 10) (48 + n % 10) ∙ ap (sets l at) (sym (column_is n h))

-- ---- a number in four columns

hits_is : (n : ℕ) → n < 10000 → right_justified 4 n ≡ front 3 (n / 10) ++ (48 + n % 10) ∷ []
unfolding right_justified
hits_is n h = column_front 3 19 n (omega arith) h

pub hits_length : (n : ℕ) → n < 10000 → length (right_justified 4 n) ≡ 4
hits_length n h =
    ap length (hits_is n h) ∙ length-append (front 3 (n / 10)) ((48 + n % 10) ∷ []) ∙ ap (λ k. k + 1) (front_length 3 (n / 10))

pub past_hits : (n : ℕ) {at next : ℕ} {l o : List ℕ} → Stored (right_justified 4 n) at l next o → n < 10000 → next ≡ at + 4
past_hits n s h = omega (arith, s.past, hits_length n h)

-- of two digits: two spaces, the tens or a space, the units
hits_parts : (n : ℕ) → n < 100 → right_justified 4 n ≡ replicate 2 32 ++ digit_of (n / 10) ∷ (48 + n % 10) ∷ []
unfolding front
hits_parts n h = let none : n / 10 / 10 ≡ 0 = omega arith in hits_is n (omega arith) ∙ rw none

two_stored : (l : List ℕ) (at a b : ℕ) → Stored (a ∷ b ∷ []) at l (at + 2) (set (set l at a) (at + 1) b)
two_stored l at a b = record { past = refl; left = rw (add-one at) }

pub hits_stored : (n : ℕ) {at next t : ℕ} {l o : List ℕ} → n < 100 → Stored (replicate 2 32) at l next o → t ≡ digit_of (n / 10)
    → Stored (right_justified 4 n) at l (next + 2) (set (set o next t) (next + 1) (48 + n % 10))
hits_stored n {next = next} {t} {o = o} h s e = rw (hits_parts n h, ← e) (stored_append s (two_stored o next t (48 + n % 10)))
