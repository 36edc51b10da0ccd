-- The characters of a sheet print: those of numbers, steps and blanks are their own bytes, and none is a line feed.
-- Assumes nothing.
use mathlib.Core.Path.{◌≡◌, refl, ap}
use mathlib.Core.Bool.{Bool, true, false, cond}
use mathlib.Core.List.{List, [], ◌∷◌, ◌++◌, map}
use mathlib.Core.Logic.{⊎_elim, inl, inr}
use Prim.Native.Nat.{ℕ, zero, suc, ◌+◌, ◌-◌, ◌/◌, ◌%◌, ◌≤◌, ◌<◌}
use native.Mathlib.Omega.{arith}
use lib.Dec.{ltb, eqb}
use lib.ListN.{length, take, replicate}
use borrow.Author.Tests.{lt-ltb, le-ltb}
use Rattle.common.specs.Elements.{◌∈◌}
use Rattle.common.proofs.Loops.{lt_or_ge}
use Rattle.common.proofs.Membership.{append_gives, map_gives}
use Rattle.utf8.specs.Utf8.{Scalars, octets, text}
use Rattle.utf8.proofs.Text.{octets1, octets2, octets3, octets4}
use Rattle.rules.specs.Rules.{has}
use Rattle.calls.specs.Listing.{digits, column, shown, fitted}
use Rattle.calls.specs.Sheet.{right_justified, marks}

-- ---- characters of one byte that print

abbrev pub Plain : List ℕ → Type 0
Plain [] = Unit {0}
Plain (c ∷ cs) = (32 ≤ c) × (c < 127) × Plain cs

pub plain_append : (a b : List ℕ) → Plain a → Plain b → Plain (a ++ b)
plain_append [] b p q = q
plain_append (c ∷ a) b (l, h, p) q = (l, h, plain_append a b p q)

pub plain_blanks : (n : ℕ) → Plain (replicate n 32)
plain_blanks zero = tt
plain_blanks (suc n) = (omega arith, omega arith, plain_blanks n)

plain_digits : (most n : ℕ) (rest : List ℕ) → Plain rest → Plain (digits most n rest)
unfolding digits
plain_digits zero n rest p = p
plain_digits (suc m) n rest p = ⊎_elim
    (λ (h : n < 10). rw (lt-ltb n 10 h) (omega arith, omega arith, p))
    (λ (h : 10 ≤ n). rw (le-ltb n 10 h) (plain_digits m (n / 10) ((48 + n % 10) ∷ rest) (omega arith, omega arith, p)))
    (lt_or_ge n 10)

pub plain_column : (n : ℕ) → Plain (column n)
unfolding column
plain_column n =
    plain_append (replicate (10 - length (digits 20 n [])) 32) (digits 20 n []) (plain_blanks (10 - length (digits 20 n [])))
    (plain_digits 20 n [] tt)

pub plain_justified : (width n : ℕ) → Plain (right_justified width n)
unfolding right_justified
plain_justified width n =
    plain_append (replicate (width - length (digits 20 n [])) 32) (digits 20 n []) (plain_blanks (width - length (digits 20 n [])))
    (plain_digits 20 n [] tt)

pub plain_marks : (len : ℕ) (hits : List ℕ) (many from : ℕ) → Plain (marks len hits many from)
unfolding marks
plain_marks len hits zero from = tt
plain_marks len hits (suc n) from =
    let (l, h) = printing (has hits from) (ltb from len) in
    (l, h, plain_marks len hits n (suc from))
  where
    printing : (a b : Bool) → (32 ≤ cond a 111 (cond b 46 32)) × (cond a 111 (cond b 46 32) < 127)
    printing true b = (omega arith, omega arith)
    printing false true = (omega arith, omega arith)
    printing false false = (omega arith, omega arith)

pub plain_scalars : (cs : List ℕ) → Plain cs → Scalars cs
plain_scalars [] p = tt
plain_scalars (c ∷ cs) (l, h, p) = (inl (omega arith), plain_scalars cs p)

pub plain_text : (cs : List ℕ) → Plain cs → text cs ≡ cs
plain_text [] p = refl
plain_text (c ∷ cs) (l, h, p) = rw (octets1 c (omega arith)) (ap (λ (r : List ℕ). c ∷ r) (plain_text cs p))

-- ---- no line feed

abbrev pub Unbroken : List ℕ → Type 0
Unbroken cs = 10 ∈ cs → ⊥

pub unbroken_plain : (cs : List ℕ) → Plain cs → Unbroken cs
unbroken_plain [] p m = m
unbroken_plain (c ∷ cs) (l, h, p) (inl e) = omega arith
unbroken_plain (c ∷ cs) (l, h, p) (inr m) = unbroken_plain cs p m

pub unbroken_append : (a b : List ℕ) → Unbroken a → Unbroken b → Unbroken (a ++ b)
unbroken_append a b p q m = ⊎_elim p q (append_gives a b 10 m)

shown_no_feed : (c : ℕ) → 10 ≡ shown c → ⊥
shown_no_feed c = ⊎_elim
    (λ (h : c < 32) e. let z : ◌≡◌ {A = ℕ} 10 63 = rw (lt-ltb c 32 h) at e in omega arith)
    (λ (h : 32 ≤ c) e. other h (eqb c 127) (rw (le-ltb c 32 h) at e))
    (lt_or_ge c 32)
  where
    other : 32 ≤ c → (b : Bool) → 10 ≡ cond b 63 c → ⊥
    other h true e = omega arith
    other h false e = omega arith

pub unbroken_fitted : (width : ℕ) (cs : List ℕ) → Unbroken (fitted width cs)
unbroken_fitted width cs =
    unbroken_append (map shown (take width cs)) (replicate (width - length cs) 32)
    (λ m. let (c, k, e) = map_gives shown (take width cs) 10 m in shown_no_feed c e)
    (unbroken_plain (replicate (width - length cs) 32) (plain_blanks (width - length cs)))

-- in bytes as in characters: of more than one byte, each is above 127
octets_feed : (c : ℕ) → 10 ∈ octets c → 10 ≡ c
octets_feed c m = ⊎_elim
    (λ (h : c < 0x80). one (rw (octets1 c (omega arith)) at m))
    (λ (h : 0x80 ≤ c).
    ⊎_elim
    (λ (k : c < 0x800). two (c / 64) (c % 64) (rw (octets2 c h (omega arith)) at m))
    (λ (k : 0x800 ≤ c).
    ⊎_elim
    (λ (j : c < 0x10000). three (c / 4096) (c / 64 % 64) (c % 64) (rw (octets3 c k (omega arith)) at m))
    (λ (j : 0x10000 ≤ c). four (c / 262144) (c / 4096 % 64) (c / 64 % 64) (c % 64) (rw (octets4 c j) at m))
    (lt_or_ge c 0x10000))
    (lt_or_ge c 0x800))
    (lt_or_ge c 0x80)
  where
    one : 10 ∈ (c ∷ []) → 10 ≡ c
    one (inl e) = e
    one (inr e) = absurd e

    two : (a b : ℕ) → 10 ∈ ((0xC0 + a) ∷ (0x80 + b) ∷ []) → 10 ≡ c
    two a b (inl e) = absurd (omega arith)
    two a b (inr (inl e)) = absurd (omega arith)
    two a b (inr (inr e)) = absurd e

    three : (a b d : ℕ) → 10 ∈ ((0xE0 + a) ∷ (0x80 + b) ∷ (0x80 + d) ∷ []) → 10 ≡ c
    three a b d (inl e) = absurd (omega arith)
    three a b d (inr (inl e)) = absurd (omega arith)
    three a b d (inr (inr (inl e))) = absurd (omega arith)
    three a b d (inr (inr (inr e))) = absurd e

    four : (a b d f : ℕ) → 10 ∈ ((0xF0 + a) ∷ (0x80 + b) ∷ (0x80 + d) ∷ (0x80 + f) ∷ []) → 10 ≡ c
    four a b d f (inl e) = absurd (omega arith)
    four a b d f (inr (inl e)) = absurd (omega arith)
    four a b d f (inr (inr (inl e))) = absurd (omega arith)
    four a b d f (inr (inr (inr (inl e)))) = absurd (omega arith)
    four a b d f (inr (inr (inr (inr e)))) = absurd e

pub unbroken_text : (cs : List ℕ) → Unbroken cs → Unbroken (text cs)
unbroken_text [] u m = m
unbroken_text (c ∷ cs) u m =
    unbroken_append (octets c) (text cs) (λ k. u (inl (octets_feed c k))) (unbroken_text cs (λ k. u (inr k))) m
