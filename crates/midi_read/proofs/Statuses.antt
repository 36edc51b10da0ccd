-- How many data bytes a status has and whether it is a note-on, in words and as the code tests it: the same.
-- Assumes nothing.
use mathlib.Core.Path.{◌≡◌, refl, ◌∙◌}
use mathlib.Core.Bool.{Bool, true, false, ◌&&◌}
use mathlib.Core.Logic.{◌⊎◌, inl, inr}
use Prim.Native.Nat.{ℕ, ◌/◌, ◌≤◌, ◌<◌}
use native.Mathlib.Omega.{arith}
use lib.Dec.{eqb}
use borrow.Author.Tests.{eqb-true, eqb-false, le-leb, lt-leb, eq-eqb, ne_eqb}
use Rattle.common.proofs.Loops.{lt_or_ge}
use Rattle.common.proofs.Membership.{or_cases, neither}
use Rattle.midi_read.specs.Files.{one_data_byte, is_hit}
use Rattle.midi_read.specs.Tracks.{note_on}

-- ---- how many data bytes

either : (s : ℕ) → ((s / 16 ≡ 12) ⊎ (s / 16 ≡ 13)) → (0xC0 ≤ s) × (s ≤ 0xDF)
either s (inl e) = (omega arith, omega arith)
either s (inr e) = (omega arith, omega arith)

pub one_byte : (s : ℕ) → one_data_byte s ≡ true → (0xC0 ≤ s) × (s ≤ 0xDF)
one_byte s t = either s (cases (or_cases (eqb (s / 16) 12) (eqb (s / 16) 13) t))
  where
    cases : (eqb (s / 16) 12 ≡ true) ⊎ (eqb (s / 16) 13 ≡ true) → (s / 16 ≡ 12) ⊎ (s / 16 ≡ 13)
    cases (inl e) = inl (eqb-true _ _ e)
    cases (inr e) = inr (eqb-true _ _ e)

pub two_bytes : (s : ℕ) → one_data_byte s ≡ false → (s < 0xC0) ⊎ (0xDF < s)
two_bytes s t = cases (lt_or_ge s 0xC0) (lt_or_ge 0xDF s) (lt_or_ge s 0xD0)
  where
    not : (eqb (s / 16) 12 ≡ false) × (eqb (s / 16) 13 ≡ false)
    not = neither _ _ t

    cases : (s < 0xC0) ⊎ (0xC0 ≤ s) → (0xDF < s) ⊎ (s ≤ 0xDF) → (s < 0xD0) ⊎ (0xD0 ≤ s) → (s < 0xC0) ⊎ (0xDF < s)
    cases (inl a) b c = inl a
    cases (inr a) (inl b) c = inr b
    cases (inr a) (inr b) (inl c) = absurd (eqb-false (s / 16) 12 not.0 (omega arith))
    cases (inr a) (inr b) (inr c) = absurd (eqb-false (s / 16) 13 not.1 (omega arith))

pub one_of : (s : ℕ) → 0xC0 ≤ s → s ≤ 0xDF → one_data_byte s ≡ true
one_of s a b = cases (lt_or_ge s 0xD0)
  where
    cases : (s < 0xD0) ⊎ (0xD0 ≤ s) → one_data_byte s ≡ true
    cases (inl c) = let e : s / 16 ≡ 12 = omega arith in rw (eq-eqb (s / 16) 12 e)
    cases (inr c) =
        let k : s / 16 ≡ 12 → ⊥ = λ e. absurd (omega arith) in
        let e : s / 16 ≡ 13 = omega arith in
        rw (ne_eqb (s / 16) 12 k, eq-eqb (s / 16) 13 e)

pub two_of : (s : ℕ) → (s < 0xC0) ⊎ (0xDF < s) → one_data_byte s ≡ false
two_of s (inl a) =
    let k : s / 16 ≡ 12 → ⊥ = λ e. absurd (omega arith) in
    let l : s / 16 ≡ 13 → ⊥ = λ e. absurd (omega arith) in
    rw (ne_eqb (s / 16) 12 k, ne_eqb (s / 16) 13 l)
two_of s (inr a) =
    let k : s / 16 ≡ 12 → ⊥ = λ e. absurd (omega arith) in
    let l : s / 16 ≡ 13 → ⊥ = λ e. absurd (omega arith) in
    rw (ne_eqb (s / 16) 12 k, ne_eqb (s / 16) 13 l)

-- ---- whether it is a note-on

pub note_on_is : (s v : ℕ) → note_on s v ≡ is_hit s v
note_on_is s v = cases (lt_or_ge s 0x90) (lt_or_ge 0x9F s)
  where
    cases : (s < 0x90) ⊎ (0x90 ≤ s) → (0x9F < s) ⊎ (s ≤ 0x9F) → note_on s v ≡ is_hit s v
    cases (inl a) b = let k : s / 16 ≡ 9 → ⊥ = λ e. absurd (omega arith) in rw (lt-leb 0x90 s a, ne_eqb (s / 16) 9 k)
    cases (inr a) (inl b) =
        let k : s / 16 ≡ 9 → ⊥ = λ e. absurd (omega arith) in
        rw (le-leb 0x90 s a, lt-leb s 0x9F b, ne_eqb (s / 16) 9 k)
    cases (inr a) (inr b) = let e : s / 16 ≡ 9 = omega arith in rw (le-leb 0x90 s a, le-leb s 0x9F b, eq-eqb (s / 16) 9 e)

never : (a : Bool) → a && false ≡ false
never true = refl
never false = refl

pub silent_one : (s : ℕ) → note_on s 0 ≡ false
silent_one s = note_on_is s 0 ∙ never (eqb (s / 16) 9)
