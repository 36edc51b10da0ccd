-- The test of the grammar passes exactly on the texts: each row of the grammar is the octets of an interval of scalar values.
-- Assumes nothing.
use mathlib.Core.Path.{◌≡◌, refl, sym, ap, ◌∙◌}
use mathlib.Core.List.{List, [], ◌∷◌, ◌++◌}
use mathlib.Core.Bool.{Bool, true, false, cond}
use mathlib.Core.Logic.{⊎_elim, ◌⊎◌, inl, inr}
use Prim.Native.Nat.{ℕ, zero, suc, ◌+◌, ◌-◌, ◌*◌, ◌/◌, ◌%◌, min, ◌≤◌, ◌<◌}
use native.Mathlib.Omega.{arith}
use lib.Dec.{leb}
use lib.ListN.{length, drop, get_or}
use lib.Seq.{drop_at, drop-append_seam}
use borrow.Author.Tests.{lt-ltb, le-ltb, le-leb, leb-true}
use Rattle.utf8.specs.Utf8.{Scalar, Scalars, octets, text, IsUtf8, Range, in_range, range, utf8_tail, sequences, starts, first_of}
use Rattle.utf8.specs.Utf8.{char_length, goes_on, characters, utf8}
use Rattle.utf8.specs.Claims as claims
use Rattle.common.proofs.Loops.{lt_or_ge, and_left, and_right, true_false}
use Rattle.utf8.proofs.Ranges.{next}

-- The octets of a value, by its size
pub octets1 : (v : ℕ) → v ≤ 0x7F → octets v ≡ v ∷ []
unfolding octets
octets1 v h = rw (lt-ltb v 0x80 (omega arith))

pub octets2 : (v : ℕ) → 0x80 ≤ v → v ≤ 0x7FF → octets v ≡ (0xC0 + v / 64) ∷ (0x80 + v % 64) ∷ []
unfolding octets
octets2 v h k = rw (le-ltb v 0x80 h, lt-ltb v 0x800 (omega arith))

pub octets3 : (v : ℕ) → 0x800 ≤ v → v ≤ 0xFFFF → octets v ≡ (0xE0 + v / 4096) ∷ (0x80 + v / 64 % 64) ∷ (0x80 + v % 64) ∷ []
unfolding octets
octets3 v h k = rw (le-ltb v 0x80 (omega arith), le-ltb v 0x800 h, lt-ltb v 0x10000 (omega arith))

pub octets4 : (v : ℕ) → 0x10000 ≤ v
    → octets v ≡ (0xF0 + v / 262144) ∷ (0x80 + v / 4096 % 64) ∷ (0x80 + v / 64 % 64) ∷ (0x80 + v % 64) ∷ []
unfolding octets
octets4 v h = rw (le-ltb v 0x80 (omega arith), le-ltb v 0x800 (omega arith), le-ltb v 0x10000 h)

-- An octet of each range stands at the front of a list
abbrev Begins : List Range → List ℕ → Type 0
Begins [] l = Unit {0}
Begins (r ∷ rs) [] = ⊥
Begins (r ∷ rs) (b ∷ l) = (r.low ≤ b) × (b ≤ r.high) × Begins rs l

begins : (rs : List Range) (l : List ℕ) → starts rs l ≡ true → Begins rs l
unfolding starts
begins [] l e = tt
begins (r ∷ rs) [] e = true_false (sym e)
begins (r ∷ rs) (b ∷ l) e =
    let i = and_left (in_range r b) (starts rs l) e in (
      leb-true r.low b (and_left (leb r.low b) (leb b r.high) i),
      leb-true b r.high (and_right (leb r.low b) (leb b r.high) i),
      begins rs l (and_right (in_range r b) (starts rs l) e),
    )

passes : (rs : List Range) (l : List ℕ) → Begins rs l → starts rs l ≡ true
unfolding starts
passes [] l m = refl
passes (r ∷ rs) [] m = absurd m
passes (r ∷ rs) (b ∷ l) (h, k, m) = rw (le-leb r.low b h, le-leb b r.high k) (passes rs l m)

-- A list that starts with the n octets of a scalar value
pub record Char (l : List ℕ) (n : ℕ) : Type 0 where
  pub value : ℕ
  pub rest : List ℕ
  pub scalar : Scalar value
  pub size : length (octets value) ≡ n
  pub encoded : l ≡ octets value ++ rest

char : (bs : List ℕ) (v : ℕ) (rest : List ℕ) → Scalar v → octets v ≡ bs → Char (bs ++ rest) (length bs)
char bs v rest s e = record { value = v; rest = rest; scalar = s; size = ap length e; encoded = rw e }

-- The lists that begin with a row of the grammar are those that start with a scalar value of an interval
record Row (q : List Range) (low high : ℕ) : Type 0 where
  reads : (l : List ℕ) → Begins q l → Char l (length q)
  writes : (v : ℕ) (rest : List ℕ) → low ≤ v → v ≤ high → Begins q (octets v ++ rest)

abbrev ScalarFrom : ℕ → ℕ → Type 0
ScalarFrom low high = (v : ℕ) → low ≤ v → v ≤ high → Scalar v

row1 : Row (range 0x00 0x7F ∷ []) 0x00 0x7F
row1 = record { reads = reads; writes = λ v rest h k. rw (octets1 v k) (omega arith) }
  where
    reads : (l : List ℕ) → Begins (range 0x00 0x7F ∷ []) l → Char l 1
    reads [] m = absurd m
    reads (a ∷ rest) m = char (a ∷ []) a rest (inl (omega arith)) (octets1 a m.1)

row2 : Row (range 0xC2 0xDF ∷ utf8_tail ∷ []) 0x80 0x7FF
row2 = record { reads = reads; writes = λ v rest h k. rw (octets2 v h k) (omega arith) }
  where
    reads : (l : List ℕ) → Begins (range 0xC2 0xDF ∷ utf8_tail ∷ []) l → Char l 2
    reads [] m = absurd m
    reads (a ∷ []) m = absurd m.2
    reads (a ∷ b ∷ rest) m =
        let v = a * 64 + b - 0x3080 in
        let e : (0xC0 + v / 64 ≡ a) × (0x80 + v % 64 ≡ b) = omega arith in
        char (a ∷ b ∷ []) v rest (inl (omega arith)) (octets2 v (omega arith) (omega arith) ∙ (cc))

-- Three octets: two ranges and a tail, and the interval that they make
abbrev value3 : ℕ → ℕ → ℕ → ℕ
value3 a b c = a * 4096 + b * 64 + c - 0xE2080

record Three (r s : Range) (low high : ℕ) : Type 0 where
  bounds : (0xE0 ≤ r.low) × (0x80 ≤ s.low) × (s.high ≤ 0xBF) × (0x800 ≤ low) × (high ≤ 0xFFFF)
  reads : (a b c : ℕ) → Begins (r ∷ s ∷ utf8_tail ∷ []) (a ∷ b ∷ c ∷ []) → (low ≤ value3 a b c) × (value3 a b c ≤ high)
  writes : (v : ℕ) → low ≤ v → v ≤ high → Begins (r ∷ s ∷ utf8_tail ∷ []) ((0xE0 + v / 4096) ∷ (0x80 + v / 64 % 64) ∷ (0x80 + v % 64) ∷ [])

row3 : {r s : Range} {low high : ℕ} → ScalarFrom low high → Three r s low high → Row (r ∷ s ∷ utf8_tail ∷ []) low high
row3 {r} {s} {low} {high} scalars t =
    record { reads = reads; writes = λ v rest h k. rw (octets3 v (omega arith) (omega arith)) (t.writes v h k) }
  where
    reads : (l : List ℕ) → Begins (r ∷ s ∷ utf8_tail ∷ []) l → Char l 3
    reads [] m = absurd m
    reads (a ∷ []) m = absurd m.2
    reads (a ∷ b ∷ []) m = absurd m.2.2
    reads (a ∷ b ∷ c ∷ rest) m =
        let v = value3 a b c in
        let i = t.reads a b c m in
        let e : (0xE0 + v / 4096 ≡ a) × (0x80 + v / 64 % 64 ≡ b) × (0x80 + v % 64 ≡ c) = omega arith in
        char (a ∷ b ∷ c ∷ []) v rest (scalars v i.0 i.1) (octets3 v (omega arith) (omega arith) ∙ (cc))

-- Four octets: two ranges and two tails
abbrev value4 : ℕ → ℕ → ℕ → ℕ → ℕ
value4 a b c d = a * 262144 + b * 4096 + c * 64 + d - 0x3C82080

record Four (r s : Range) (low high : ℕ) : Type 0 where
  bounds : (0xF0 ≤ r.low) × (0x80 ≤ s.low) × (s.high ≤ 0xBF) × (0x10000 ≤ low)
  reads : (a b c d : ℕ) → Begins (r ∷ s ∷ utf8_tail ∷ utf8_tail ∷ []) (a ∷ b ∷ c ∷ d ∷ [])
      → (low ≤ value4 a b c d) × (value4 a b c d ≤ high)
  writes : (v : ℕ) → low ≤ v → v ≤ high
      → Begins (r ∷ s ∷ utf8_tail ∷ utf8_tail ∷ [])
      ((0xF0 + v / 262144) ∷ (0x80 + v / 4096 % 64) ∷ (0x80 + v / 64 % 64) ∷ (0x80 + v % 64) ∷ [])

row4 : {r s : Range} {low high : ℕ} → ScalarFrom low high → Four r s low high → Row (r ∷ s ∷ utf8_tail ∷ utf8_tail ∷ []) low high
row4 {r} {s} {low} {high} scalars t =
    record { reads = reads; writes = λ v rest h k. rw (octets4 v (omega arith)) (t.writes v h k) }
  where
    reads : (l : List ℕ) → Begins (r ∷ s ∷ utf8_tail ∷ utf8_tail ∷ []) l → Char l 4
    reads [] m = absurd m
    reads (a ∷ []) m = absurd m.2
    reads (a ∷ b ∷ []) m = absurd m.2.2
    reads (a ∷ b ∷ c ∷ []) m = absurd m.2.2.2
    reads (a ∷ b ∷ c ∷ d ∷ rest) m =
        let v = value4 a b c d in
        let i = t.reads a b c d m in
        let e : (0xF0 + v / 262144 ≡ a) × (0x80 + v / 4096 % 64 ≡ b) × (0x80 + v / 64 % 64 ≡ c) × (0x80 + v % 64 ≡ d) = omega arith in
        char (a ∷ b ∷ c ∷ d ∷ []) v rest (scalars v i.0 i.1) (octets4 v (omega arith) ∙ (cc))

-- No scalar value from a value on has its octets at the front of a list
abbrev pub Nothing : ℕ → List ℕ → Type 0
Nothing low l = (v : ℕ) (rest : List ℕ) → Scalar v → low ≤ v → l ≡ octets v ++ rest → ⊥

-- What is taken from a list: n octets of a scalar value, or nothing where it starts with none
abbrev pub Taken : ℕ → List ℕ → ℕ → Type 0
Taken low l n = ((n ≡ 0) × Nothing low l) ⊎ Char l n

-- Rows of the grammar that take the scalar values from a value on
pub record Rows (low : ℕ) (qs : List (List Range)) : Type 0 where
  pub first : (l : List ℕ) → Taken low l (first_of qs l)

end : Rows 0x110000 []
unfolding first_of
end = record { first = λ l. inl (refl, λ v rest s h e. ⊎_elim (λ x. omega arith) (λ x. omega arith) s) }

-- The surrogates
gap : {qs : List (List Range)} → Rows 0xE000 qs → Rows 0xD800 qs
gap {qs} rs = record { first = λ l. more l (rs.first l) }
  where
    more : (l : List ℕ) → Taken 0xE000 l (first_of qs l) → Taken 0xD800 l (first_of qs l)
    more l (inl (z, none)) = inl (z, λ v rest s h e. none v rest s (⊎_elim (λ x. omega arith) (λ x. omega arith) s) e)
    more l (inr x) = inr x

row : {q : List Range} {qs : List (List Range)} {low high : ℕ} → Row q low high → Rows (suc high) qs → Rows low (q ∷ qs)
unfolding first_of
row {q} {qs} {low} {high} r rs = record { first = λ l. pick l (starts q l) refl (rs.first l) }
  where
    pick : (l : List ℕ) (t : Bool) → starts q l ≡ t → Taken (suc high) l (first_of qs l)
        → Taken low l (cond t (length q) (first_of qs l))
    pick l true e m = inr (r.reads l (begins q l e))
    pick l false e (inl (z, none)) =
        inl (
          z,
          λ v rest s h x.
              ⊎_elim
              (λ k. none v rest s k x)
              (λ k. true_false (sym (passes q (octets v ++ rest) (r.writes v rest h k)) ∙ ap (starts q) (sym x) ∙ e))
              (lt_or_ge high v),
        )
    pick l false e (inr x) = inr x

pub rows : Rows 0 sequences
unfolding sequences
rows =
    row row1
    (row row2
    (row (row3 {high = 0xFFF} (λ v h k. inl (omega arith)) (omega arith))
    (row (row3 {high = 0xCFFF} (λ v h k. inl (omega arith)) (omega arith))
    (row (row3 {high = 0xD7FF} (λ v h k. inl (omega arith)) (omega arith))
    (gap
    (row (row3 {high = 0xFFFF} (λ v h k. inr (omega arith)) (omega arith))
    (row (row4 {high = 0x3FFFF} (λ v h k. inr (omega arith)) (omega arith))
    (row (row4 {high = 0xFFFFF} (λ v h k. inr (omega arith)) (omega arith))
    (row (row4 {high = 0x10FFFF} (λ v h k. inr (omega arith)) (omega arith))
    end)))))))))

-- How many octets there are, by the first: one more from C0, from E0 and from F0 on
abbrev width : ℕ → ℕ
width b = 1 + min 1 (b - 0xBF) + min 1 (b - 0xDF) + min 1 (b - 0xEF)

pub octets_width : (v : ℕ) (rest : List ℕ) → length (octets v) ≡ width (get_or (octets v ++ rest) 0 0)
octets_width v rest =
    ⊎_elim
    (λ (h : v < 0x80). rw (octets1 v (omega arith)) (omega arith))
    (λ (h : 0x80 ≤ v).
    ⊎_elim
    (λ (k : v < 0x800). rw (octets2 v h (omega arith)) (omega arith))
    (λ (k : 0x800 ≤ v).
    ⊎_elim
    (λ (m : v < 0x10000). rw (octets3 v k (omega arith)) (omega arith))
    (λ (m : 0x10000 ≤ v). rw (octets4 v m) (omega arith))
    (lt_or_ge v 0x10000))
    (lt_or_ge v 0x800))
    (lt_or_ge v 0x80)

pub octets_length : (v : ℕ) (rest : List ℕ) → Scalar v → char_length (octets v ++ rest) ≡ length (octets v)
unfolding char_length
octets_length v rest s = only (rows.first (octets v ++ rest))
  where
    only : {n : ℕ} → Taken 0 (octets v ++ rest) n → n ≡ length (octets v)
    only (inl (z, none)) = absurd (none v rest s (omega arith) refl)
    only (inr x) =
        sym x.size
        ∙ octets_width x.value x.rest
        ∙ ap (λ l. width (get_or l 0 0)) (sym x.encoded)
        ∙ sym (octets_width v rest)

-- ---- the claim

one_more : (b : ℕ) (l : List ℕ) (n : ℕ) → Taken 0 (b ∷ l) n → goes_on n (λ k. characters k l) ≡ true
    → ((k : ℕ) → characters k l ≡ true → IsUtf8 (drop k l)) → IsUtf8 (b ∷ l)
one_more b l zero m e more = true_false (sym e)
one_more b l (suc k) (inl (z, none)) e more = absurd (omega arith)
one_more b l (suc k) (inr x) e more =
    let t = more k e in
    let here : x.rest ≡ drop k l = sym (drop_at (octets x.value) x.rest (suc k) x.size) ∙ ap (drop (suc k)) (sym x.encoded) in
    record {
      values = x.value ∷ t.values;
      scalars = (x.scalar, t.scalars);
      encoded = x.encoded ∙ ap (λ r. octets x.value ++ r) (here ∙ t.encoded);
    }

is_text : (k : ℕ) (l : List ℕ) → characters k l ≡ true → IsUtf8 (drop k l)
unfolding characters char_length
is_text zero [] e = record { values = []; scalars = tt; encoded = refl }
is_text (suc k) [] e = record { values = []; scalars = tt; encoded = refl }
is_text zero (b ∷ l) e = one_more b l (char_length (b ∷ l)) (rows.first (b ∷ l)) e (λ k. is_text k l)
is_text (suc k) (b ∷ l) e = is_text k l e

text_passes : (vs : List ℕ) → Scalars vs → characters 0 (text vs) ≡ true
unfolding characters
text_passes [] s = refl
text_passes (v ∷ vs) (s, ss) =
    next (octets v ++ text vs) (length (octets v)) (omega (arith, octets_width v [])) (octets_length v (text vs) s)
    ∙ ap (characters 0) (drop-append_seam (octets v) (text vs))
    ∙ text_passes vs ss

pub grammar_agrees : claims.GrammarAgrees
unfolding utf8
grammar_agrees bytes = (is_text 0 bytes, λ t. ap (characters 0) t.encoded ∙ text_passes t.values t.scalars)
