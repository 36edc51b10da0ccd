-- UTF-8 (RFC 3629): section 3 as what a text is, section 4 (the ABNF) as a test that computes, and decoding. specs/Claims.antt: they agree.
use Rattle.std.specs.Prelude.{ℕ, zero, suc, ◌+◌, ◌-◌, ◌*◌, ◌/◌, ◌%◌, ◌≤◌, ◌<◌, ◌≡◌, List, [], ◌∷◌, ◌++◌, Bool, true, false, cond, ◌&&◌, ◌⊎◌, ltb, leb, length, take}

-- Section 3: a Unicode scalar value, 0 to 10FFFF without the surrogates D800 to DFFF (hex)
abbrev pub Scalar : ℕ → Type 0
Scalar c = (c < 0xD800) ⊎ ((0xDFFF < c) × (c ≤ 0x10FFFF))

-- The table of section 3: the octets of a scalar value, the shortest row that has room for its bits
unfoldable pub octets : ℕ → List ℕ
octets c =
    cond (ltb c 0x80)
    (c ∷ [])
    (cond (ltb c 0x800)
    ((0xC0 + c / 64) ∷ (0x80 + c % 64) ∷ [])
    (cond (ltb c 0x10000)
    ((0xE0 + c / 4096) ∷ (0x80 + c / 64 % 64) ∷ (0x80 + c % 64) ∷ [])
    ((0xF0 + c / 262144) ∷ (0x80 + c / 4096 % 64) ∷ (0x80 + c / 64 % 64) ∷ (0x80 + c % 64) ∷ [])))

-- The octets of a text: those of its scalar values, one after the other
abbrev pub text : List ℕ → List ℕ
text [] = []
text (c ∷ cs) = octets c ++ text cs

abbrev pub Scalars : List ℕ → Type 0
Scalars [] = Unit {0}
Scalars (c ∷ cs) = Scalar c × Scalars cs

-- The octets are a text in UTF-8
pub record IsUtf8 (bytes : List ℕ) : Type 0 where
  pub values : List ℕ
  pub scalars : Scalars values
  pub encoded : bytes ≡ text values

-- Section 4: a range of octets, its ends included
pub record Range : Type 0 where
  pub low : ℕ
  pub high : ℕ

abbrev pub in_range : Range → ℕ → Bool
in_range r b = leb r.low b && leb b r.high

abbrev pub range : ℕ → ℕ → Range
range a b = record { low = a; high = b }

abbrev pub utf8_tail : Range
utf8_tail = range 0x80 0xBF

-- UTF8-1; UTF8-2; UTF8-3, four rows; UTF8-4, three rows
unfoldable pub sequences : List (List Range)
sequences =
    (range 0x00 0x7F ∷ [])
    ∷ (range 0xC2 0xDF ∷ utf8_tail ∷ [])
    ∷ (range 0xE0 0xE0 ∷ range 0xA0 0xBF ∷ utf8_tail ∷ [])
    ∷ (range 0xE1 0xEC ∷ utf8_tail ∷ utf8_tail ∷ [])
    ∷ (range 0xED 0xED ∷ range 0x80 0x9F ∷ utf8_tail ∷ [])
    ∷ (range 0xEE 0xEF ∷ utf8_tail ∷ utf8_tail ∷ [])
    ∷ (range 0xF0 0xF0 ∷ range 0x90 0xBF ∷ utf8_tail ∷ utf8_tail ∷ [])
    ∷ (range 0xF1 0xF3 ∷ utf8_tail ∷ utf8_tail ∷ utf8_tail ∷ [])
    ∷ (range 0xF4 0xF4 ∷ range 0x80 0x8F ∷ utf8_tail ∷ utf8_tail ∷ [])
    ∷ []

-- The bytes start with an octet of each range, in order
unfoldable pub starts : List Range → List ℕ → Bool
starts [] bytes = true
starts (r ∷ rs) [] = false
starts (r ∷ rs) (b ∷ bytes) = in_range r b && starts rs bytes

-- The length of the first of the sequences that the bytes start with, or 0
unfoldable pub first_of : List (List Range) → List ℕ → ℕ
first_of [] bytes = 0
first_of (q ∷ qs) bytes = let later = first_of qs bytes in cond (starts q bytes) (length q) later

-- UTF8-char: how many octets the character has with which the bytes start, or 0 where they start with none
unfoldable pub char_length : List ℕ → ℕ
char_length bytes = first_of sequences bytes

abbrev pub goes_on : ℕ → (ℕ → Bool) → Bool
goes_on zero f = false
goes_on (suc k) f = f k

-- UTF8-octets = *( UTF8-char ), k octets of a character still to pass
unfoldable pub characters : ℕ → List ℕ → Bool
characters k [] = true
characters zero (b ∷ bytes) = goes_on (char_length (b ∷ bytes)) (λ k. characters k bytes)
characters (suc k) (b ∷ bytes) = characters k bytes

unfoldable pub utf8 : List ℕ → Bool
utf8 bytes = characters 0 bytes

-- Section 3, decoding: the scalar value of one character's octets, the bits marked x in the row for as many octets put together; no
-- character has other numbers of octets
unfoldable pub value : List ℕ → ℕ
value [] = 0
value (a ∷ []) = a
value (a ∷ b ∷ []) = (a - 0xC0) * 64 + (b - 0x80)
value (a ∷ b ∷ c ∷ []) = (a - 0xE0) * 4096 + (b - 0x80) * 64 + (c - 0x80)
value (a ∷ b ∷ c ∷ d ∷ []) = (a - 0xF0) * 262144 + (b - 0x80) * 4096 + (c - 0x80) * 64 + (d - 0x80)
value (a ∷ b ∷ c ∷ d ∷ e ∷ rest) = 0

-- The value of a character of so many octets, then the values after it; none where there is no character
abbrev pub value_then : ℕ → List ℕ → (ℕ → List ℕ) → List ℕ
value_then zero bytes f = []
value_then (suc k) bytes f = value (take (suc k) bytes) ∷ f k

-- Decoding: the characters of a text, as scalar values in their order; of other bytes those in front of the first that start none. k octets
-- of a character are still to pass
unfoldable pub decoded_from : ℕ → List ℕ → List ℕ
decoded_from k [] = []
decoded_from zero (b ∷ bytes) = value_then (char_length (b ∷ bytes)) (b ∷ bytes) (λ k. decoded_from k bytes)
decoded_from (suc k) (b ∷ bytes) = decoded_from k bytes

unfoldable pub decoded : List ℕ → List ℕ
decoded bytes = decoded_from 0 bytes
