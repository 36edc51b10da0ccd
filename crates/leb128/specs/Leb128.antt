-- Unsigned LEB128 (DWARF 5, section 7.6): seven bits to a byte, the low ones first, and the high bit set on every byte but the last.
use Rattle.std.specs.Prelude.{ℕ, zero, suc, ◌+◌, ◌*◌, ◌/◌, ◌%◌, ◌^◌, List, [], ◌∷◌, cond, ◌&&◌, ltb, leb, None, Option, Some}

-- A number at the front of a list of bytes: its value, and how many bytes it takes
pub record Leb : Type 0 where
  pub value : ℕ
  pub size : ℕ

-- The low seven bits of a byte, below what the bytes after it say
abbrev pub below : ℕ → Option Leb → Option Leb
below b None = None
below b (Some r) = Some (record { value = b % 128 + 128 * r.value; size = suc r.size })

-- DWARF's decoder, with no limit on the length: the first byte below 128 is the last; none where the bytes run out before it
unfoldable pub uleb128 : List ℕ → Option Leb
uleb128 [] = None
uleb128 (b ∷ bs) = let more = below b (uleb128 bs) in cond (ltb b 128) (Some (record { value = b; size = 1 })) more

-- Document 01's stored number: 1 to 5 bytes of unsigned LEB128 that say a number of 32 bits
abbrev pub limited : Option Leb → Option Leb
limited None = None
limited (Some r) = cond (leb r.size 5 && ltb r.value (2 ^ 32)) (Some r) None

abbrev pub stored : List ℕ → Option Leb
stored bs = limited (uleb128 bs)

-- DWARF's encoder: chunks of seven bits, the low one first, until what is left fits a last byte; with at most n chunks before that byte
unfoldable pub chunks : ℕ → ℕ → List ℕ
chunks zero x = x ∷ []
chunks (suc n) x = let more = (x % 128 + 128) ∷ chunks n (x / 128) in cond (ltb x 128) (x ∷ []) more

-- The bytes written for a number of 32 bits, for which four chunks before the last are enough. specs/Claims.antt: no form is shorter
unfoldable pub encoded : ℕ → List ℕ
encoded x = chunks 4 x
