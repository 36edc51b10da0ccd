-- Parts of the standard's division, which the crate's own functions promise. R(x) is a number, as in crc32_of.
use Rattle.std.specs.Prelude.{ℕ, ◌≡◌, List, [], ◌∷◌, ◌++◌, false, replicate}
use Rattle.std.specs.Int.Bits.{bit_xor}
use Rattle.crc32.specs.declared.checksum.Both.{Both}
use Rattle.crc32.specs.Crc32.{plus, remainder, bits, number, crc32_of}

-- One coefficient on: the remainder of R(x) · x by G(x)
unfoldable pub times_x : ℕ → ℕ
times_x r = number (remainder (bits 32 r ++ false ∷ []))

-- One byte on, its bits being B(x): the remainder of R(x) · x^8 + B(x) · x^32 by G(x)
unfoldable pub taken_in : ℕ → ℕ → ℕ
taken_in r b = number (remainder (plus (bits 32 r) (bits 8 b ++ replicate 32 false)))

-- All bytes on, one after the other
unfoldable pub all_taken_in : ℕ → List ℕ → ℕ
all_taken_in r [] = r
all_taken_in r (b ∷ bytes) = all_taken_in (taken_in r b) bytes

-- 32 bits complemented
abbrev pub complemented : ℕ → ℕ
complemented r = bit_xor r 0xFFFFFFFF

-- Bytes that are a part of a longer run: their own checksum, and the run's remainder past them
pub record BothTaken (bytes : List ℕ) (before : ℕ) (r : Both) : Type 0 where
  pub own : r.own ≡ crc32_of bytes
  pub run : r.run ≡ all_taken_in before bytes
