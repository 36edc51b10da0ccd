-- The checksum by document 01's numbers (reflected polynomial EDB88320, start value and final exclusive-or FFFFFFFF) and document 02's
-- eight steps for each byte. No contract cites it; Claims.antt says that it is the standard's.
use Rattle.std.specs.Prelude.{ℕ, zero, suc, ◌/◌, ◌%◌, List, [], ◌∷◌}
use Rattle.std.specs.Int.Bits.{bit_xor}

-- The polynomial, or nothing if the bit is 0
abbrev pub polynomial_if : ℕ → ℕ
polynomial_if zero = 0
polynomial_if (suc n) = 0xEDB88320

-- One step of the register c: a shift, and an exclusive-or with the polynomial if a 1 was shifted out
unfoldable pub step : ℕ → ℕ
step c = bit_xor (c / 2) (polynomial_if (c % 2))

-- n steps
unfoldable pub steps : ℕ → ℕ → ℕ
steps zero c = c
steps (suc n) c = steps n (step c)

-- The register from c on, along the bytes
unfoldable pub along : ℕ → List ℕ → ℕ
along c [] = c
along c (b ∷ bytes) = along (steps 8 (bit_xor c b)) bytes

-- The checksum
abbrev pub by_formula : List ℕ → ℕ
by_formula bytes = bit_xor (along 0xFFFFFFFF bytes) 0xFFFFFFFF
