-- What is claimed of the definitions, of every input; proved in proofs/Division.antt, proofs/Parts.antt and proofs/Carried.antt.
use Rattle.std.specs.Prelude.{ℕ, ◌^◌, ◌≤◌, ◌<◌, ◌≡◌, List, [], ◌∷◌, ◌++◌, Bool, true, false, length, get_or, replicate}
use Rattle.std.specs.Int.Bits.{bit_xor}
use Rattle.crc32.specs.Crc32.{plus, generator, remainder, number, crc32_of}
use Rattle.crc32.specs.Parts.{times_x, taken_in, all_taken_in, complemented}
use Rattle.crc32.specs.Formula.{step, steps, by_formula}

-- The product of a polynomial and G = x^32 + generator, as many coefficients as q has and 32 more
unfoldable pub times_G : List Bool → List Bool
times_G [] = replicate 32 false
times_G (false ∷ q) = false ∷ times_G q
times_G (true ∷ q) = plus (true ∷ generator) (false ∷ times_G q)

-- r is the remainder of p by G: 32 coefficients, and p is a multiple of G plus r
pub record IsRemainder (p r : List Bool) : Type 0 where
  pub quotient : List Bool
  pub size : length r ≡ 32
  pub adds_up : p ≡ plus (times_G quotient) (replicate (length quotient) false ++ r)

abbrev pub Divides : Type 0
Divides = (p : List Bool) → 32 ≤ length p → IsRemainder p (remainder p)

-- The reflected polynomial of document 01 is the standard's G: x^31 is the lowest bit
abbrev pub Reflected : Type 0
Reflected = number generator ≡ 0xEDB88320

-- A step of the formula, a shift and a conditional exclusive-or, is a step of the standard's division; eight of them take a byte in
abbrev pub StepByStep : Type 0
StepByStep = (r : ℕ) → r < 2 ^ 32 → times_x r ≡ step r

abbrev pub ByteByByte : Type 0
ByteByByte = (r b : ℕ) → r < 2 ^ 32 → b < 256 → taken_in r b ≡ steps 8 (bit_xor r b)

-- The formula gives the standard's checksum
abbrev pub FormulaAgrees : Type 0
FormulaAgrees = (bytes : List ℕ) → ((i : ℕ) → get_or bytes i 0 < 256) → by_formula bytes ≡ crc32_of bytes

-- A remainder carried on over a run is carried on over its parts; from 32 ones on and complemented at the end, it is the run's checksum
abbrev pub PartByPart : Type 0
PartByPart = (r : ℕ) (part rest : List ℕ) → all_taken_in r (part ++ rest) ≡ all_taken_in (all_taken_in r part) rest

abbrev pub CarriedAgrees : Type 0
CarriedAgrees = (bytes : List ℕ) → complemented (all_taken_in 0xFFFFFFFF bytes) ≡ crc32_of bytes
