-- CRC-32 (IEEE 802.3, clause 3.2.9), as arithmetic on polynomials over GF(2).
-- A polynomial is the list of its coefficients, the highest first; as many as its list has.
use Rattle.std.specs.Prelude.{ℕ, zero, suc, ◌+◌, ◌-◌, ◌*◌, ◌/◌, ◌%◌, List, [], ◌∷◌, ◌++◌, map, Bool, true, false, not, length, replicate, eqb}

-- Addition of coefficients, which is also subtraction: true where just one of the two is
abbrev pub differs : Bool → Bool → Bool
differs true b = not b
differs false b = b

-- The sum, the two lists aligned at their highest coefficients; the longer one's rest stays
unfoldable pub plus : List Bool → List Bool → List Bool
plus [] ys = ys
plus (x ∷ xs) [] = x ∷ xs
plus (x ∷ xs) (y ∷ ys) = differs x y ∷ plus xs ys

-- G(x) = x^32 + x^26 + x^23 + x^22 + x^16 + x^12 + x^11 + x^10 + x^8 + x^7 + x^5 + x^4 + x^2 + x + 1: the coefficients below x^32
abbrev pub generator : List Bool
generator =
    false ∷ false ∷ false ∷ false ∷ false ∷ true ∷ false ∷ false  -- x^31 .. x^24: x^26
    ∷ true ∷ true ∷ false ∷ false ∷ false ∷ false ∷ false ∷ true  -- x^23 .. x^16: x^23, x^22, x^16
    ∷ false ∷ false ∷ false ∷ true ∷ true ∷ true ∷ false ∷ true  -- x^15 .. x^8: x^12, x^11, x^10, x^8
    ∷ true ∷ false ∷ true ∷ true ∷ false ∷ true ∷ true ∷ true  -- x^7 .. 1: x^7, x^5, x^4, x^2, x, 1
    ∷ []

-- Long division by G, n times: the highest coefficient goes, and where it is 1, G with it
unfoldable pub divided : ℕ → List Bool → List Bool
divided zero p = p
divided (suc n) [] = []
divided (suc n) (false ∷ p) = divided n p
divided (suc n) (true ∷ p) = divided n (plus generator p)

-- The remainder by G: 32 coefficients. specs/Claims.antt: p is a multiple of G plus this
abbrev pub remainder : List Bool → List Bool
remainder p = divided (length p - 32) p

-- The bits of a byte in the order in which they are sent, the lowest first
unfoldable pub bits : ℕ → ℕ → List Bool
bits zero b = []
bits (suc n) b = eqb (b % 2) 1 ∷ bits n (b / 2)

-- M(x): the bits of the message in that order, the first being the highest coefficient
unfoldable pub message : List ℕ → List Bool
message [] = []
message (b ∷ bytes) = bits 8 b ++ message bytes

-- The first n bits complemented
unfoldable pub complement_first : ℕ → List Bool → List Bool
complement_first zero p = p
complement_first (suc n) [] = []
complement_first (suc n) (b ∷ p) = not b ∷ complement_first n p

-- A bit sequence as a number, sent lowest bit first
unfoldable pub number : List Bool → ℕ
number [] = 0
number (true ∷ bs) = 1 + 2 * number bs
number (false ∷ bs) = 2 * number bs

-- The first 32 bits are complemented; M(x) is multiplied by x^32 and divided by G(x); the remainder's bits are complemented
unfoldable pub crc32_of : List ℕ → ℕ
crc32_of bytes = number (map not (remainder (complement_first 32 (message bytes ++ replicate 32 false))))
