-- Stored numbers: "a stored number takes 1 to 5 bytes of unsigned LEB128"; read and written.
use Rattle.std.specs.Prelude.{None, Some, ◌≡◌, refl, [], ◌∷◌}
use Rattle.leb128.specs.Leb128.{stored, encoded}
use Rattle.cases.specs.Through.{numbers}

-- M: FF FF FF FF 0F is 4,294,967,295. Fails: a limit of four bytes, a signed reading
largest : stored (0xFF ∷ 0xFF ∷ 0xFF ∷ 0xFF ∷ 0x0F ∷ []) ≡ Some (record { value = 4294967295; size = 5 })
unfolding numbers
largest = refl

-- M: FF FF FF FF 10 refused. Fails: the high bits of a fifth byte dropped
too_large : stored (0xFF ∷ 0xFF ∷ 0xFF ∷ 0xFF ∷ 0x10 ∷ []) ≡ None
unfolding numbers
too_large = refl

-- 80 80 80 80 10, which is 2^32, refused. Fails: `<=` for `<` at 2^32
just_too_large : stored (0x80 ∷ 0x80 ∷ 0x80 ∷ 0x80 ∷ 0x10 ∷ []) ≡ None
unfolding numbers
just_too_large = refl

-- M: 80 00 is 0. Fails: long forms refused
long_form : stored (0x80 ∷ 0x00 ∷ []) ≡ Some (record { value = 0; size = 2 })
unfolding numbers
long_form = refl

-- 80 alone refused. Fails: a number that ends with its bytes
cut : stored (0x80 ∷ []) ≡ None
unfolding numbers
cut = refl

-- six-byte forms are refused, a difference from unbounded LEB128. Fails: a limit on the value alone
six : stored (0x80 ∷ 0x80 ∷ 0x80 ∷ 0x80 ∷ 0x80 ∷ 0x00 ∷ []) ≡ None
unfolding numbers
six = refl

-- the longest long form passes. Fails: a limit of four bytes
five : stored (0x81 ∷ 0x80 ∷ 0x80 ∷ 0x80 ∷ 0x00 ∷ 0x07 ∷ []) ≡ Some (record { value = 1; size = 5 })
unfolding numbers
five = refl

-- no byte, no number. Fails: 0 for nothing
nothing : stored [] ≡ None
unfolding numbers
nothing = refl

-- the low seven bits come first, and what follows the number is not read. Fails: the high ones first; seven bits counted as eight
low_first : stored (0xAC ∷ 0x02 ∷ 0xFF ∷ []) ≡ Some (record { value = 300; size = 2 })
unfolding numbers
low_first = refl

-- ---- written: the shortest form

-- 0 takes a byte. Fails: no byte for 0
zero_written : encoded 0 ≡ 0x00 ∷ []
unfolding numbers
zero_written = refl

-- 127 takes one. Fails: `<=` for `<` at 127
one_byte : encoded 127 ≡ 0x7F ∷ []
unfolding numbers
one_byte = refl

-- and 128 two, low bits first. Fails: high bits first
two_bytes : encoded 128 ≡ 0x80 ∷ 0x01 ∷ []
unfolding numbers
two_bytes = refl

-- M's largest, written. Fails: four bytes at most
largest_written : encoded 4294967295 ≡ 0xFF ∷ 0xFF ∷ 0xFF ∷ 0xFF ∷ 0x0F ∷ []
unfolding numbers
largest_written = refl
