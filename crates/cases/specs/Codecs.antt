-- Checksum and text encoding at the edges of their public documents.
use Rattle.std.specs.Prelude.{◌≡◌, refl, true, false, [], ◌∷◌}
use Rattle.crc32.specs.Crc32.{crc32_of}
use Rattle.utf8.specs.Utf8.{utf8}
use Rattle.cases.specs.Through.{checksum, text}

-- the CRC-32 of nothing. Fails: no final complement
crc_of_nothing : crc32_of [] ≡ 0
unfolding checksum
crc_of_nothing = refl

-- the published check value, of 123456789. Fails: bits taken the other way round, another polynomial
crc_of_digits : crc32_of (0x31 ∷ 0x32 ∷ 0x33 ∷ 0x34 ∷ 0x35 ∷ 0x36 ∷ 0x37 ∷ 0x38 ∷ 0x39 ∷ []) ≡ 0xCBF43926
unfolding checksum
crc_of_digits = refl

-- ---- RFC 3629, section 4: the first and the last of each row, and what lies beside it

-- UTF8-1 ends with 7F. Fails: 80 as a character of one octet
one_octet : utf8 (0x7F ∷ []) ≡ true
unfolding text
one_octet = refl

-- a tail starts nothing
tail_alone : utf8 (0x80 ∷ []) ≡ false
unfolding text
tail_alone = refl

-- C1 BF says 7F in two octets. Fails: C0 and C1 accepted
overlong_2 : utf8 (0xC1 ∷ 0xBF ∷ []) ≡ false
unfolding text
overlong_2 = refl

-- UTF8-2 begins with C2 80
first_2 : utf8 (0xC2 ∷ 0x80 ∷ []) ≡ true
unfolding text
first_2 = refl

-- its tail is wanted. Fails: a text that may end in a character
cut_2 : utf8 (0xC2 ∷ []) ≡ false
unfolding text
cut_2 = refl

-- E0 9F BF says 7FF in three. Fails: the second octet of E0 as any tail
overlong_3 : utf8 (0xE0 ∷ 0x9F ∷ 0xBF ∷ []) ≡ false
unfolding text
overlong_3 = refl

-- UTF8-3 begins with E0 A0 80
first_3 : utf8 (0xE0 ∷ 0xA0 ∷ 0x80 ∷ []) ≡ true
unfolding text
first_3 = refl

-- ED 9F BF is D7FF
before_surrogates : utf8 (0xED ∷ 0x9F ∷ 0xBF ∷ []) ≡ true
unfolding text
before_surrogates = refl

-- ED A0 80 is D800, no scalar value. Fails: surrogates accepted
surrogate : utf8 (0xED ∷ 0xA0 ∷ 0x80 ∷ []) ≡ false
unfolding text
surrogate = refl

-- EE 80 80 is E000
after_surrogates : utf8 (0xEE ∷ 0x80 ∷ 0x80 ∷ []) ≡ true
unfolding text
after_surrogates = refl

-- two octets of three
cut_3 : utf8 (0xE2 ∷ 0x82 ∷ []) ≡ false
unfolding text
cut_3 = refl

-- F0 8F BF BF says FFFF in four
overlong_4 : utf8 (0xF0 ∷ 0x8F ∷ 0xBF ∷ 0xBF ∷ []) ≡ false
unfolding text
overlong_4 = refl

-- UTF8-4 begins with F0 90 80 80
first_4 : utf8 (0xF0 ∷ 0x90 ∷ 0x80 ∷ 0x80 ∷ []) ≡ true
unfolding text
first_4 = refl

-- and ends with F4 8F BF BF, 10FFFF
last_4 : utf8 (0xF4 ∷ 0x8F ∷ 0xBF ∷ 0xBF ∷ []) ≡ true
unfolding text
last_4 = refl

-- F4 90 80 80 is 110000. Fails: 21 bits accepted
past_4 : utf8 (0xF4 ∷ 0x90 ∷ 0x80 ∷ 0x80 ∷ []) ≡ false
unfolding text
past_4 = refl

-- F5 starts nothing. Fails: F5 to F7 accepted
lead_past : utf8 (0xF5 ∷ 0x80 ∷ 0x80 ∷ 0x80 ∷ []) ≡ false
unfolding text
lead_past = refl

-- a tail ends with BF: C2 C0
tail_past : utf8 (0xC2 ∷ 0xC0 ∷ []) ≡ false
unfolding text
tail_past = refl
