-- What is claimed of the definitions, of every input; proved in proofs/Text.antt and proofs/Decoded.antt.
use Rattle.std.specs.Prelude.{ℕ, ◌≡◌, List, ◌++◌, true, ◌↔◌}
use Rattle.utf8.specs.Utf8.{Scalars, text, IsUtf8, char_length, utf8, decoded}

-- The ABNF's test passes exactly on the texts of section 3
abbrev pub GrammarAgrees : Type 0
GrammarAgrees = (bytes : List ℕ) → (utf8 bytes ≡ true) ↔ IsUtf8 bytes

-- Decoding gives back the scalar values of which a text is made
abbrev pub Decodes : Type 0
Decodes = (values : List ℕ) → Scalars values → decoded (text values) ≡ values

-- Of any bytes, what is decoded is scalar values, their octets are the front of the bytes, and what follows starts with no character
abbrev pub DecodesFront : Type 0
DecodesFront =
    (bytes : List ℕ)
    → Scalars (decoded bytes) × ((rest : List ℕ) × (bytes ≡ text (decoded bytes) ++ rest) × (char_length rest ≡ 0))
