-- What is claimed of the definition, each of every input; proved in proofs/Shortest.antt.
use Rattle.std.specs.Prelude.{ℕ, ◌≤◌, ◌<◌, ◌^◌, ◌≡◌, List, ◌++◌, ◌↔◌, length, get_or, Some}
use Rattle.leb128.specs.Leb128.{Leb, uleb128, stored, encoded}

abbrev pub leb_number : ℕ → ℕ → Leb
leb_number v k = record { value = v; size = k }

-- A stored number is accepted exactly when DWARF's decoder finds one of at most five bytes that says less than 2^32
abbrev pub AcceptedExactly : Type 0
AcceptedExactly =
    (bytes : List ℕ) (v k : ℕ) → (stored bytes ≡ Some (leb_number v k)) ↔ ((uleb128 bytes ≡ Some (leb_number v k)) × (k ≤ 5) × (v < 2 ^ 32))

-- What is written is read back by DWARF's decoder whatever follows, in bytes of eight bits, and no form of the number is shorter
pub record ShortestForm (x : ℕ) : Type 0 where
  pub back : (rest : List ℕ) → uleb128 (encoded x ++ rest) ≡ Some (leb_number x (length (encoded x)))
  pub eight_bits : (i : ℕ) → get_or (encoded x) i 0 < 256
  pub least : (bytes : List ℕ) (k : ℕ) → uleb128 bytes ≡ Some (leb_number x k) → length (encoded x) ≤ k

abbrev pub WrittenShortest : Type 0
WrittenShortest = (x : ℕ) → x < 2 ^ 32 → ShortestForm x

-- What is written is a stored number, whatever follows
abbrev pub ReadBack : Type 0
ReadBack = (x : ℕ) (rest : List ℕ) → x < 2 ^ 32 → stored (encoded x ++ rest) ≡ Some (leb_number x (length (encoded x)))
