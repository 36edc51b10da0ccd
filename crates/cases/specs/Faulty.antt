-- Segments that open, with lists that do not decode.
use Rattle.std.specs.Prelude.{ℕ, List, [], ◌∷◌, ◌++◌}
use Rattle.crc32.specs.Crc32.{crc32_of}
use Rattle.cases.specs.Sealing.{sealed, entry}

-- document (0, 1); a's list is 80 (7 5 0), b's is 00 00 (6 11 0)
abbrev pub two_faults : List ℕ
two_faults =
    sealed 1 2 (entry 0 1 0 1 1 (crc32_of (0x80 ∷ [])) ++ entry 1 1 1 2 1 (crc32_of (0x00 ∷ 0x00 ∷ [])))
    (0x61 ∷ 0x62 ∷ []) (0x00 ∷ 0x01 ∷ []) (0x80 ∷ 0x00 ∷ 0x00 ∷ [])

-- document (0, 1); a's list has document 0 on position 0, then the same again (6 9 0)
abbrev pub late_fault : List ℕ
late_fault =
    sealed 1 1 (entry 0 1 0 6 2 (crc32_of (0x00 ∷ 0x01 ∷ 0x00 ∷ 0x00 ∷ 0x01 ∷ 0x00 ∷ [])))
    (0x61 ∷ []) (0x00 ∷ 0x01 ∷ []) (0x00 ∷ 0x01 ∷ 0x00 ∷ 0x00 ∷ 0x01 ∷ 0x00 ∷ [])

-- document (0, 1); a's list is one posting, under df 2^32 - 1 (7 5 1)
abbrev pub large_df : List ℕ
large_df =
    sealed 1 1 (entry 0 1 0 3 0xFFFFFFFF (crc32_of (0x00 ∷ 0x01 ∷ 0x00 ∷ [])))
    (0x61 ∷ []) (0x00 ∷ 0x01 ∷ []) (0x00 ∷ 0x01 ∷ 0x00 ∷ [])

-- document (0, 1); a's list is one posting on position 0, under a checksum that is not the list's (5 6 0)
abbrev pub wrong_checksum : List ℕ
wrong_checksum = sealed 1 1 (entry 0 1 0 3 1 7) (0x61 ∷ []) (0x00 ∷ 0x01 ∷ []) (0x00 ∷ 0x01 ∷ 0x00 ∷ [])
