-- The stores of an entry are one, and so are those of the header.
-- Assumes nothing.
use mathlib.Core.Path.{◌≡◌, sym, ap, ◌∙◌}
use mathlib.Core.List.{List, ◌++◌}
use Prim.Native.Nat.{ℕ, ◌-◌}
use native.Mathlib.Omega.{arith}
use lib.ListN.{length}
use lib.Seq.{sets}
use Rattle.crc32.specs.Crc32.{crc32_of}
use Rattle.segment.specs.Records.{between}
use Rattle.segment.specs.Opening.{magic}
use Rattle.write_frame.specs.declared.frame.Offsets.{Offsets}
use Rattle.segment.specs.Written.{fixed, header_bytes}
use Rattle.common.specs.Stores.{Stored}
use Rattle.write_frame.specs.Steps.{four, entry_of_list, HeaderRoom, HeaderStored}
use Rattle.write_check_all.proofs.Walking.{part_length}
use Rattle.common.proofs.Stores.{stored_append, stored_four}

-- an entry, whose list's length and checksum are those of what the slice already holds
module _ (out : List ℕ) (at name name_length lists list end df : ℕ) where
  pub entry_stored : {n₁ n₂ n₃ n₄ n₅ n₆ checksum : ℕ} {o₁ o₂ o₃ o₄ o₅ o₆ : List ℕ}
      → end - list ≡ length (between list end out) → checksum ≡ crc32_of (between list end out)
      → Stored (fixed 4 name) at out n₁ o₁ → Stored (fixed 4 name_length) n₁ o₁ n₂ o₂
      → Stored (fixed 8 (list - lists)) n₂ o₂ n₃ o₃ → Stored (fixed 8 (end - list)) n₃ o₃ n₄ o₄
      → Stored (fixed 4 df) n₄ o₄ n₅ o₅ → Stored (fixed 4 checksum) n₅ o₅ n₆ o₆
      → Stored (entry_of_list out name name_length lists list end df) at out n₆ o₆
  entry_stored size crc a b c d e f =
      rw (← size, ← crc) (stored_append (stored_append (stored_four a b c d) e) f)

-- the header likewise
header_from : (documents terms : ℕ) (directory names metadata lists : List ℕ) (s₁ s₂ s₃ s₄ c₁ c₂ c₃ c₄ : ℕ)
    → s₁ ≡ length directory → s₂ ≡ length names → s₃ ≡ length metadata → s₄ ≡ length lists
    → c₁ ≡ crc32_of directory → c₂ ≡ crc32_of names → c₃ ≡ crc32_of metadata → c₄ ≡ crc32_of lists
    → magic ++ four 4 2 0 documents terms ++ four 8 s₁ s₂ s₃ s₄ ++ four 4 c₁ c₂ c₃ c₄
    ≡ header_bytes documents terms directory names metadata lists
header_from documents terms directory names metadata lists s₁ s₂ s₃ s₄ c₁ c₂ c₃ c₄ e₁ e₂ e₃ e₄ f₁ f₂ f₃ f₄ =
    rw (e₁, e₂, e₃, e₄, f₁, f₂, f₃, f₄)

module _ (documents terms lists_crc : ℕ) (at : Offsets) (out : List ℕ) (room : HeaderRoom out lists_crc at) where
  pub header_stored : {n₁ n₂ n₃ n₄ c₁ c₂ c₃ : ℕ} {o₁ o₂ o₃ o₄ : List ℕ}
      → c₁ ≡ crc32_of (between 72 at.names out) → c₂ ≡ crc32_of (between at.names at.metadata out)
      → c₃ ≡ crc32_of (between at.metadata at.lists out)
      → Stored magic 0 out n₁ o₁ → Stored (four 4 2 0 documents terms) n₁ o₁ n₂ o₂
      → Stored (four 8 (at.names - 72) (at.metadata - at.names) (at.lists - at.metadata) (at.end - at.lists)) n₂ o₂ n₃ o₃
      → Stored (four 4 c₁ c₂ c₃ lists_crc) n₃ o₃ n₄ o₄ → HeaderStored documents terms at out o₄
  header_stored f₁ f₂ f₃ a b c d = record {
    left =
        (stored_four a b c d).left
        ∙ ap (sets out 0) (header_from documents terms _ _ _ _ _ _ _ _ _ _ _ _
        (sym (part_length 72 at.names out (omega arith)))
        (sym (part_length at.names at.metadata out (omega arith)))
        (sym (part_length at.metadata at.lists out (omega arith)))
        (sym (part_length at.lists at.end out (omega arith))) f₁ f₂ f₃ room.checksum);
  }
