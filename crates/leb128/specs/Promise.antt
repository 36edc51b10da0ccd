-- What the calls of varint.rt answer, at an offset of a slice.
use Rattle.leb128.specs.declared.varint.Number.{Number}
use Rattle.std.specs.Prelude.{ℕ, ◌+◌, List, drop, None, Option, Some}
use Rattle.leb128.specs.Leb128.{Leb, stored}

-- A number found at an offset: its value, and the reader advanced past its bytes
abbrev pub decoded : ℕ → Option Leb → Option Number
decoded at None = None
decoded at (Some r) = Some (record { value = r.value; next = record { at = at + r.size } })

abbrev pub decoded_at : List ℕ → ℕ → Option Number
decoded_at s at = decoded at (stored (drop at s))
