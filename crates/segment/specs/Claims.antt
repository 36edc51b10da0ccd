-- What is claimed of the tests on names and texts: each is the same as its words; and of a segment's names. Proved in proofs/: Strings,
-- Shapes, Named.
use Rattle.std.specs.Prelude.{Ok, ℕ, ◌≡◌, true, List, ◌↔◌, length}
use Rattle.common.specs.Elements.{◌∈◌}
use Rattle.utf8.specs.Utf8.{IsUtf8}
use Rattle.segment.specs.Records.{Entry, Segment}
use Rattle.segment.specs.Opening.{open_segment}
use Rattle.segment.specs.Names.{same, precedes, Before}
use Rattle.segment.specs.Texts.{ends_fit, TextShape}

-- two names are the same when their bytes are
abbrev pub SameAgrees : Type 0
SameAgrees = (a b : List ℕ) → (same a b ≡ true) ↔ (a ≡ b)

-- byte order
abbrev pub OrderAgrees : Type 0
OrderAgrees = (a b : List ℕ) → (precedes a b ≡ true) ↔ Before a b

-- the shape of a text
abbrev pub ShapeAgrees : Type 0
ShapeAgrees = (text ends : List ℕ) → (ends_fit 0 ends (length text) ≡ true) ↔ TextShape text ends

-- every name of a segment that opens is UTF-8
abbrev pub NamesUtf8 : Type 0
NamesUtf8 = (bytes : List ℕ) (s : Segment) → open_segment bytes ≡ Ok s → (e : Entry) → e ∈ s.entries → IsUtf8 e.name
