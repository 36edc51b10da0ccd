-- What is claimed of a segment that is checked once after it was written; proved in proofs/Checked.antt.
use Rattle.std.specs.Prelude.{Ok, ℕ, ◌≡◌, List}
use Rattle.calls.specs.Given.{Lists}
use Rattle.calls.specs.Writing.{write}
use Rattle.roundtrip.specs.Claims.{Typed}
use Rattle.read_open.specs.Layouts.{layout_in}
use Rattle.handle.specs.Handles.{accepted, checked_once}

-- whatever the writer writes, `check` answers its layout at level 2
abbrev pub WrittenChecks : Type 0
WrittenChecks =
    (l : Lists) (room : ℕ) (bytes : List ℕ) → Typed l → write l room ≡ Ok bytes → checked_once bytes ≡ accepted 2 (layout_in bytes)
