-- What is claimed of a document's own positions; proved in proofs/Owned.antt.
use Rattle.std.specs.Prelude.{ℕ, List, ◌↔◌}
use Rattle.common.specs.Elements.{◌∈◌}
use Rattle.calls.specs.Given.{Lists}
use Rattle.claim_joint.specs.Own.{own, Stands}

-- a position is own exactly when some list under that name and id holds it
abbrev pub OwnExactly : Type 0
OwnExactly = (l : Lists) (doc : ℕ) (name : List ℕ) (p : ℕ) → (p ∈ own l doc name) ↔ Stands l doc name p
