-- The writer accepts exactly where no refusal is named, with the room that the format gives.
-- Assumes nothing.
use Rattle.std.specs.Prelude.{Ok}
use mathlib.Core.Path.{◌≡◌}
use mathlib.Core.List.{List}
use mathlib.Core.Logic.{◌↔◌}
use Prim.Native.Nat.{ℕ}
use Rattle.calls.specs.Given.{Lists}
use Rattle.calls.specs.Writing.{write}
use Rattle.calls.specs.Acceptance as writer
use Rattle.calls.proofs.Accepts.{accepts_exactly}
use Rattle.claim_joint.specs.Demand.{NoRefusal}
use Rattle.calls.proofs.Sizes.{segment_length}

module _ (l : Lists) (room : ℕ) where
  refusals_agree : writer.Writable l room ↔ NoRefusal l room
  refusals_agree = (
    λ n. record { lists = n.lists; room_enough = rw segment_length at n.room_enough },
    λ n. record { lists = n.lists; room_enough = rw segment_length n.room_enough },
  )

  pub accepts : ((bytes : List ℕ) × (write l room ≡ Ok bytes)) ↔ NoRefusal l room
  accepts = (
    λ a. refusals_agree.0 ((accepts_exactly l room).0 a),
    λ n. (accepts_exactly l room).1 (refusals_agree.1 n),
  )
