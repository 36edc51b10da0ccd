use Prim.Native.Nat.{◌<◌}
use native.Mathlib.Omega.{arith}
use Rattle.ask_names.proofs.SlotsHold.{slot_inside}
use Rattle.ask_names.proofs.slots.Names.take.Goals as goal
use Rattle.ask_names.proofs.slots.Names.take.Goals.{After-slot_of-k}

-- the number found
inside : (c : After-slot_of-k) → c.slot_of-k.result < 128
inside c = rw c.slot_of-k.ensures (slot_inside c.args.self.now c.requires c.in-Some.list)

pub offset_bounds-self-k : goal.offset_bounds-self-k
offset_bounds-self-k c = omega (arith, inside (goal.at.offset_bounds-self-k c).After-slot_of-k)

pub bounds-self-k : goal.bounds-self-k
bounds-self-k c = inside (goal.at.bounds-self-k c).After-slot_of-k

pub bounds-self-k-in-Some : goal.bounds-self-k-in-Some
bounds-self-k-in-Some c = inside (goal.at.bounds-self-k-in-Some c).After-slot_of-k
