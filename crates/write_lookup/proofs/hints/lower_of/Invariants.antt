-- No more are lower than were compared.
use Prim.Native.Nat.{◌≤◌}
use Rattle.write_lookup.proofs.hints.lower_of.Given as goal

abbrev pub invariant-loop-x : goal.invariant-loop-x
invariant-loop-x l = l.lower ≤ l.x-index
