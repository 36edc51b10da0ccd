use Prim.Native.Nat.{◌<◌}
use lib.ListN.{length}
use Rattle.ask_names.proofs.lead.rarest.Given as goal

abbrev pub invariant-loop-k : goal.invariant-loop-k
invariant-loop-k l = l.least < length l.lists
