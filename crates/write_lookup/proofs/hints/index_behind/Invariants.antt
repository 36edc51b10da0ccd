-- Each step is at least 1.
use Prim.Native.Nat.{◌-◌, ◌≤◌}
use lib.ListN.{length}
use Rattle.write_lookup.proofs.hints.index_behind.Given as goal

abbrev pub invariant-loop-low : goal.invariant-loop-low
invariant-loop-low l = 1 ≤ l.step

abbrev pub decreases-loop-low : goal.decreases-loop-low
decreases-loop-low l = length l.ids - l.low
