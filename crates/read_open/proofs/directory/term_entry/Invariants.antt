use Prim.Native.Nat.{◌-◌, ◌≤◌}
use Rattle.read_open.specs.Steps.{Sorted}
use Rattle.read_open.proofs.Lookup.{AllBefore, AllAfter}
use Rattle.read_open.proofs.directory.term_entry.Given as goal

abbrev pub invariant-loop-low : goal.invariant-loop-low
invariant-loop-low l =
    (l.high ≤ l.count) × (Sorted l.dir l.names l.count → AllBefore l.dir l.names l.name l.low × AllAfter l.dir l.names l.name l.count l.high)

abbrev pub decreases-loop-low : goal.decreases-loop-low
decreases-loop-low l = l.high - l.low
