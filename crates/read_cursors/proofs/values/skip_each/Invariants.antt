-- What is still to be skipped from the reader on ends where all of it ends.
use mathlib.Core.Path.{◌≡◌}
use Prim.Native.Nat.{◌-◌}
use lib.ListN.{drop}
use Rattle.read_cursors.specs.Held.{skipped}
use Rattle.read_cursors.proofs.values.skip_each.Given as goal

abbrev pub invariant-loop : goal.invariant-loop
invariant-loop l = skipped (l.count - l.counter) (drop l.reader.at l.list) ≡ skipped l.count (drop l.initial.reader.at l.list)
