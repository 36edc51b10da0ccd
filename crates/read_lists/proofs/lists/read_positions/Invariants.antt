use Rattle.std.specs.Prelude.{None}
use Prim.Native.Nat.{◌+◌, ◌-◌, ◌≤◌}
use mathlib.Core.Path.{◌≡◌}
use lib.ListN.{drop}
use Rattle.segment.specs.Postings.{read_positions}
use Rattle.read_lists.specs.Steps.{after}
use Rattle.read_lists.proofs.lists.read_positions.Given as goal

abbrev pub invariant-loop-i : goal.invariant-loop-i
invariant-loop-i l =
    (l.initial.reader.at + l.i ≤ l.reader.at)
    × (after (read_positions (l.count - l.i) (l.place + l.i) l.len l.previous (drop l.reader.at l.list))
    ≡ after (read_positions l.count l.place l.len None (drop l.initial.reader.at l.list)))
