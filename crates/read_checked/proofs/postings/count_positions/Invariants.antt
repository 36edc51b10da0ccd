use Rattle.std.specs.Prelude.{None}
use mathlib.Core.Path.{◌≡◌}
use Prim.Native.Nat.{◌+◌, ◌*◌, ◌≤◌}
use lib.ListN.{drop}
use Rattle.read_cursors.specs.Held.{held_postings}
use Rattle.read_cursors.specs.Steps.{postings_from}
use Rattle.read_checked.specs.Steps.{counts_in}
use Rattle.read_checked.proofs.postings.count_positions.Given as goal

abbrev pub invariant-loop-c : goal.invariant-loop-c
invariant-loop-c l =
    (l.total + counts_in (postings_from l.bytes l.c) ≡ counts_in (held_postings l.df None (drop l.at l.bytes)))
    × (l.total + l.c.remaining * 4294967295 ≤ 18446744065119617025)

abbrev pub decreases-loop-c : goal.decreases-loop-c
decreases-loop-c l = l.c.remaining
