-- The loop's invariant: with the lines that are left, the bytes are those of all lines.
use mathlib.Core.Path.{◌≡◌}
use Prim.Native.Nat.{◌+◌, ◌-◌, ◌*◌, ◌≤◌}
use lib.ListN.{length}
use Rattle.show_listing.specs.Steps.{entry_lines_at}
use Rattle.show_listing.proofs.list.entries_len.Given as goal

abbrev pub invariant-loop-i : goal.invariant-loop-i
invariant-loop-i l =
    (l.size ≤ 75 * l.i)
    × (l.size + length (entry_lines_at l.dir l.names (l.terms - l.i) l.i) ≡ length (entry_lines_at l.dir l.names l.terms 0))
