use mathlib.Core.Path.{◌≡◌}
use Prim.Native.Nat.{◌+◌, ◌-◌}
use lib.ListN.{length}
use lib.Seq.{sets}
use Rattle.show_listing.specs.Steps.{entry_lines_at}
use Rattle.show_listing.proofs.list.put_entries.Given as goal

abbrev pub invariant-loop-i : goal.invariant-loop-i
invariant-loop-i l =
    (l.next + length (entry_lines_at l.dir l.names (l.terms - l.i) l.i) ≡ l.at + length (entry_lines_at l.dir l.names l.terms 0))
    × (length l.out ≡ length l.initial.out)
    × (sets l.out l.next (entry_lines_at l.dir l.names (l.terms - l.i) l.i)
    ≡ sets l.initial.out l.at (entry_lines_at l.dir l.names l.terms 0))
