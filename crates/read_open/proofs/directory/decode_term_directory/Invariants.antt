use mathlib.Core.Path.{◌≡◌}
use Prim.Native.Nat.{◌-◌, ◌*◌}
use lib.ListN.{length, drop}
use Rattle.segment.specs.Directory.{read_entries, directory}
use Rattle.segment.specs.Steps.{checked}
use Rattle.read_open.specs.Steps.{LiesBefore, name_before}
use Rattle.read_open.proofs.directory.decode_term_directory.Given as goal

abbrev pub invariant-loop-i : goal.invariant-loop-i
invariant-loop-i l =
    (length l.dir ≡ l.terms * 32)
    × LiesBefore l.previous l.names
    × (checked (read_entries (l.terms - l.i) (name_before l.names l.previous) (drop (l.i * 32) l.dir) l.names l.lists)
    ≡ checked (directory l.count l.dir l.names l.lists))
