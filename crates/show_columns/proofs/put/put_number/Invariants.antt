use mathlib.Core.Path.{◌≡◌}
use lib.Seq.{sets}
use Rattle.show_columns.proofs.Columns.{front}
use Rattle.show_columns.proofs.put.put_number.Given as goal

abbrev pub invariant-loop-i : goal.invariant-loop-i
invariant-loop-i l = sets l.out l.at (front l.i l.rest) ≡ sets l.initial.out l.at (front 9 l.initial.rest)
