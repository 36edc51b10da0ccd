-- What is left to check, behind the id before, answers as the whole does.
use Rattle.std.specs.Prelude.{None, Some}
use mathlib.Core.Path.{◌≡◌}
use lib.ListN.{drop}
use Rattle.segment.specs.Steps.{checked}
use Rattle.length_lookup.specs.Lookup.{check_ids}
use Rattle.length_lookup.proofs.check.check_rising.Given as goal

abbrev pub invariant-loop-i : goal.invariant-loop-i
invariant-loop-i l = checked (check_ids l.i (Some l.before) (drop l.i l.ids)) ≡ checked (check_ids 0 None l.ids)
