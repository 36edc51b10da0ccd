-- What is left passes exactly as all do.
use Rattle.std.specs.Prelude.{None}
use mathlib.Core.Path.{◌≡◌}
use lib.ListN.{drop}
use Rattle.pad_map.specs.Rules.{hits_rise}
use Rattle.pad_rules.proofs.lists.is_rising.Given as goal

abbrev pub invariant-loop-i : goal.invariant-loop-i
invariant-loop-i l = hits_rise l.previous (drop l.i l.sounds) (drop l.i l.steps) ≡ hits_rise None l.sounds l.steps
