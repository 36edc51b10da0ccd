use mathlib.Core.Path.{◌≡◌}
use Rattle.common.proofs.Stores.{Storing}
use Rattle.read_cursors.specs.Steps.{positions_from}
use Rattle.calls.specs.Sheet.{marks}
use Rattle.show_steps.proofs.Marks.{onward}
use Rattle.show_steps.proofs.line.put_steps.Given as goal

abbrev pub invariant-loop-step : goal.invariant-loop-step
invariant-loop-step l =
    Storing (marks l.len (positions_from l.bytes l.initial.c) 64 0) l.at l.initial.out l.step l.out
    × (positions_from l.bytes l.c ≡ onward l.step (positions_from l.bytes l.initial.c))
