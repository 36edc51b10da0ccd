use Rattle.read_cursors.specs.Steps.{positions_from}
use Rattle.calls.proofs.Filling.{ToStore}
use Rattle.read_positions.proofs.postings.fill_positions.Given as goal

abbrev pub invariant-loop-c : goal.invariant-loop-c
invariant-loop-c l = ToStore (positions_from l.bytes l.initial.c) l.at l.initial.out (positions_from l.bytes l.c) l.i l.out

abbrev pub decreases-loop-c : goal.decreases-loop-c
decreases-loop-c l = l.c.remaining
