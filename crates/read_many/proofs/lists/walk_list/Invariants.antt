-- Each turn takes the list further.
use Rattle.read_many.specs.Steps.{Walked}
use Rattle.read_many.proofs.lists.walk_list.Given as goal

abbrev pub invariant-loop-c : goal.invariant-loop-c
invariant-loop-c l = Walked l.list l.table l.initial.c l.c

abbrev pub decreases-loop-c : goal.decreases-loop-c
decreases-loop-c l = l.c.remaining
