-- The table stays true, and the cursor a mark.
use Rattle.read_many.proofs.Entries.{Filling}
use Rattle.read_many.proofs.lengths.fill_block.Given as goal

abbrev pub invariant-loop-c : goal.invariant-loop-c
invariant-loop-c l = Filling l.meta l.initial.c l.c l.initial.table l.table

abbrev pub decreases-loop-c : goal.decreases-loop-c
decreases-loop-c l = l.c.remaining
