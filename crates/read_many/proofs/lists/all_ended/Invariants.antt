-- The lists so far have ended.
use Rattle.read_many.specs.Steps.{Ended}
use Rattle.read_many.proofs.lists.all_ended.Given as goal

abbrev pub invariant-loop-k : goal.invariant-loop-k
invariant-loop-k l = Ended l.k l.end l.cursors
