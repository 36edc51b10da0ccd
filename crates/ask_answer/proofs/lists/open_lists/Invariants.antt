use mathlib.Core.Path.{◌≡◌}
use lib.ListN.{length}
use Rattle.ask_walk.specs.Steps.{cursors_in}
use Rattle.ask_answer.specs.Steps.{Heads}
use Rattle.ask_answer.proofs.lists.open_lists.Given as goal

abbrev pub invariant-loop-k : goal.invariant-loop-k
invariant-loop-k l = (length l.lists ≡ 128) × Heads l.bytes l.k l.names.list (cursors_in l.lists)
