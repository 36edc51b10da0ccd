-- The lists so far are entered.
use mathlib.Core.Path.{◌≡◌}
use lib.ListN.{length}
use Rattle.read_many.specs.Steps.{Entered}
use Rattle.read_many.proofs.lists.enter_lists.Given as goal

abbrev pub invariant-loop-k : goal.invariant-loop-k
invariant-loop-k l = (length l.cursors ≡ 128) × Entered l.bytes l.k l.start l.end l.df l.cursors
