-- The lists so far are taken through the block.
use mathlib.Core.Path.{◌≡◌}
use lib.ListN.{length}
use Rattle.read_many.specs.Steps.{ListsWalked}
use Rattle.read_many.proofs.lists.walk_lists.Given as goal

abbrev pub invariant-loop-k : goal.invariant-loop-k
invariant-loop-k l = (length l.cursors ≡ 128) × ListsWalked l.bytes l.end l.table l.initial.cursors l.cursors
