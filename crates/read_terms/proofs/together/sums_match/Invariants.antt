-- The checksums of the lists so far match.
use Prim.Native.Nat.{ℕ, ◌<◌}
use lib.ListN.{get_or}
use Rattle.read_terms.specs.Together.{no_list, SumMatches}
use Rattle.read_terms.proofs.together.sums_match.Given as goal

abbrev pub invariant-loop-list : goal.invariant-loop-list
invariant-loop-list l = (k : ℕ) → k < l.list-index → SumMatches l.bytes (get_or l.lists k no_list)
