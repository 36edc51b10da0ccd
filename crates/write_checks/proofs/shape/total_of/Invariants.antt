-- What is summed and what is left add up to the whole.
use mathlib.Core.Path.{◌≡◌}
use Prim.Native.Nat.{◌+◌, ◌*◌, ◌≤◌}
use lib.ListN.{drop}
use Rattle.common.specs.Lists.{total}
use Rattle.write_checks.proofs.shape.total_of.Given as goal

abbrev pub invariant-loop-count : goal.invariant-loop-count
invariant-loop-count l =
    (l.sum ≤ 4294967295 * l.count-index) × (l.sum + total (drop l.count-index l.counts) ≡ total l.counts)
