-- What is left to check, behind the position before, answers as the whole does; what was counted and the length of the bytes still to come
-- are the length of all.
use Rattle.std.specs.Prelude.{None, option_map}
use mathlib.Core.Path.{◌≡◌}
use Prim.Native.Nat.{◌+◌, ◌*◌, ◌≤◌}
use lib.ListN.{length, drop}
use Rattle.segment.specs.Steps.{checked}
use Rattle.segment.specs.Written.{position_bytes}
use Rattle.calls.specs.Checks.{check_positions}
use Rattle.write_checks.proofs.measure.measure_positions.Given as goal

abbrev pub invariant-loop-position : goal.invariant-loop-position
invariant-loop-position l =
    let previous = option_map (λ p. p.0) l.previous in
    (checked (check_positions l.len previous (drop l.position-index l.positions)) ≡ checked (check_positions l.len None l.positions))
    × (l.size + length (position_bytes previous (drop l.position-index l.positions)) ≡ length (position_bytes None l.positions))
    × (length (position_bytes None l.positions) ≤ 5 * length l.positions)
