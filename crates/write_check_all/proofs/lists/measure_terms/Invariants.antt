-- What is left to check, behind the name before, answers as the whole does; what was counted and the length of the lists of the terms
-- still to come are the length of all; the slices lie in the lists.
use Rattle.std.specs.Prelude.{None, option_map}
use mathlib.Core.Path.{◌≡◌}
use Prim.Native.Nat.{◌+◌, ◌-◌, ◌≤◌}
use lib.ListN.{length}
use Rattle.segment.specs.Metadata.{document}
use Rattle.segment.specs.Steps.{checked}
use Rattle.segment.specs.Written.{lists_bytes}
use Rattle.calls.specs.Given.{lists}
use Rattle.common.specs.Lists.{paired}
use Rattle.calls.specs.Checks.{check_terms}
use Rattle.write_check_all.specs.Steps.{terms_from, start_walk}
use Rattle.write_check_all.proofs.Walking.{WalkFits}
use Rattle.write_check_all.proofs.lists.measure_terms.Given as goal

abbrev pub invariant-loop-walk : goal.invariant-loop-walk
invariant-loop-walk live =
    let l = lists live.ids live.lengths live.text live.ends live.posting_counts live.posting_ids live.position_counts live.positions in
    WalkFits live.walk l
    × (checked (check_terms (paired document live.ids live.lengths) (option_map (λ p. p.now) live.previous) (terms_from live.walk l))
    ≡ checked (check_terms (paired document live.ids live.lengths) None (terms_from start_walk l)))
    × (live.size + length (lists_bytes (terms_from live.walk l)) ≡ length (lists_bytes (terms_from start_walk l)))
    × (length (lists_bytes (terms_from start_walk l)) ≤ 251658240)

abbrev pub decreases-loop-walk : goal.decreases-loop-walk
decreases-loop-walk l =
    length l.ends - l.walk.term
