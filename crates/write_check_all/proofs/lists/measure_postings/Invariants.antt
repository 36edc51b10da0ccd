-- What is left to check, behind the posting before, answers as the whole does; what was counted and the length of the bytes still to come
-- are the length of all. The next gap is taken from the base.
use Rattle.std.specs.Prelude.{None, Some, option_map}
use mathlib.Core.Path.{◌≡◌}
use Prim.Native.Nat.{◌+◌, ◌*◌, ◌≤◌}
use lib.ListN.{length, drop}
use Rattle.segment.specs.Metadata.{document}
use Rattle.segment.specs.Steps.{checked}
use Rattle.segment.specs.Written.{postings_bytes}
use Rattle.common.specs.Lists.{paired, total}
use Rattle.calls.specs.Checks.{check_postings}
use Rattle.calls.specs.Given.{postings_in}
use Rattle.write_check_all.proofs.Left.{postings_left}
use Rattle.write_check_all.proofs.lists.measure_postings.Given as goal

abbrev pub invariant-loop-i : goal.invariant-loop-i
invariant-loop-i l =
    let previous = option_map (λ d. d.0) l.previous in
    (l.at + total (drop l.i l.counts) ≤ length l.positions)
    × (checked (check_postings (paired document l.ids l.lengths) previous
    (postings_in (drop l.i l.posting_ids) (drop l.i l.counts) (drop l.at l.positions)))
    ≡ checked (check_postings (paired document l.ids l.lengths) None (postings_in l.posting_ids l.counts l.positions)))
    × (l.size + length (postings_left l.posting_ids l.counts l.positions (Some l.base.0) l.at l.i)
    ≡ length (postings_bytes None (postings_in l.posting_ids l.counts l.positions)))
    × (length (postings_bytes None (postings_in l.posting_ids l.counts l.positions)) ≤ 10 * length l.counts + 5 * length l.positions)
