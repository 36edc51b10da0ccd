use Rattle.std.specs.Prelude.{None}
use lib.ListN.{drop}
use Rattle.read_cursors.specs.Held.{held_postings}
use Rattle.read_cursors.specs.Steps.{postings_from}
use Rattle.read_positions.specs.Steps.{all_positions}
use Rattle.calls.proofs.Filling.{ToStore}
use Rattle.read_terms.proofs.Turns.{spot_docs}
use Rattle.read_positions.proofs.Turns.{spot_counts}
use Rattle.read_positions.proofs.postings.fill_postings.Given as goal

abbrev pub invariant-loop-c : goal.invariant-loop-c
invariant-loop-c l =
    let all = held_postings l.df None (drop l.at l.bytes) in
    let left = postings_from l.bytes l.c in
    ToStore (spot_docs all) 0 l.initial.ids (spot_docs left) l.i l.ids
    × ToStore (spot_counts all) 0 l.initial.counts (spot_counts left) l.i l.counts
    × ToStore (all_positions all) 0 l.initial.positions (all_positions left) l.next l.positions

abbrev pub decreases-loop-c : goal.decreases-loop-c
decreases-loop-c l = l.c.remaining
