-- Once the lists and the entries of the terms still to come are stored too, all are: TermsLeft.
use Prim.Native.Nat.{◌-◌}
use lib.ListN.{length}
use Rattle.calls.specs.Given.{lists}
use Rattle.write_segment.proofs.Entries.{TermsLeft}
use Rattle.write_segment.proofs.write.put_terms.Given as goal

abbrev pub invariant-loop-walk : goal.invariant-loop-walk
invariant-loop-walk l =
    TermsLeft (lists l.ids l.lengths l.text l.ends l.posting_counts l.posting_ids l.position_counts l.positions) l.lists_at l.initial.out l.out l.walk l.list l.entry l.run

abbrev pub decreases-loop-walk : goal.decreases-loop-walk
decreases-loop-walk l =
    length l.ends - l.walk.term
