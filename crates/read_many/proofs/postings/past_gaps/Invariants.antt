-- The positions from here on are the rest of the posting's.
use Rattle.read_many.proofs.Passing.{Placing}
use Rattle.read_many.proofs.postings.past_gaps.Given as goal

abbrev pub invariant-loop-i : goal.invariant-loop-i
invariant-loop-i l = Placing l.list l.count l.len l.at l.next l.last l.i
