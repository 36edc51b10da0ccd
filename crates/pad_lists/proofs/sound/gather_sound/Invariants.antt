-- The bars before i are done.
use Rattle.pad_lists.proofs.Gathering.{Gathering}
use Rattle.pad_lists.proofs.sound.gather_sound.Given as goal

abbrev pub invariant-loop-i : goal.invariant-loop-i
invariant-loop-i l =
    Gathering l.pad l.sound l.at l.i l.postings l.filled l.cursors l.posting_ids l.counts l.positions
