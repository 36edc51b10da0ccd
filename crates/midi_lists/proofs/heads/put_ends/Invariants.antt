-- The ends of the names not yet passed are left to be stored.
use lib.ListN.{length}
use Rattle.midi_lists.specs.Heads.{fours}
use Rattle.midi_lists.proofs.Filled.{Filling, fours_from}
use Rattle.midi_lists.proofs.heads.put_ends.Given as goal

abbrev pub invariant-loop-i : goal.invariant-loop-i
invariant-loop-i l = Filling (fours (length l.initial.ends)) l.initial.ends (fours_from (length l.initial.ends) l.i) l.i l.ends
