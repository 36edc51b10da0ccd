-- The sum so far and that of the rest are the whole; the starts of the rest are left to be stored.
use Rattle.midi_lists.proofs.Filled.{Summing}
use Rattle.midi_lists.proofs.sums.begin.Given as goal

abbrev pub invariant-loop-note : goal.invariant-loop-note
invariant-loop-note l = Summing l.table l.initial.starts l.at l.note l.starts
