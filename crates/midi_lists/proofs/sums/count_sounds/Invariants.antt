-- The sounds so far and those from the note on are all.
use mathlib.Core.Path.{◌≡◌}
use Prim.Native.Nat.{◌+◌}
use lib.ListN.{length}
use Rattle.midi_lists.specs.Heads.{heard}
use Rattle.midi_lists.proofs.Heard.{heard_from}
use Rattle.midi_lists.proofs.sums.count_sounds.Given as goal

abbrev pub invariant-loop-count : goal.invariant-loop-count
invariant-loop-count l = (l.sounds + length (heard_from l.postings l.count-index) ≡ length (heard l.postings))
