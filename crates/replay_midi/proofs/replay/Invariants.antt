use Rattle.std.proofs.Common.{◌-◌}
use Rattle.replay_midi.proofs.replay.Given as goal

abbrev pub decreases-loop-i : goal.decreases-loop-i
decreases-loop-i g l = l.initial.cases - l.i
