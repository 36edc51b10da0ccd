use native.Mathlib.Omega.{arith}
use Rattle.midi_lists.proofs.Heard.{fours_length}
use Rattle.midi_lists.proofs.Filled.{fours_start, fours_step, fours_end, filling_next, filling_end}
use Rattle.midi_lists.proofs.heads.put_ends.Goals as goal

pub loop-i-init : goal.loop-i-init
loop-i-init c = fours_start _

pub loop-i-preserved : goal.loop-i-preserved
loop-i-preserved c =
    filling_next c.loop-i.invariant (fours_step _ c.loop-i.i (omega arith))

pub returns : goal.returns
returns c =
    filling_end c.loop-i.invariant (fours_end _ c.loop-i.i (omega arith)) (fours_length _)
