use native.Mathlib.Omega.{arith}
use lib.ListN.{length}
use Rattle.midi_bars.proofs.Ranges.{range_length}
use Rattle.midi_lists.proofs.Heard.{rising_step, rising_end}
use Rattle.midi_lists.proofs.Filled.{ids_start, filling_next, filling_end}
use Rattle.midi_lists.proofs.heads.put_ids.Goals as goal

pub loop-i-init : goal.loop-i-init
loop-i-init c = ids_start _

pub loop-i-preserved : goal.loop-i-preserved
loop-i-preserved c =
    filling_next c.loop-i.invariant (rising_step c.loop-i.i (length c.args.ids.now) c.loop-i.i (omega arith))

pub returns : goal.returns
returns c =
    filling_end c.loop-i.invariant (rising_end _ _ c.loop-i.i (omega arith)) (range_length 0 _)
