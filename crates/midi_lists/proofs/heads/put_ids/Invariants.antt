-- The ids from i on are left to be stored.
use Prim.Native.Nat.{◌-◌}
use lib.ListN.{length}
use Rattle.midi_bars.specs.Bars.{rising_from}
use Rattle.midi_lists.proofs.Filled.{Filling}
use Rattle.midi_lists.proofs.heads.put_ids.Given as goal

abbrev pub invariant-loop-i : goal.invariant-loop-i
invariant-loop-i l = Filling (rising_from 0 (length l.initial.ids)) l.initial.ids (rising_from l.i (length l.initial.ids - l.i)) l.i l.ids
