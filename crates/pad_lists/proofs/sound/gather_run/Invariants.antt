-- The steps of the run that are still to come are left to be stored.
use Prim.Native.Nat.{◌+◌, ◌-◌, ◌*◌}
use lib.ListN.{drop}
use Rattle.calls.proofs.Filling.{ToStore}
use Rattle.pad_words.specs.Words.{hits_of}
use Rattle.pad_lists.specs.Steps.{leading}
use Rattle.pad_lists.proofs.sound.gather_run.Given as goal

abbrev pub invariant-loop-taken : goal.invariant-loop-taken
invariant-loop-taken l =
    ToStore (leading l.sound (hits_of l.remaining (drop l.from l.pad))) l.filled l.initial.positions
    (leading l.sound (hits_of (l.remaining - l.taken) (drop (l.from + 2 * l.taken) l.pad))) (l.filled + l.taken) l.positions
