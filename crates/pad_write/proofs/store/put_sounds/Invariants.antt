-- Once the terms of the sounds still to come are stored too, all are: StoresLeft.
use Rattle.pad_words.specs.Words.{held}
use Rattle.pad_lists.specs.Steps.{Cursors, Places}
use Rattle.pad_write.proofs.Storing.{StoresLeft}
use Rattle.pad_write.proofs.store.put_sounds.Given as goal

abbrev pub invariant-loop-sound : goal.invariant-loop-sound
invariant-loop-sound l =
    StoresLeft (held l.pad) l.text l.ends l.names_at l.lists_at l.initial.out l.out l.sound l.at
    × Cursors l.sound (held l.pad) l.cursors
    × Places l.cursors l.posting_ids l.counts l.positions
