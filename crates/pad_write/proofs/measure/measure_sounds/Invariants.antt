-- What is measured and the terms of the sounds still to come make the whole: TallyLeft.
use Rattle.common.specs.Lists.{paired}
use Rattle.segment.specs.Metadata.{document}
use Rattle.pad_words.specs.Words.{held}
use Rattle.pad_lists.specs.Steps.{Cursors, Places}
use Rattle.pad_write.proofs.Tallying.{TallyLeft}
use Rattle.pad_write.proofs.measure.measure_sounds.Given as goal

abbrev pub invariant-loop-sound : goal.invariant-loop-sound
invariant-loop-sound l =
    TallyLeft (paired document l.ids l.lengths) (held l.pad) l.text l.ends l.sound l.tally
    × Cursors l.sound (held l.pad) l.cursors
    × Places l.cursors l.posting_ids l.counts l.positions
