use mathlib.Core.Path.{sym, ◌∙◌}
use native.Mathlib.Omega.{arith}
use Rattle.midi_lists.proofs.Filled.{summing_start, summing_next, summing_end}
use Rattle.midi_lists.proofs.sums.begin.Goals as goal

pub loop-note-init : goal.loop-note-init
loop-note-init c = summing_start _ _ (c.requires.table_long ∙ sym c.requires.starts_long)

pub overflow_add-at : goal.overflow_add-at
overflow_add-at c =
    omega (arith, c.loop-note.invariant.low, c.requires.low.holds c.loop-note.note)

pub loop-note-preserved : goal.loop-note-preserved
loop-note-preserved c =
    summing_next c.loop-note.invariant (omega (arith, c.requires.table_long)) c.requires.low

pub returns : goal.returns
returns c =
    let p = c.requires in
    summing_end c.loop-note.invariant (omega (arith, p.table_long)) (p.table_long ∙ sym p.starts_long)
