use native.Mathlib.Omega.{arith}
use Rattle.common.proofs.Stores.{storing_start, storing_next, storing_end}
use Rattle.read_cursors.specs.Steps.{positions_from}
use Rattle.show_steps.proofs.Marks.{mark_drawn, marks_length, marks_step, onward_start, onward_next}
use Rattle.show_steps.proofs.line.put_steps.Goals as goal

pub loop-step-init : goal.loop-step-init
loop-step-init c = (storing_start _ _ _, onward_start _)

pub loop-step-preserved : goal.loop-step-preserved
loop-step-preserved c =
    let l = c.loop-step in
    let a = c.args in
    let bytes = a.bytes.now in
    let hits = positions_from bytes a.hits in (
      storing_next l.invariant.0
          (mark_drawn bytes a.hits l.c a.len l.step l.invariant.1 c.step_mark.ensures)
          (marks_step a.len hits 64 l.step (omega arith)),
      onward_next l.step hits l.invariant.1 c.seek-c.ensures,
    )

pub returns : goal.returns
returns c =
    let a = c.args in
    let size = marks_length a.len (positions_from a.bytes.now a.hits) 64 0 in
    storing_end c.loop-step.invariant.0 (omega (arith, size)) (omega (arith, size))
