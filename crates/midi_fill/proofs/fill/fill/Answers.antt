use Rattle.std.specs.Prelude.{Ok}
use mathlib.Core.Path.{◌≡◌, sym, ap, ◌∙◌}
use native.Mathlib.Omega.{arith}
use Rattle.midi_read.specs.declared.track.Step.TheVariants.{Sounds, Silent}
use Rattle.midi_read.specs.Files.{read_event}
use Rattle.midi_read.proofs.Walks.{past_hit, past_silent}
use Rattle.midi_fill.proofs.Filling.{standing_start, standing_silent, standing_put, puttable, filled_far, filled_end, filled_refused}
use Rattle.midi_fill.proofs.fill.fill.Goals as goal
use Rattle.midi_fill.proofs.fill.fill.Goals.{In-Sounds, At-loop-event, In-Silent}

a-hit : (c : In-Sounds) →
    read_event c.args.s.now c.loop-event.reader ≡ Ok (Sounds c.in-Sounds.h c.in-Sounds.next)
a-hit c = sym c.step.ensures ∙ c.in-Ok.is ∙ ap Ok c.in-Sounds.is

a-silent : (c : In-Silent) → read_event c.args.s.now c.loop-event.reader ≡ Ok (Silent c.in-Silent.next)
a-silent c = sym c.step.ensures ∙ c.in-Ok.is ∙ ap Ok c.in-Silent.is

pub loop-event-init : goal.loop-event-init
loop-event-init c = standing_start _ _ _ _ _ _ c.requires

pub returns-then-bar-gt65535 : goal.returns-then-bar-gt65535
returns-then-bar-gt65535 c = filled_far _ _ _ _ _ _ _ c.loop-event.invariant (a-hit (goal.at.returns-then-bar-gt65535 c).In-Sounds) c.if-bar-gt65535.true

pub overflow_cast-velocity : goal.overflow_cast-velocity
overflow_cast-velocity c =
    let heard = (past_hit c.args.s.now c.loop-event.reader (a-hit (goal.at.overflow_cast-velocity c).In-Sounds)).2 in
    omega (arith, heard.velocity)

pub put_hit-requires : goal.put_hit-requires
put_hit-requires c =
    puttable _ _ _ _ _ _ _ c.loop-event.invariant (a-hit (goal.at.put_hit-requires c).In-Sounds) c.if-bar-gt65535.false c.requires.some_steps c.requires.steps_few

pub loop-event-smaller-in-Sounds : goal.loop-event-smaller-in-Sounds
loop-event-smaller-in-Sounds c =
    let m = (past_hit c.args.s.now c.loop-event.reader (a-hit (goal.at.loop-event-smaller-in-Sounds c).In-Sounds)).0 in
    omega (arith, m.on, m.inside)

pub loop-event-preserved-in-Sounds : goal.loop-event-preserved-in-Sounds
loop-event-preserved-in-Sounds c =
    standing_put _ _ _ _ _ _ _ c.loop-event.invariant (a-hit (goal.at.loop-event-preserved-in-Sounds c).In-Sounds) c.if-bar-gt65535.false _ c.put_hit.ensures

pub loop-event-smaller : goal.loop-event-smaller
loop-event-smaller c =
    let m = past_silent c.args.s.now c.loop-event.reader (a-silent c) in
    omega (arith, m.on, m.inside)

pub loop-event-preserved : goal.loop-event-preserved
loop-event-preserved c = standing_silent _ _ _ _ _ _ _ c.loop-event.invariant (a-silent c)

pub returns-in-Ends : goal.returns-in-Ends
returns-in-Ends c =
    filled_end _ _ _ _ _ _ _ c.loop-event.invariant (sym c.step.ensures ∙ c.in-Ok.is ∙ ap Ok c.in-Ends.is)

pub returns-in_default : goal.returns-in_default
returns-in_default c =
    filled_refused _ _ _ _ _ _ _ c.loop-event.invariant (sym c.step.ensures ∙ c.in_default.is)
