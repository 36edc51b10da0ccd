use Rattle.std.specs.Prelude.{Err, Ok}
use mathlib.Core.Path.{◌≡◌, refl, sym, ap, ◌∙◌}
use native.Mathlib.Omega.{arith}
use Rattle.std.proofs.lemmas.Grind.{common_steps}
use Rattle.midi_read.specs.declared.track.Step.TheVariants.{Sounds, Silent, Ends}
use Rattle.midi_read.specs.Files.{grid, read_event}
use Rattle.midi_read.specs.Walks.{walk}
use Rattle.midi_read.proofs.Walks.{past_hit, past_silent, walk_hit, walk_far, walk_silent, walk_end, walk_open, walk_refused}
use Rattle.midi_count.specs.Tallies.{Tallies, tally}
use Rattle.midi_count.proofs.Tallying.{up_to, postings_low, positions_low, noted_state, near_step, stops, finishes, max_greater}
use Rattle.midi_count.proofs.count.count.Goals as goal
use Rattle.midi_count.proofs.count.count.Goals.{In-Sounds, At-loop-h, In-Ends, In-Silent}

a-hit : (c : In-Sounds) → read_event c.args.s.now c.loop-h.reader ≡ Ok (Sounds c.in-Sounds.h c.in-Sounds.next)
a-hit c = sym c.in_ok-h.ensures ∙ ap Ok c.in-Sounds.is

a-silent : (c : In-Silent) → read_event c.args.s.now c.loop-h.reader ≡ Ok (Silent c.in-Silent.next)
a-silent c = sym c.in_ok-h.ensures ∙ ap Ok c.in-Silent.is

an-end : (c : In-Ends) → read_event c.args.s.now c.loop-h.reader ≡ Ok (Ends c.in-Ends.past)
an-end c = sym c.in_ok-h.ensures ∙ ap Ok c.in-Ends.is

pub loop-h-init : goal.loop-h-init
loop-h-init c =
    let p = c.requires in (
      record { small = p.small; inside = p.headed; tick = omega arith },
      up_to 22 p.no_postings (omega arith),
      up_to 22 p.no_positions (omega arith),
      refl,
    )

pub step-requires : goal.step-requires
step-requires c = c.loop-h.invariant.0

pub returns-then-bar-gt65535 : goal.returns-then-bar-gt65535
returns-then-bar-gt65535 c =
    stops (grid c.args.ticks c.args.steps) c.args.s.now _ _ _ _ _ _
    (walk_far _ _ c.args.s.now c.loop-h.reader _ c.loop-h.invariant.3 (a-hit (goal.at.returns-then-bar-gt65535 c).In-Sounds) c.if-bar-gt65535.true)

pub note_hit-requires : goal.note_hit-requires
note_hit-requires c =
    let (m, t, a) = past_hit c.args.s.now c.loop-h.reader (a-hit (goal.at.note_hit-requires c).In-Sounds) in
    let p = c.requires in
    let w = c.loop-h.invariant.0 in
    record {
      known = a.note;
      in_bar = record {
        near = near_step _ _ p.some_steps p.steps_few (omega arith);
        some_steps = p.some_steps;
        steps_few = p.steps_few;
        bar_is = refl;
      };
      postings_low = up_to _ c.loop-h.invariant.1 (omega (arith, w.inside, w.small));
      positions_low = up_to _ c.loop-h.invariant.2 (omega (arith, w.inside, w.small));
    }

pub loop-h-smaller-in-Sounds : goal.loop-h-smaller-in-Sounds
loop-h-smaller-in-Sounds c =
    let (m, t, a) = past_hit c.args.s.now c.loop-h.reader (a-hit (goal.at.loop-h-smaller-in-Sounds c).In-Sounds) in
    omega (arith, m.on, m.inside)

pub loop-h-preserved-in-Sounds : goal.loop-h-preserved-in-Sounds
loop-h-preserved-in-Sounds c =
    let (m, t, a) = past_hit c.args.s.now c.loop-h.reader (a-hit (goal.at.loop-h-preserved-in-Sounds c).In-Sounds) in
    let w = c.loop-h.invariant.0 in
    let g = grid c.args.ticks c.args.steps in
    let noted = c.note_hit.ensures in (
      record { small = w.small; inside = m.inside; tick = omega (arith, m.on, m.rises, w.tick) },
      postings_low noted _ (omega (arith, m.on)) c.loop-h.invariant.1,
      positions_low noted _ (omega (arith, m.on)) c.loop-h.invariant.2,
      ap (λ (t : Tallies). walk (tally g) g c.args.s.now c.in-Sounds.next t) (noted_state g c.in-Sounds.h c.loop-h.bars noted (c.max-bars.ensures ∙ max_greater _ _))
          ∙ walk_hit (tally g) g c.args.s.now c.loop-h.reader _ c.loop-h.invariant.3 (a-hit (goal.at.loop-h-preserved-in-Sounds c).In-Sounds) (omega arith),
    )

pub loop-h-smaller : goal.loop-h-smaller
loop-h-smaller c =
    omega (arith, (past_silent c.args.s.now c.loop-h.reader (a-silent c)).on, (past_silent c.args.s.now c.loop-h.reader (a-silent c)).inside)

pub loop-h-preserved : goal.loop-h-preserved
loop-h-preserved c =
    let m = past_silent c.args.s.now c.loop-h.reader (a-silent c) in
    let w = c.loop-h.invariant.0 in (
      record { small = w.small; inside = m.inside; tick = omega (arith, m.on, m.rises, w.tick) },
      up_to _ c.loop-h.invariant.1 (omega (arith, m.on)),
      up_to _ c.loop-h.invariant.2 (omega (arith, m.on)),
      walk_silent _ _ c.args.s.now c.loop-h.reader _ c.loop-h.invariant.3 (a-silent c),
    )

pub returns-then-past-s : goal.returns-then-past-s
returns-then-past-s c =
    finishes (grid c.args.ticks c.args.steps) c.args.s.now _ _ _ _ _ _ _
    (walk_end _ _ c.args.s.now c.loop-h.reader _ c.loop-h.invariant.3 (an-end (goal.at.returns-then-past-s c).In-Ends) c.if-past-s.true)

pub returns-in-Ends : goal.returns-in-Ends
returns-in-Ends c =
    stops (grid c.args.ticks c.args.steps) c.args.s.now _ _ _ _ _ _
    (walk_open _ _ c.args.s.now c.loop-h.reader _ c.loop-h.invariant.3 (an-end (goal.at.returns-in-Ends c).In-Ends) c.if-past-s.false)

pub returns-in_err-h : goal.returns-in_err-h
returns-in_err-h c =
    let refused : c.from_residual.result ≡ Err c.in_err-h.field-0.0 = grind (arith, common_steps) in
    rw refused
    (stops (grid c.args.ticks c.args.steps) c.args.s.now _ _ _ _ _ _
    (walk_refused _ _ c.args.s.now c.loop-h.reader _ c.loop-h.invariant.3 (sym c.in_err-h.ensures)))
