-- Each refusal in its place.
use mathlib.Core.Path.{sym, ap, ◌∙◌}
use native.Mathlib.Omega.{arith}
use Rattle.segment.specs.Steps.{checked}
use Rattle.pad_map.specs.Claims.{SideBySide}
use Rattle.pad_rules.proofs.Listing.{too_many, uneven, sound_high, velocity_out, order_wrong, step_past, all_passed}
use Rattle.pad_rules.proofs.lists.check_hits_of.Goals as goal
use Rattle.pad_rules.proofs.lists.check_hits_of.Goals.{Else-sounds-velocities}

-- past the tests of lengths
shaped : (c : Else-sounds-velocities) → let a = c.args in
    SideBySide a.sounds.now a.steps.now a.velocities.now
shaped c = record {
  small = omega arith;
  as_many_steps = c.if-sounds-steps.false;
  as_many_velocities = c.if-sounds-velocities.false;
}

pub returns-then-max-gt-LIMIT : goal.returns-then-max-gt-LIMIT
returns-then-max-gt-LIMIT c = sym (ap checked (too_many _ _ _ _ (omega arith)))

pub returns-then-sounds-steps : goal.returns-then-sounds-steps
returns-then-sounds-steps c = sym (ap checked (uneven _ _ _ _ (omega arith) c.then-sounds-steps.either))

pub returns-then-not-is_up_to : goal.returns-then-not-is_up_to
returns-then-not-is_up_to c =
    sym (ap checked (sound_high _ _ _ _ (shaped (goal.at.returns-then-not-is_up_to c).Else-sounds-velocities)
    (sym c.if-not-is_up_to.true ∙ c.is_up_to.ensures)))

pub returns-then-not-is_audible : goal.returns-then-not-is_audible
returns-then-not-is_audible c =
    sym (ap checked (velocity_out _ _ _ _ (shaped (goal.at.returns-then-not-is_audible c).Else-sounds-velocities)
    (sym c.if-not-is_up_to.false ∙ c.is_up_to.ensures)
    (sym c.if-not-is_audible.true ∙ c.is_audible.ensures)))

pub returns-then-not-is_rising : goal.returns-then-not-is_rising
returns-then-not-is_rising c =
    sym (ap checked (order_wrong _ _ _ _ (shaped (goal.at.returns-then-not-is_rising c).Else-sounds-velocities)
    (sym c.if-not-is_up_to.false ∙ c.is_up_to.ensures)
    (sym c.if-not-is_audible.false ∙ c.is_audible.ensures)
    (sym c.if-not-is_rising.true ∙ c.is_rising.ensures)))

pub returns-then-not-is_below : goal.returns-then-not-is_below
returns-then-not-is_below c =
    sym (ap checked (step_past _ _ _ _ (shaped (goal.at.returns-then-not-is_below c).Else-sounds-velocities)
    (sym c.if-not-is_up_to.false ∙ c.is_up_to.ensures)
    (sym c.if-not-is_audible.false ∙ c.is_audible.ensures)
    (sym c.if-not-is_rising.false ∙ c.is_rising.ensures)
    (sym c.if-not-is_below.true ∙ c.is_below.ensures)))

pub returns : goal.returns
returns c =
    sym (ap checked (all_passed _ _ _ _ (shaped (goal.at.returns c).Else-sounds-velocities)
    (sym c.if-not-is_up_to.false ∙ c.is_up_to.ensures)
    (sym c.if-not-is_audible.false ∙ c.is_audible.ensures)
    (sym c.if-not-is_rising.false ∙ c.is_rising.ensures)
    (sym c.if-not-is_below.false ∙ c.is_below.ensures)))
