use mathlib.Core.Path.{◌≡◌, refl, sym}
use Prim.Native.Nat.{◌+◌, ◌*◌}
use lib.ListN.{length}
use native.Mathlib.Omega.{arith}
use Rattle.calls.proofs.Filling.{still_long}
use Rattle.pad_read.proofs.Filling.{fill_start, fill_next, fill_end}
use Rattle.pad_read.proofs.read.fill_hits.Goals as goal
use Rattle.pad_read.proofs.read.fill_hits.Goals.{At-loop-i}
use Rattle.pad_read.proofs.read.fill_hits.Invariants.{sound-of, step_of, velocity-of}

-- in a turn: the lists are as long as they were
longs : (l : At-loop-i) → let a = l.args in
    (length l.loop-i.sounds ≡ length a.sounds.now)
    × (length l.loop-i.steps ≡ length a.steps.now)
    × (length l.loop-i.velocities ≡ length a.velocities.now)
longs l = (still_long l.loop-i.invariant.0, still_long l.loop-i.invariant.1, still_long l.loop-i.invariant.2)

pub loop-i-init : goal.loop-i-init
loop-i-init c =
    let a = c.args in (
      fill_start sound-of a.pad.now a.from a.count a.sounds.now c.requires.sounds_room _ (omega arith),
      fill_start step_of a.pad.now a.from a.count a.steps.now c.requires.steps_room _ (omega arith),
      fill_start velocity-of a.pad.now a.from a.count a.velocities.now c.requires.velocities_room _ (omega arith),
    )

pub bounds-sounds-i : goal.bounds-sounds-i
bounds-sounds-i c =
    omega (arith, longs (goal.at.bounds-sounds-i c).At-loop-i, c.requires.sounds_room)

pub bounds-steps-i : goal.bounds-steps-i
bounds-steps-i c =
    omega (arith, longs (goal.at.bounds-steps-i c).At-loop-i, c.requires.steps_room)

pub bounds-velocities-i : goal.bounds-velocities-i
bounds-velocities-i c =
    omega (arith, longs (goal.at.bounds-velocities-i c).At-loop-i, c.requires.velocities_room)

pub loop-i-preserved : goal.loop-i-preserved
loop-i-preserved c =
    let a = c.args in
    let h = c.loop-i-test.true in
    let pad = a.pad.now in
    let i = c.loop-i.i in
    let at = a.from + 2 * i in
    let e : a.from + 2 * (i + 1) ≡ a.from + 2 * i + 2 = omega arith in
    rw e (
      fill_next sound-of pad a.from a.count _ at i _ c.loop-i.invariant.0 _ h (sym c.narrow.ensures),
      fill_next step_of pad a.from a.count _ at i _ c.loop-i.invariant.1 _ h refl,
      fill_next velocity-of pad a.from a.count _ at i _ c.loop-i.invariant.2 _ h (sym c.narrow-in-loop-i.ensures),
    )

pub shape_of-sounds : goal.shape_of-sounds
shape_of-sounds c = (longs (goal.at.shape_of-sounds c).At-loop-i).0

pub shape_of-steps : goal.shape_of-steps
shape_of-steps c = (longs (goal.at.shape_of-steps c).At-loop-i).1

pub shape_of-velocities : goal.shape_of-velocities
shape_of-velocities c = (longs (goal.at.shape_of-velocities c).At-loop-i).2

pub returns : goal.returns
returns c =
    let a = c.args in
    let h = c.loop-i-test.false in
    let pad = a.pad.now in
    let i = c.loop-i.i in
    let at = a.from + 2 * i in
    record {
      sounds_left = fill_end sound-of pad a.from a.count _ at i _ c.loop-i.invariant.0 c.requires.sounds_room h;
      steps_left = fill_end step_of pad a.from a.count _ at i _ c.loop-i.invariant.1 c.requires.steps_room h;
      velocities_left = fill_end velocity-of pad a.from a.count _ at i _ c.loop-i.invariant.2 c.requires.velocities_room h;
    }
