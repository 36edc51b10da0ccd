use mathlib.Core.Path.{◌≡◌, ◌∙◌}
use Prim.Native.Nat.{◌+◌, ◌*◌}
use lib.ListN.{length-set}
use Rattle.pad_record.proofs.Moving.{two_sets, put_next, put_end}
use native.Mathlib.Omega.{arith}
use Rattle.pad_record.proofs.put.put_hits.Goals as goal

pub bounds-pad-next-in-loop-i : goal.bounds-pad-next-in-loop-i
bounds-pad-next-in-loop-i c = simp length-set (omega arith)

pub loop-i-preserved : goal.loop-i-preserved
loop-i-preserved c =
    let a = c.args in
    let i = c.loop-i.i in
    let next = a.at + 2 * i in
    let e : a.at + 2 * (i + 1) ≡ a.at + 2 * i + 2 = omega arith in
    rw e (
      two_sets c.loop-i.pad next _ _ ∙ c.loop-i.invariant.0,
      put_next c.loop-i.pad a.sounds.now a.steps.now a.velocities.now next i
          c.requires.as_many_steps c.requires.as_many_velocities c.loop-i.invariant.1 (omega arith) _ c.first_word.ensures,
    )

pub shape_of-pad : goal.shape_of-pad
shape_of-pad c = c.loop-i.invariant.0

pub returns : goal.returns
returns c =
    let a = c.args in
    record {
      left =
          put_end c.loop-i.pad a.sounds.now a.steps.now a.velocities.now (a.at + 2 * c.loop-i.i) c.loop-i.i
          c.requires.as_many_steps c.requires.as_many_velocities c.loop-i.invariant.1 c.loop-i-test.false;
    }
