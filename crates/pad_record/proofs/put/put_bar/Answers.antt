-- The words behind the place moved up, three words stored, and the hits.
use mathlib.Core.Path.{◌∙◌}
use Prim.Native.Nat.{◌+◌, ◌*◌}
use lib.ListN.{length, length-set}
use Rattle.segment.specs.Records.{between}
use Rattle.pad_record.specs.Steps.{Put}
use Rattle.pad_record.proofs.Moving.{copied, put_same, three_sets, put_four}
use native.Mathlib.Omega.{arith}
use Rattle.pad_record.proofs.put.put_bar.Goals as goal

pub bounds-pad-at-2 : goal.bounds-pad-at-2
bounds-pad-at-2 c = simp length-set (omega (arith, c.requires, c.copy_within.ensures.len))

pub bounds-pad-at-3 : goal.bounds-pad-at-3
bounds-pad-at-3 c = simp length-set (omega (arith, c.requires, c.copy_within.ensures.len))

pub put_hits-requires : goal.put_hits-requires
put_hits-requires c =
    record {
      room = simp length-set (omega (arith, c.requires, c.copy_within.ensures.len));
      as_many_steps = c.requires.as_many_steps;
      as_many_velocities = c.requires.as_many_velocities;
    }

pub shape_of-pad : goal.shape_of-pad
shape_of-pad c =
    put_same c.put_hits.ensures ∙ three_sets c.copy_within.new.self c.args.at _ _ _ ∙ c.copy_within.ensures.len

pub returns : goal.returns
returns c =
    let a = c.args in
    let pad = a.pad.now in
    let up = a.at + (3 + 2 * length a.sounds.now) in
    let moved : Put (between a.at a.end pad) up pad c.copy_within.new.self =
    record { left = c.copy_within.ensures.after ∙ copied pad a.at a.end up c.requires.order (omega (arith, c.requires)) (omega (arith, c.requires)) } in
    record { left = put_four a.at _ _ _ c.copy_within.new.self moved c.put_hits.ensures }
