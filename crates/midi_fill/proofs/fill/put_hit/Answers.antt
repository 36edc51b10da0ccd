-- One place of each table and of each list.
use native.Mathlib.Nat.{div-le_self}
use native.Mathlib.Omega.{arith}
use lib.ListN.{get_or}
use Rattle.midi_fill.specs.Stores.{buffers}
use Rattle.midi_count.proofs.Tallying.{fresh_le}
use Rattle.midi_count.proofs.StepsTold.{first_le, in_bar_rest}
use Rattle.midi_fill.proofs.Storing.{in_last_le, stored_as}
use Rattle.midi_fill.proofs.fill.put_hit.Goals as goal

pub in_last_bar-count-requires : goal.in_last_bar-count-requires
in_last_bar-count-requires c =
    omega (
      arith,
      c.requires.inside_low.holds c.args.note,
      fresh_le (get_or c.args.tables.now.last c.args.note 0) c.args.step,
      c.is_fresh-new.ensures,
    )

pub overflow_cast-ids : goal.overflow_cast-ids
overflow_cast-ids c =
    let w = c.requires.in_bar in
    omega (arith, w.bar_is, div-le_self c.args.step c.args.steps, w.near)

pub overflow_cast-counts : goal.overflow_cast-counts
overflow_cast-counts c =
    omega (
      arith,
      c.requires.inside_low.holds c.args.note,
      fresh_le (get_or c.args.tables.now.last c.args.note 0) c.args.step,
      c.is_fresh-new.ensures,
      c.in_last_bar-count.ensures,
      in_last_le c.does_open-more.result c.is_fresh-new.result (get_or c.args.inside.now c.args.note 0),
    )

pub overflow_mul-places : goal.overflow_mul-places
overflow_mul-places c =
    let w = c.requires.in_bar in
    omega (arith, first_le _ _ _ w.bar_is, w.near)

pub overflow_sub-places : goal.overflow_sub-places
overflow_sub-places c =
    let w = c.requires.in_bar in
    omega (arith, first_le _ _ _ w.bar_is)

pub overflow_cast-places : goal.overflow_cast-places
overflow_cast-places c =
    let w = c.requires.in_bar in
    omega (arith, w.near)

pub returns : goal.returns
returns c =
    stored_as c.args.starts.now c.args.marks.now c.args.note c.args.step c.args.steps c.args.velocity
    (buffers c.args.tables.now.last c.args.tables.now.postings c.args.tables.now.positions c.args.inside.now c.args.loud.now
    c.args.ids.now c.args.counts.now c.args.places.now c.args.velocities.now)
    c.does_open-more.ensures c.is_fresh-new.ensures c.in_last_bar-count.ensures
    c.loudest_on_step-loudest.ensures
    c.requires.in_bar.bar_is (in_bar_rest _ _ _ c.requires.in_bar.bar_is)
