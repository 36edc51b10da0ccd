use native.Mathlib.Numerals.{add-one}
use native.Mathlib.Omega.{arith}
use Rattle.pad_lists.proofs.Cursors.{cursors_zeros}
use Rattle.pad_write.specs.Steps.{terms_from}
use Rattle.pad_write.proofs.Parts.{in_lists, places_first}
use Rattle.pad_write.proofs.Sounds.{next_sound}
use Rattle.pad_write.proofs.Storing.{stores_begin, stores_length, stores_done, term_room, stores_next}
use Rattle.pad_write.proofs.store.put_sounds.Goals as goal

pub loop-sound-init : goal.loop-sound-init
unfolding terms_from
loop-sound-init c =
    let p = c.requires.0 in (
      stores_begin _ _ _ _ _ _ c.requires.1 p.fit,
      cursors_zeros _ 256,
      places_first p.long,
    )

pub overflow_cast-sound : goal.overflow_cast-sound
overflow_cast-sound c = omega (arith, c.requires.0.sounds)

pub gather_sound-got-requires : goal.gather_sound-got-requires
gather_sound-got-requires c =
    record { whole_pad = c.requires.0.whole_pad; cursors = c.loop-sound.invariant.1; places = c.loop-sound.invariant.2 }

pub put_sound-at-requires : goal.put_sound-at-requires
unfolding terms_from
put_sound-at-requires c =
    let v = c.loop-sound.invariant.0 in
    let e = c.gather_sound-got.ensures in
    let x = next_sound _ _ _ _ _ v.fit c.loop-sound-test.true c.long-end.ensures e.count e.postings in
    record {
      lists = in_lists e;
      name_order = x.order;
      name_inside = x.inside;
      used = term_room _ _ _ _ _ _ c.requires.1 _ _ _ v x;
    }

pub loop-sound-preserved : goal.loop-sound-preserved
unfolding terms_from
loop-sound-preserved c =
    let v = c.loop-sound.invariant.0 in
    let e = c.gather_sound-got.ensures in
    let x = next_sound _ _ _ _ _ v.fit c.loop-sound-test.true c.long-end.ensures e.count e.postings in (
      stores_next _ _ _ _ _ _ c.requires.1 _ _ _ v x c.put_sound-at.ensures,
      rw (add-one c.loop-sound.sound) e.cursors,
      e.places,
    )

pub shape_of-out : goal.shape_of-out
unfolding terms_from
shape_of-out c =
    stores_length _ _ _ _ _ _ c.requires.1 _ _ _ c.loop-sound.invariant.0

pub returns : goal.returns
unfolding terms_from
returns c =
    stores_done _ _ _ _ _ _ c.requires.1 _ _ _ c.loop-sound.invariant.0 c.loop-sound-test.false c.finish.ensures
