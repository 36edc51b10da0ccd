use Rattle.std.proofs.lemmas.Result.{err_from_is_err_and}
use native.Mathlib.Numerals.{add-one}
use native.Mathlib.Omega.{arith}
use Rattle.pad_lists.proofs.Cursors.{cursors_zeros}
use Rattle.pad_write.specs.Steps.{terms_from}
use Rattle.pad_write.proofs.Bounds.{documents_match, ids_rise, lists_low}
use Rattle.pad_write.proofs.Parts.{in_lists, places_first, places_long}
use Rattle.pad_write.proofs.Sounds.{next_sound}
use Rattle.pad_write.proofs.Tallying.{tally_begin, tally_done, tally_stop, tally_next}
use Rattle.pad_write.proofs.measure.measure_sounds.Goals as goal

pub loop-sound-init : goal.loop-sound-init
unfolding terms_from
loop-sound-init c =
    let p = c.requires.0 in (
      tally_begin _ _ _ _ p.fit (lists_low _ p.whole_pad _ _ p.short p.sounds p.fit),
      cursors_zeros _ 256,
      places_first p.long,
    )

pub overflow_cast-sound : goal.overflow_cast-sound
overflow_cast-sound c = omega (arith, c.requires.0.sounds)

pub gather_sound-got-requires : goal.gather_sound-got-requires
gather_sound-got-requires c =
    record { whole_pad = c.requires.0.whole_pad; cursors = c.loop-sound.invariant.1; places = c.loop-sound.invariant.2 }

pub measure_sound-requires : goal.measure_sound-requires
measure_sound-requires c =
    let v = c.loop-sound.invariant.0 in
    let e = c.gather_sound-got.ensures in
    let x = next_sound _ c.args.text.now _ _ _ v.fit c.loop-sound-test.true c.long-end.ensures e.count e.postings in
    record {
      rises = rw c.requires.1.ids_are (ids_rise _ c.requires.0.whole_pad);
      documents = documents_match c.requires.1;
      lists = in_lists e;
      name_order = x.order;
      name_inside = x.inside;
      last_inside = v.last_inside;
      names_low = v.names_low;
      terms_low = omega (arith, v.terms_low, v.few, c.requires.0.sounds);
      lists_low = omega (arith, v.list_size, v.lists_low);
    }

pub returns-in_err-tally : goal.returns-in_err-tally
unfolding terms_from
returns-in_err-tally c =
    let v = c.loop-sound.invariant.0 in
    let e = c.gather_sound-got.ensures in
    let x = next_sound _ _ _ _ _ v.fit c.loop-sound-test.true c.long-end.ensures e.count e.postings in
    let p = err_from_is_err_and c.from_residual.result c.from_residual.ensures.1 in
    rw (p.1, p.2)
    (record {
      answer = tally_stop _ _ _ _ _ _ v x c.in_err-tally.ensures;
      long = places_long e.places;
    })

pub loop-sound-preserved : goal.loop-sound-preserved
loop-sound-preserved c =
    let v = c.loop-sound.invariant.0 in
    let e = c.gather_sound-got.ensures in
    let x = next_sound _ _ _ _ _ v.fit c.loop-sound-test.true c.long-end.ensures e.count e.postings in (
      tally_next _ _ _ _ _ _ v x c.in_ok-tally.ensures,
      rw (add-one c.loop-sound.sound) e.cursors,
      e.places,
    )

pub returns : goal.returns
unfolding terms_from
returns c = record {
  answer = tally_done _ _ _ _ _ _ c.loop-sound.invariant.0 c.loop-sound-test.false;
  long = places_long c.loop-sound.invariant.2;
}
