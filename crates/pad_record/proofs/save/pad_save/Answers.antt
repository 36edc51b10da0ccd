-- Each refusal in its place; else the bar is put at its offset.
use Rattle.std.specs.Prelude.{Err, Ok}
use mathlib.Core.Path.{◌≡◌, sym, ◌∙◌}
use mathlib.Core.Bool.{true}
use Prim.Native.Nat.{◌+◌, ◌≤◌, ◌<◌}
use lib.ListN.{length, get_or, length-set}
use Rattle.std.proofs.lemmas.Result.{err_from_is_err_and}
use native.Mathlib.Omega.{arith}
use Rattle.segment.proofs.Accepted.{passed_ok, refused_is}
use Rattle.pad_map.specs.Rules.{check_hits}
use Rattle.pad_map.specs.Claims.{ListsWell}
use Rattle.pad_map.proofs.Saved.{check_exactly}
use Rattle.pad_words.specs.Words.{held}
use Rattle.pad_words.specs.Whole.{whole}
use Rattle.pad_words.specs.Steps.{place_from}
use Rattle.pad_words.proofs.Wholes.{inside, WholeParts, whole_parts}
use Rattle.pad_record.proofs.Moving.{bar_same}
use Rattle.pad_record.proofs.Saving.{save_broken, save_held, save_lists, save_bars, save_hits, save_fine, save_offset, save_stores}
use Rattle.pad_record.proofs.Promised.{not_saved, was_saved}
use Rattle.pad_record.proofs.save.pad_save.Goals as goal
use Rattle.pad_record.proofs.save.pad_save.Goals.{then-bars-ge-BARS-via-then-bars-ge-BARS, then-bars-ge-BARS-via-else-bars-ge-BARS+then-total-count-gt-HITS}
use Rattle.pad_record.proofs.save.pad_save.Goals.{Else-not-is_whole, In-Err, In_ok-check_hits_of}

is_one : (c : Else-not-is_whole) → whole c.args.pad.now ≡ true
is_one c = sym c.is_whole.ensures ∙ c.if-not-is_whole.false

free : (c : In-Err) → place_from 2 (held c.args.pad.now) c.args.id ≡ Err (c.in-Err.at)
free c = sym c.place_of.ensures ∙ c.in-Err.is

passes : (c : In_ok-check_hits_of) → let a = c.args in
    check_hits a.length a.sounds.now a.steps.now a.velocities.now ≡ Ok tt
passes c = (passed_ok _ c.in_ok-check_hits_of.ensures).1

passed : (c : In_ok-check_hits_of) → let a = c.args in
    ListsWell a.length a.sounds.now a.steps.now a.velocities.now
passed c = (check_exactly _ _ _ _).0 (passes c)

parts : (c : Else-not-is_whole) → WholeParts c.args.pad.now
parts c = whole_parts c.args.pad.now (is_one c)

pub returns-then-not-is_whole : goal.returns-then-not-is_whole
returns-then-not-is_whole c =
    not_saved _ _ _ _ _ _ (save_broken _ _ _ _ _ _ (sym c.is_whole.ensures ∙ c.if-not-is_whole.true))

pub place_of-requires : goal.place_of-requires
place_of-requires c = inside _ (is_one c)

pub returns-in_default : goal.returns-in_default
returns-in_default c =
    not_saved _ _ _ _ _ _ (save_held _ _ _ _ _ _ (is_one (goal.at.returns-in_default c).Else-not-is_whole) (sym c.place_of.ensures ∙ c.in_default.is))

pub returns-in_err-check_hits_of : goal.returns-in_err-check_hits_of
returns-in_err-check_hits_of c =
    let p = err_from_is_err_and c.from_residual.result c.from_residual.ensures.1 in
    rw (p.1, p.2)
    (not_saved _ _ _ _ _ _
    (save_lists _ _ _ _ _ _ (is_one (goal.at.returns-in_err-check_hits_of c).Else-not-is_whole) (free (goal.at.returns-in_err-check_hits_of c).In-Err)
    (refused_is _ c.in_err-check_hits_of.ensures)))

pub bounds-pad-0 : goal.bounds-pad-0
bounds-pad-0 c = omega (arith, parts (goal.at.bounds-pad-0 c).Else-not-is_whole)

pub bounds-pad-1 : goal.bounds-pad-1
bounds-pad-1 c = omega (arith, parts (goal.at.bounds-pad-1 c).Else-not-is_whole)

pub overflow_add-total : goal.overflow_add-total
overflow_add-total c = omega (arith, passed (goal.at.overflow_add-total c).In_ok-check_hits_of, c.long-total.ensures, parts (goal.at.overflow_add-total c).Else-not-is_whole)

pub returns-then-bars-ge-BARS : goal.returns-then-bars-ge-BARS
returns-then-bars-ge-BARS c =
    let w = is_one (goal.at.returns-then-bars-ge-BARS c).Else-not-is_whole in
    let f = free (goal.at.returns-then-bars-ge-BARS c).In-Err in
    let p = passes (goal.at.returns-then-bars-ge-BARS c).In_ok-check_hits_of in
    let one = c.long-bars.ensures in
    let two = c.long-total.ensures in
    elim c.then-bars-ge-BARS.branch [
      | then-bars-ge-BARS-via-then-bars-ge-BARS v ↦ not_saved _ _ _ _ _ _ (save_bars _ _ _ _ _ _ w f p (omega (arith, one)))
      | then-bars-ge-BARS-via-else-bars-ge-BARS+then-total-count-gt-HITS v ↦
          not_saved _ _ _ _ _ _ (save_hits _ _ _ _ _ _ w f p (omega (arith, one)) (omega (arith, two)))
    ]

pub put_bar-requires : goal.put_bar-requires
put_bar-requires c =
    let a = c.args in
    let p = passed (goal.at.put_bar-requires c).In_ok-check_hits_of in
    let o = parts (goal.at.put_bar-requires c).Else-not-is_whole in
    let one = c.long-bars.ensures in
    let two = c.long-total.ensures in
    record {
      order =
          omega (
            arith,
            one,
            two,
            save_offset c.args.pad.now a.id a.length a.sounds.now a.steps.now a.velocities.now (is_one (goal.at.put_bar-requires c).Else-not-is_whole) (free (goal.at.put_bar-requires c).In-Err),
          );
      room = omega (arith, o, one, two, c.if-bars-ge-BARS.false, c.if-total-count-gt-HITS.false);
      words = o.words;
      as_many_steps = p.side_by_side.as_many_steps;
      as_many_velocities = p.side_by_side.as_many_velocities;
    }

pub bounds-pad-0-2 : goal.bounds-pad-0-2
bounds-pad-0-2 c = omega (arith, bar_same c.put_bar.ensures, parts (goal.at.bounds-pad-0-2 c).Else-not-is_whole)

pub bounds-pad-1-2 : goal.bounds-pad-1-2
bounds-pad-1-2 c = simp length-set (omega (arith, bar_same c.put_bar.ensures, parts (goal.at.bounds-pad-1-2 c).Else-not-is_whole))

pub returns : goal.returns
returns c =
    let a = c.args in
    let one = c.long-bars.ensures in
    let two = c.long-total.ensures in
    let h : get_or c.args.pad.now 0 0 < 256 = omega (arith, one, c.if-bars-ge-BARS.false) in
    let m : get_or c.args.pad.now 1 0 + length a.sounds.now ≤ 8192 = omega (arith, two, c.if-total-count-gt-HITS.false) in
    was_saved c.args.pad.now a.id a.length a.sounds.now a.steps.now a.velocities.now (is_one (goal.at.returns c).Else-not-is_whole) _ _
    (save_fine c.args.pad.now a.id a.length a.sounds.now a.steps.now a.velocities.now (is_one (goal.at.returns c).Else-not-is_whole) (free (goal.at.returns c).In-Err) (passes (goal.at.returns c).In_ok-check_hits_of) h m)
    (save_stores c.args.pad.now a.id a.length a.sounds.now a.steps.now a.velocities.now (is_one (goal.at.returns c).Else-not-is_whole) (free (goal.at.returns c).In-Err) (passed (goal.at.returns c).In_ok-check_hits_of) h m
    _ _ _ one two c.put_bar.ensures)
