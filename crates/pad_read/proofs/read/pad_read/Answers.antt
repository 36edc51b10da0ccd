-- Each refusal in its place; with room, the bar that stands at the offset found.
use mathlib.Core.Path.{◌≡◌, sym, ◌∙◌}
use mathlib.Core.Bool.{true}
use Prim.Native.Nat.{◌+◌, ◌*◌, ◌≤◌}
use native.Mathlib.Omega.{arith}
use lib.ListN.{length, get_or}
use Rattle.std.specs.Prelude.{Ok}
use Rattle.pad_words.specs.Words.{held}
use Rattle.pad_words.specs.Whole.{whole}
use Rattle.pad_words.specs.Steps.{place_from}
use Rattle.pad_words.proofs.Wholes.{inside}
use Rattle.pad_words.proofs.Found.{found_room}
use Rattle.pad_read.proofs.Reading.{read_broken, read_unknown, read_first, read_second, read_third, was_refused, was_read}
use Rattle.pad_read.proofs.read.pad_read.Goals as goal
use Rattle.pad_read.proofs.read.pad_read.Goals.{Else-not-is_whole, In-Ok}

is_one : (c : Else-not-is_whole) → whole c.args.pad.now ≡ true
is_one c = sym c.is_whole.ensures ∙ c.if-not-is_whole.false

-- where the bar begins, and its words lie in the slice
begins : (c : In-Ok) → place_from 2 (held c.args.pad.now) c.args.id ≡ Ok (c.in-Ok.at)
begins c = sym c.place_of.ensures ∙ c.in-Ok.is

room : (c : In-Ok) → c.in-Ok.at + (3 + 2 * get_or c.args.pad.now (c.in-Ok.at + 2) 0) ≤ length c.args.pad.now
room c = found_room c.args.pad.now c.args.id (sym c.is_whole.ensures ∙ c.if-not-is_whole.false) (begins c)

pub returns-then-not-is_whole : goal.returns-then-not-is_whole
returns-then-not-is_whole c =
    was_refused _ _ _ _ _ (read_broken _ _ _ _ _ (sym c.is_whole.ensures ∙ c.if-not-is_whole.true))

pub place_of-requires : goal.place_of-requires
place_of-requires c = inside _ (is_one c)

pub returns-in_default : goal.returns-in_default
returns-in_default c =
    was_refused _ _ _ _ _ (read_unknown _ _ (is_one (goal.at.returns-in_default c).Else-not-is_whole) _ _ _ (sym c.place_of.ensures ∙ c.in_default.is))

pub overflow_add-len : goal.overflow_add-len
overflow_add-len c = omega (arith, room c)

pub offset_bounds-pad-at : goal.offset_bounds-pad-at
offset_bounds-pad-at c = omega (arith, room c)

pub bounds-pad-at : goal.bounds-pad-at
bounds-pad-at c = omega (arith, room (goal.at.bounds-pad-at c).In-Ok)

pub overflow_add-at : goal.overflow_add-at
overflow_add-at c = omega (arith, room (goal.at.overflow_add-at c).In-Ok)

pub offset_bounds-pad-at-2 : goal.offset_bounds-pad-at-2
offset_bounds-pad-at-2 c = omega (arith, room (goal.at.offset_bounds-pad-at-2 c).In-Ok)

pub bounds-pad-at-2 : goal.bounds-pad-at-2
bounds-pad-at-2 c = omega (arith, room (goal.at.bounds-pad-at-2 c).In-Ok)

pub returns-then-sounds-count : goal.returns-then-sounds-count
returns-then-sounds-count c =
    was_refused _ _ _ _ _ (read_first _ _ (is_one (goal.at.returns-then-sounds-count c).Else-not-is_whole) (begins (goal.at.returns-then-sounds-count c).In-Ok) c.long-count.ensures _ _ _ c.if-sounds-count.true)

pub returns-then-steps-count : goal.returns-then-steps-count
returns-then-steps-count c =
    was_refused _ _ _ _ _
    (read_second _ _ (is_one (goal.at.returns-then-steps-count c).Else-not-is_whole) (begins (goal.at.returns-then-steps-count c).In-Ok) c.long-count.ensures _ _ _ c.if-sounds-count.false c.if-steps-count.true)

pub returns-then-velocities-count : goal.returns-then-velocities-count
returns-then-velocities-count c =
    was_refused _ _ _ _ _
    (read_third _ _ (is_one (goal.at.returns-then-velocities-count c).Else-not-is_whole) (begins (goal.at.returns-then-velocities-count c).In-Ok) c.long-count.ensures _ _ _ c.if-sounds-count.false c.if-steps-count.false c.if-velocities-count.true)

pub overflow_add-at-2 : goal.overflow_add-at-2
overflow_add-at-2 c = omega (arith, room (goal.at.overflow_add-at-2 c).In-Ok)

pub fill_hits-requires : goal.fill_hits-requires
fill_hits-requires c =
    let r = room (goal.at.fill_hits-requires c).In-Ok in
    record {
      inside = omega (arith, r, c.long-count.ensures);
      sounds_room = c.if-sounds-count.false;
      steps_room = c.if-steps-count.false;
      velocities_room = c.if-velocities-count.false;
    }

pub returns : goal.returns
returns c =
    was_read c.args.pad.now c.args.id _ _ _ (is_one (goal.at.returns c).Else-not-is_whole) (begins (goal.at.returns c).In-Ok) c.long-count.ensures c.if-sounds-count.false c.if-steps-count.false
    c.if-velocities-count.false c.fill_hits.ensures
