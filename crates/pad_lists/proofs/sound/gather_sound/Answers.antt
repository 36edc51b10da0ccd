use Prim.Native.Nat.{◌+◌, ◌-◌, ◌*◌, ◌≤◌}
use native.Mathlib.Omega.{arith}
use mathlib.Core.Path.{refl}
use lib.ListN.{get_or}
use Rattle.pad_words.proofs.Wholes.{whole_parts}
use Rattle.pad_lists.proofs.Runs.{run_short}
use Rattle.pad_lists.proofs.Gathering.{Turn, gathering_start, turn, gathering_next, gathered}
use Rattle.pad_lists.proofs.sound.gather_sound.Goals as goal
use Rattle.pad_lists.proofs.sound.gather_sound.Goals.{After-gather_run-next, In-loop-i}

pub bounds-pad-0 : goal.bounds-pad-0
bounds-pad-0 c =
    omega (arith, (whole_parts c.args.pad.now c.requires.whole_pad).words)

pub loop-i-init : goal.loop-i-init
loop-i-init c = gathering_start c.requires

-- at a turn
at_turn : (l : In-loop-i) →
    let a = l.args in
    let v = l.loop-i in
    Turn a.pad.now v.at v.i v.postings v.filled (get_or v.cursors v.i 0)
at_turn l = turn l.loop-i.invariant (omega (arith, l.long-bars.ensures))

pub overflow_add-at : goal.overflow_add-at
overflow_add-at c = omega (arith, at_turn c)

pub offset_bounds-pad-at : goal.offset_bounds-pad-at
offset_bounds-pad-at c = omega (arith, at_turn c)

pub bounds-pad-at : goal.bounds-pad-at
bounds-pad-at c = omega (arith, at_turn (goal.at.bounds-pad-at c).In-loop-i)

pub offset_bounds-cursors-i : goal.offset_bounds-cursors-i
offset_bounds-cursors-i c = omega (arith, at_turn (goal.at.offset_bounds-cursors-i c).In-loop-i)

pub bounds-cursors-i : goal.bounds-cursors-i
bounds-cursors-i c = omega (arith, at_turn (goal.at.bounds-cursors-i c).In-loop-i)

pub overflow_add-at-in-loop-i : goal.overflow_add-at-in-loop-i
overflow_add-at-in-loop-i c = omega (arith, at_turn (goal.at.overflow_add-at-in-loop-i c).In-loop-i)

pub overflow_mul-done : goal.overflow_mul-done
overflow_mul-done c = omega (arith, at_turn (goal.at.overflow_mul-done c).In-loop-i)

pub overflow_add-at-in-loop-i-2 : goal.overflow_add-at-in-loop-i-2
overflow_add-at-in-loop-i-2 c = omega (arith, at_turn (goal.at.overflow_add-at-in-loop-i-2 c).In-loop-i)

pub overflow_sub-hits : goal.overflow_sub-hits
overflow_sub-hits c = omega (arith, at_turn (goal.at.overflow_sub-hits c).In-loop-i)

pub gather_run-next-requires : goal.gather_run-next-requires
gather_run-next-requires c =
    let t = at_turn (goal.at.gather_run-next-requires c).In-loop-i in
    record {
      inside = omega (arith, t, c.long-done.ensures, c.long-hits.ensures);
      room = omega (arith, t, c.long-hits.ensures);
      positions_long = c.loop-i.invariant.listed.positions_long;
    }

ran : (r : After-gather_run-next) →
    r.gather_run-next.result ≤ r.loop-i.filled + (r.long-hits.result - r.long-done.result)
ran r =
    run_short _ r.args.pad.now (r.loop-i.at + 3 + 2 * r.long-done.result) _
    r.gather_run-next.ensures

-- the cursor does not pass the bar's hits
done-few : (r : After-gather_run-next) →
    r.long-done.result + (r.gather_run-next.result - r.loop-i.filled) ≤ 8192
done-few r =
    omega (arith, (turn r.loop-i.invariant (omega (arith, r.long-bars.ensures))), ran r, r.long-done.ensures, r.long-hits.ensures)

pub bounds-pad-at-in-loop-i : goal.bounds-pad-at-in-loop-i
bounds-pad-at-in-loop-i c = omega (arith, at_turn (goal.at.bounds-pad-at-in-loop-i c).In-loop-i)

pub bounds-posting_ids-postings : goal.bounds-posting_ids-postings
bounds-posting_ids-postings c = omega (arith, at_turn (goal.at.bounds-posting_ids-postings c).In-loop-i)

pub overflow_cast-counts : goal.overflow_cast-counts
overflow_cast-counts c = omega (arith, done-few (goal.at.overflow_cast-counts c).After-gather_run-next)

pub bounds-counts-postings : goal.bounds-counts-postings
bounds-counts-postings c = omega (arith, at_turn (goal.at.bounds-counts-postings c).In-loop-i)

pub overflow_add-cursors : goal.overflow_add-cursors
overflow_add-cursors c = omega (arith, done-few (goal.at.overflow_add-cursors c).After-gather_run-next)

pub overflow_cast-cursors : goal.overflow_cast-cursors
overflow_cast-cursors c = omega (arith, done-few (goal.at.overflow_cast-cursors c).After-gather_run-next)

pub past_posting-postings-requires : goal.past_posting-postings-requires
past_posting-postings-requires c = omega (arith, at_turn (goal.at.past_posting-postings-requires c).In-loop-i)

pub overflow_mul-at : goal.overflow_mul-at
overflow_mul-at c = omega (arith, at_turn (goal.at.overflow_mul-at c).In-loop-i, c.long-hits.ensures)

pub overflow_add-at-in-loop-i-3 : goal.overflow_add-at-in-loop-i-3
overflow_add-at-in-loop-i-3 c = omega (arith, at_turn (goal.at.overflow_add-at-in-loop-i-3 c).In-loop-i, c.long-hits.ensures)

pub overflow_add-at-in-loop-i-4 : goal.overflow_add-at-in-loop-i-4
overflow_add-at-in-loop-i-4 c = omega (arith, at_turn (goal.at.overflow_add-at-in-loop-i-4 c).In-loop-i, c.long-hits.ensures)

pub loop-i-preserved : goal.loop-i-preserved
loop-i-preserved c =
    gathering_next c.loop-i.invariant (omega (arith, c.long-bars.ensures)) c.long-hits.ensures c.long-done.ensures
    c.gather_run-next.ensures refl c.past_posting-postings.ensures

pub returns : goal.returns
returns c = gathered c.loop-i.invariant (omega (arith, c.long-bars.ensures)) refl refl
