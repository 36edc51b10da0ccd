use Rattle.std.specs.Prelude.{None}
use Rattle.std.proofs.lemmas.Result.{err_from_is_err_and}
use mathlib.Core.Path.{◌≡◌, refl, ap}
use mathlib.Core.List.{List}
use Prim.Native.Nat.{◌+◌}
use native.Mathlib.Nat.{zero-add, le_trans}
use lib.ListN.{length, length-append}
use native.Mathlib.Omega.{arith}
use Rattle.segment.specs.Metadata.{document}
use Rattle.segment.specs.Results.{Answer}
use Rattle.segment.specs.Records.{Posting}
use Rattle.segment.specs.Written.{postings_bytes, lists_bytes}
use Rattle.calls.specs.Given.{Lists, lists}
use Rattle.common.specs.Lists.{paired}
use Rattle.calls.specs.Checks.{check_postings, check_terms}
use Rattle.write_check_all.specs.Steps.{terms_from, start_walk}
use Rattle.write_check_all.proofs.Walking.{WalkInside, walk_starts, walk_inside, walk_next, walk_asks, ids_match}
use Rattle.write_check_all.proofs.Walking.{positions_enough, last_of, next_in, postings_to, postings_given, terms_start}
use Rattle.write_check_all.proofs.Left.{lists_next, lists_end}
use Rattle.calls.proofs.Lengths.{part_size, lists_small}
use Rattle.calls.proofs.Passing.{small_gives, shaped_gives}
use Rattle.write_checks.proofs.Measuring.{measure_stops, measure_ends, measured_refused, measured_passed}
use Rattle.write_check_all.proofs.ListsChecked.{terms_name_stop, terms_empty, terms_stop, terms_next, terms_done}
use Rattle.write_check_all.proofs.lists.measure_terms.Goals as goal
use Rattle.write_check_all.proofs.lists.measure_terms.Goals.{After-long, In_ok-size, In-loop-walk, Start}

-- the lists, and the check of all terms
abbrev given_lists : Start → Lists
given_lists c =
    let a = c.args in
    lists a.ids.now a.lengths.now a.text.now a.ends.now a.posting_counts.now a.posting_ids.now
    a.position_counts.now a.positions.now

abbrev whole : Start → Answer (Unit {0})
whole c = check_terms (paired document c.args.ids.now c.args.lengths.now) None (terms_from start_walk (given_lists c))

-- at a term, what is known of the walk
inside : (c : In-loop-walk) → let a = c.args in
    WalkInside c.loop-walk.walk
    (lists a.ids.now a.lengths.now a.text.now a.ends.now a.posting_counts.now a.posting_ids.now a.position_counts.now a.positions.now)
inside c = walk_inside _ c.requires _ c.loop-walk.invariant.0 c.loop-walk-test.true

-- where its postings end
last-is : (c : After-long) → let a = c.args in
    c.loop-walk.walk.posting + c.long.result
    ≡ last_of c.loop-walk.walk
    (lists a.ids.now a.lengths.now a.text.now a.ends.now a.posting_counts.now a.posting_ids.now a.position_counts.now a.positions.now)
last-is c = omega (arith, c.long.ensures)

-- its postings by the slices that are taken, and their check
abbrev these : After-long → List Posting
these c =
    let a = c.args in
    postings_to (c.loop-walk.walk.posting + c.long.result) c.loop-walk.walk
    (lists a.ids.now a.lengths.now a.text.now a.ends.now a.posting_counts.now a.posting_ids.now a.position_counts.now a.positions.now)

abbrev check-these : After-long → Answer (Unit {0})
check-these c = check_postings (paired document c.args.ids.now c.args.lengths.now) None (these c)

-- where they passed, what a turn takes off is the size of their list
takes : (c : In_ok-size) → let g = (let a = c.args in
    lists a.ids.now a.lengths.now a.text.now a.ends.now a.posting_counts.now a.posting_ids.now a.position_counts.now a.positions.now) in
    length (lists_bytes (terms_from c.loop-walk.walk g))
    ≡ c.in_ok-size.field-0 + length (lists_bytes (terms_from (next_in c.loop-walk.walk g) g))
takes c =
    let a = c.args in
    let w = c.loop-walk.walk in
    let g =
    (lists a.ids.now a.lengths.now a.text.now a.ends.now a.posting_counts.now a.posting_ids.now a.position_counts.now a.positions.now) in
    let is : w.posting + c.long.result ≡ last_of w g = omega (arith, c.long.ensures) in
    let these = postings_to (w.posting + c.long.result) w g in
    omega (
      arith,
      (measured_passed (check_postings (paired document a.ids.now a.lengths.now) None these) _ c.in_ok-size.ensures).1,
      ap (λ (ps : List Posting). length (postings_bytes None ps))
          (postings_given g c.requires w c.loop-walk.invariant.0 c.loop-walk-test.true is),
      simp length-append at (ap length (lists_next g c.requires w c.loop-walk.invariant.0 c.loop-walk-test.true)),
    )

pub loop-walk-init : goal.loop-walk-init
loop-walk-init c =
    let l = given_lists (goal.at.loop-walk-init c).Start in
    let small = lists_small l (small_gives l c.requires.small) (shaped_gives l c.requires.shaped) in
    rw c.start-walk.ensures (walk_starts _ c.requires, refl, zero-add _, rw (terms_start l) small)

pub slice_bounds-name-count : goal.slice_bounds-name-count
slice_bounds-name-count c = let i = inside (goal.at.slice_bounds-name-count c).In-loop-walk in omega arith

pub slice_bounds-name-start : goal.slice_bounds-name-start
slice_bounds-name-start c = let i = inside (goal.at.slice_bounds-name-start c).In-loop-walk in omega arith

pub slice_bounds-name-end : goal.slice_bounds-name-end
slice_bounds-name-end c = let i = inside (goal.at.slice_bounds-name-end c).In-loop-walk in omega arith

pub returns-in_err-check_name : goal.returns-in_err-check_name
returns-in_err-check_name c =
    let p = err_from_is_err_and c.from_residual.result c.from_residual.ensures.1 in
    rw (p.1, p.2)
    (measure_stops (whole (goal.at.returns-in_err-check_name c).Start) _
    (terms_name_stop _ _ c.requires _ c.loop-walk.invariant.0 _ c.loop-walk.invariant.1 c.loop-walk-test.true
    c.long-end.ensures c.in_err-check_name.ensures))

pub bounds-posting_counts-term : goal.bounds-posting_counts-term
bounds-posting_counts-term c = let i = inside (goal.at.bounds-posting_counts-term c).In-loop-walk in omega arith

pub returns-then-count-eq0 : goal.returns-then-count-eq0
returns-then-count-eq0 c =
    measure_stops (whole (goal.at.returns-then-count-eq0 c).Start) _
    (terms_empty _ _ c.requires _ c.loop-walk.invariant.0 _ c.loop-walk.invariant.1 c.loop-walk-test.true
    c.long-end.ensures c.in_ok-check_name.ensures c.if-count-eq0.true)

pub slice_bounds-measure_postings-end-in-loop-walk : goal.slice_bounds-measure_postings-end-in-loop-walk
slice_bounds-measure_postings-end-in-loop-walk c =
    let i = inside (goal.at.slice_bounds-measure_postings-end-in-loop-walk c).In-loop-walk in omega arith

pub measure_postings-requires : goal.measure_postings-requires
measure_postings-requires c =
    let w = c.loop-walk.walk in
    let is = last-is (goal.at.measure_postings-requires c).After-long in
    let small = small_gives _ c.requires.small in (
      c.requires.rises,
      (shaped_gives _ c.requires.shaped).documents,
      ids_match _ c.requires w c.loop-walk.invariant.0 c.loop-walk-test.true is,
      positions_enough _ c.requires w c.loop-walk.invariant.0 c.loop-walk-test.true is,
      le_trans (part_size w.posting (w.posting + c.long.result) c.args.position_counts.now) small.position_counts,
      le_trans (part_size w.position (length c.args.positions.now) c.args.positions.now) small.positions,
    )

pub returns-in_err-size : goal.returns-in_err-size
returns-in_err-size c =
    let at = goal.at.returns-in_err-size c in
    let p = err_from_is_err_and c.from_residual-in_err-size.result c.from_residual-in_err-size.ensures.1 in
    rw (p.1, p.2)
    (measure_stops (whole at.Start) _
    (terms_stop _ _ c.requires _ c.loop-walk.invariant.0 _ c.loop-walk.invariant.1 c.loop-walk-test.true
    c.long-end.ensures c.in_ok-check_name.ensures c.if-count-eq0.false (last-is at.After-long)
    (measured_refused (check-these at.After-long) _ c.in_err-size.ensures)))

pub overflow_add-size : goal.overflow_add-size
overflow_add-size c = omega (arith, takes c)

pub next-walk-requires : goal.next-walk-requires
next-walk-requires c = walk_asks _ c.requires _ c.loop-walk.invariant.0 c.loop-walk-test.true

pub loop-walk-preserved : goal.loop-walk-preserved
loop-walk-preserved c =
    let at = goal.at.loop-walk-preserved c in (
      walk_next _ c.requires _ c.loop-walk.invariant.0 c.loop-walk-test.true c.next-walk.ensures,
      terms_next _ _ c.requires _ c.loop-walk.invariant.0 _ c.loop-walk.invariant.1 c.loop-walk-test.true
          c.long-end.ensures c.in_ok-check_name.ensures c.if-count-eq0.false (last-is at.After-long)
          (measured_passed (check-these at.After-long) _ c.in_ok-size.ensures).0 c.next-walk.ensures,
      rw c.next-walk.ensures (omega (arith, takes at.In_ok-size)),
      c.loop-walk.invariant.3,
    )

pub returns : goal.returns
returns c =
    let at = (goal.at.returns c).Start in
    measure_ends (whole at) _
    (terms_done _ _ c.requires _ c.loop-walk.invariant.0 _ c.loop-walk.invariant.1 c.loop-walk-test.false)
    (omega (arith, ap length (lists_end (given_lists at) c.requires c.loop-walk.walk c.loop-walk.invariant.0 c.loop-walk-test.false)))
