use Rattle.std.specs.Prelude.{None}
use mathlib.Core.Path.{◌≡◌}
use Prim.Native.Nat.{◌+◌}
use native.Mathlib.Omega.{arith}
use Rattle.calls.specs.Given.{Lists, lists}
use Rattle.segment.specs.Written.{postings_bytes}
use Rattle.common.specs.Stores.{Stored}
use Rattle.write_check_all.proofs.Walking.{WalkInside, last_of, postings_at, walk_inside, walk_asks, postings_given, ids_match}
use Rattle.write_check_all.proofs.Walking.{positions_enough}
use Rattle.write_segment.proofs.Entries.{terms_begin, terms_length, terms_done, list_room, entry_room, terms_next}
use Rattle.write_segment.proofs.write.put_terms.Goals as goal
use Rattle.write_segment.proofs.write.put_terms.Goals.{After-long, After-put_postings-end, In-loop-walk, Start}

-- at a term: the lists, and what is known of them and of the walk
abbrev given_lists : Start → Lists
given_lists c =
    let a = c.args in
    lists a.ids.now a.lengths.now a.text.now a.ends.now a.posting_counts.now a.posting_ids.now
    a.position_counts.now a.positions.now

inside : (c : In-loop-walk) → WalkInside c.loop-walk.walk ((let a3 = c.args in
    lists a3.ids.now a3.lengths.now a3.text.now a3.ends.now a3.posting_counts.now a3.posting_ids.now
    a3.position_counts.now a3.positions.now))
inside c =
    walk_inside ((let a4 = c.args in
    lists a4.ids.now a4.lengths.now a4.text.now a4.ends.now a4.posting_counts.now a4.posting_ids.now
    a4.position_counts.now a4.positions.now)) c.requires.checkable c.loop-walk.walk c.loop-walk.invariant.fits c.loop-walk-test.true

-- where the term's postings end
last-is : (c : After-long)
    → c.loop-walk.walk.posting + c.long.result ≡ last_of c.loop-walk.walk ((let a4 = c.args in
    lists a4.ids.now a4.lengths.now a4.text.now a4.ends.now a4.posting_counts.now a4.posting_ids.now
    a4.position_counts.now a4.positions.now))
last-is c = omega (arith, c.long.ensures)

-- the term's list is stored
listed : (c : After-put_postings-end)
    → Stored (postings_bytes None (postings_at c.loop-walk.walk ((let a4 = c.args in
    lists a4.ids.now a4.lengths.now a4.text.now a4.ends.now a4.posting_counts.now a4.posting_ids.now
    a4.position_counts.now a4.positions.now)))) c.loop-walk.list c.loop-walk.out
    c.put_postings-end.result c.put_postings-end.new.out
listed c =
    rw (postings_given ((let a10 = c.args in
    lists a10.ids.now a10.lengths.now a10.text.now a10.ends.now a10.posting_counts.now a10.posting_ids.now
    a10.position_counts.now a10.positions.now)) c.requires.checkable c.loop-walk.walk c.loop-walk.invariant.fits c.loop-walk-test.true
    ((let fact2 : c.loop-walk.walk.posting + c.long.result ≡ last_of c.loop-walk.walk ((let a7 = c.args in
    lists a7.ids.now a7.lengths.now a7.text.now a7.ends.now a7.posting_counts.now a7.posting_ids.now
    a7.position_counts.now a7.positions.now)) = omega (arith, c.long.ensures) in fact2))) at c.put_postings-end.ensures

pub loop-walk-init : goal.loop-walk-init
loop-walk-init c =
    rw c.start-walk.ensures (terms_begin (given_lists (goal.at.loop-walk-init c).Start) c.args.lists_at c.args.out.now c.requires)

pub bounds-posting_counts-term : goal.bounds-posting_counts-term
bounds-posting_counts-term c = let i = inside (goal.at.bounds-posting_counts-term c).In-loop-walk in omega arith

pub overflow_add-last : goal.overflow_add-last
overflow_add-last c = let i = inside (goal.at.overflow_add-last c).In-loop-walk in omega (arith, last-is c)

pub slice_bounds-put_postings-end : goal.slice_bounds-put_postings-end
slice_bounds-put_postings-end c = let i = inside (goal.at.slice_bounds-put_postings-end c).In-loop-walk in omega (arith, last-is c)

pub slice_bounds-put_postings-end-in-loop-walk : goal.slice_bounds-put_postings-end-in-loop-walk
slice_bounds-put_postings-end-in-loop-walk c = let i = inside (goal.at.slice_bounds-put_postings-end-in-loop-walk c).In-loop-walk in omega (arith, last-is (goal.at.slice_bounds-put_postings-end-in-loop-walk c).After-long)

pub put_postings-end-requires : goal.put_postings-end-requires
put_postings-end-requires c =
    let g = given_lists (goal.at.put_postings-end-requires c).Start in
    let k = c.requires.checkable in
    let w = c.loop-walk.walk in
    let is = last-is (goal.at.put_postings-end-requires c).After-long in (
      ids_match g k w c.loop-walk.invariant.fits c.loop-walk-test.true is,
      positions_enough g k w c.loop-walk.invariant.fits c.loop-walk-test.true is,
      rw (postings_given g k w c.loop-walk.invariant.fits c.loop-walk-test.true is)
          (list_room g c.args.lists_at c.args.out.now c.requires w c.loop-walk.out c.loop-walk.list c.loop-walk.entry c.loop-walk.run
          c.loop-walk.invariant c.loop-walk-test.true),
    )

pub overflow_sub-name_len : goal.overflow_sub-name_len
overflow_sub-name_len c =
    let i = inside (goal.at.overflow_sub-name_len c).In-loop-walk in
    omega (arith, c.long-in-loop-walk.ensures)

pub put_entry-past-requires : goal.put_entry-past-requires
put_entry-past-requires c =
    entry_room (given_lists (goal.at.put_entry-past-requires c).Start) c.args.lists_at c.args.out.now c.requires c.loop-walk.walk c.loop-walk.out c.loop-walk.list
    c.loop-walk.entry c.loop-walk.run
    c.loop-walk.invariant c.loop-walk-test.true (listed (goal.at.put_entry-past-requires c).After-put_postings-end) c.long-in-loop-walk.ensures

pub next-walk-requires : goal.next-walk-requires
next-walk-requires c =
    walk_asks (given_lists (goal.at.next-walk-requires c).Start) c.requires.checkable c.loop-walk.walk c.loop-walk.invariant.fits c.loop-walk-test.true

pub loop-walk-smaller : goal.loop-walk-smaller
loop-walk-smaller c = rw c.next-walk.ensures (omega arith)

pub loop-walk-preserved : goal.loop-walk-preserved
loop-walk-preserved c =
    rw c.next-walk.ensures
    (terms_next (given_lists (goal.at.loop-walk-preserved c).Start) c.args.lists_at c.args.out.now c.requires c.loop-walk.walk c.loop-walk.out c.loop-walk.list
    c.loop-walk.entry c.loop-walk.run
    c.loop-walk.invariant c.loop-walk-test.true (listed (goal.at.loop-walk-preserved c).After-put_postings-end) c.long-in-loop-walk.ensures c.put_entry-past.ensures)

pub shape_of-out : goal.shape_of-out
shape_of-out c =
    terms_length (given_lists (goal.at.shape_of-out c).Start) c.args.lists_at c.args.out.now c.requires c.loop-walk.walk c.loop-walk.out c.loop-walk.list
    c.loop-walk.entry c.loop-walk.run c.loop-walk.invariant

pub returns : goal.returns
returns c =
    terms_done (given_lists (goal.at.returns c).Start) c.args.lists_at c.args.out.now c.requires c.loop-walk.walk c.loop-walk.out c.loop-walk.list
    c.loop-walk.entry c.loop-walk.run c.loop-walk.invariant c.loop-walk-test.false c.finish.ensures
