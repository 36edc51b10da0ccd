-- The sections lie apart, so each is as it was stored when the header is made over them.
use native.Mathlib.Omega.{arith}
use Rattle.calls.specs.Given.{Lists, given, lists}
use Rattle.calls.proofs.Passing.{small_gives, shaped_gives}
use Rattle.write_segment.proofs.Whole.{header_room, segment_stored}
use Rattle.write_segment.proofs.write.put_segment.Goals as goal
use Rattle.write_segment.proofs.write.put_segment.Goals.{Start}

abbrev given_lists : Start → Lists
given_lists c =
    let a = c.args in
    lists a.ids.now a.lengths.now a.text.now a.ends.now a.posting_counts.now a.posting_ids.now
    a.position_counts.now a.positions.now

pub put_metadata-requires : goal.put_metadata-requires
unfolding given
put_metadata-requires c =
    ((shaped_gives (given_lists (goal.at.put_metadata-requires c).Start) c.requires.checkable.shaped).documents, omega (arith, c.requires.lists, c.requires.end, c.requires.room))

pub overflow_cast-ids : goal.overflow_cast-ids
overflow_cast-ids c =
    omega (arith, (small_gives (given_lists (goal.at.overflow_cast-ids c).Start) c.requires.checkable.small).ids)

pub overflow_cast-ends : goal.overflow_cast-ends
overflow_cast-ends c =
    omega (arith, (small_gives (given_lists (goal.at.overflow_cast-ends c).Start) c.requires.checkable.small).ends)

pub put_header-requires : goal.put_header-requires
unfolding given
put_header-requires c =
    header_room (given_lists (goal.at.put_header-requires c).Start) c.args.out.now c.args.at c.requires c.put_terms-lists_crc.ensures c.put_bytes.ensures
    c.put_metadata.ensures

pub returns : goal.returns
unfolding given
returns c =
    segment_stored (given_lists (goal.at.returns c).Start) c.args.out.now c.args.at c.requires c.put_terms-lists_crc.ensures c.put_bytes.ensures
    c.put_metadata.ensures
    c.put_header.ensures
