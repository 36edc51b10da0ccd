-- The offsets are those of the definition, since what was measured has its length.
use Rattle.std.specs.Prelude.{None, Ok}
use Rattle.std.proofs.lemmas.Result.{err_from_is_err_and}
use mathlib.Core.Path.{◌≡◌, refl}
use Prim.Native.Nat.{ℕ, ◌+◌, ◌*◌, ◌≤◌}
use native.Mathlib.Omega.{arith}
use lib.ListN.{length}
use Rattle.segment.specs.Steps.{checked}
use Rattle.calls.specs.Given.{Lists, given, lists}
use Rattle.calls.specs.Checks.{check_lists}
use Rattle.calls.specs.Acceptance.{Small, Shape}
use Rattle.write_check_all.specs.Steps.{Checkable}
use Rattle.calls.proofs.Passing.{small_gives, shaped_gives}
use Rattle.write_checks.proofs.Measuring.{measured_refused, measured_passed}
use Rattle.write_check_all.proofs.ListsChecked.{passed_checkable}
use Rattle.calls.proofs.Lengths.{flat_metadata_size, lists_small}
use Rattle.write_segment.proofs.Whole.{segment_length, wrote_refusal, wrote_no_room, wrote_all}
use Rattle.segment.specs.Written.{metadata_bytes, lists_bytes, segment_bytes}
use Rattle.write_segment.proofs.write.write_positional_segment.Goals as goal
use Rattle.write_segment.proofs.write.write_positional_segment.Goals.{After-metadata_len, In_ok-size, Start}

abbrev given_lists : Start → Lists
given_lists c =
    let a = c.args in
    lists a.ids.now a.lengths.now a.text.now a.ends.now a.posting_counts.now a.posting_ids.now
    a.position_counts.now a.positions.now

-- the lists passed the check, and what was measured is what the definition has
record Sized (l : Lists) (size : ℕ) : Type 0 where
  passed : (Ok tt) ≡ checked (check_lists l)
  checkable : Checkable l
  few : Small l
  shape : Shape l
  is : size ≡ length (lists_bytes (given l).terms)

sized : (c : In_ok-size) → Sized (let a = c.args in
    lists a.ids.now a.lengths.now a.text.now a.ends.now a.posting_counts.now a.posting_ids.now
    a.position_counts.now a.positions.now) c.in_ok-size.size
sized c =
    let l = (let a = c.args in
    lists a.ids.now a.lengths.now a.text.now a.ends.now a.posting_counts.now a.posting_ids.now
    a.position_counts.now a.positions.now) in
    let m = measured_passed (check_lists l) _ c.in_ok-size.ensures in
    let k = passed_checkable l m.0 in
    record { passed = m.0; checkable = k; few = small_gives l k.small; shape = shaped_gives l k.shaped; is = m.1 }

pub returns-in_err-size : goal.returns-in_err-size
returns-in_err-size c =
    let l = given_lists (goal.at.returns-in_err-size c).Start in
    let p = err_from_is_err_and c.from_residual.result c.from_residual.ensures.1 in
    rw (p.1, p.2) (wrote_refusal l c.args.out.now (measured_refused (check_lists l) _ c.in_err-size.ensures))

pub overflow_mul-names : goal.overflow_mul-names
overflow_mul-names c = let s = (sized c).few in omega arith

pub overflow_add-names : goal.overflow_add-names
overflow_add-names c = let s = (sized c).few in omega arith

pub overflow_add-metadata : goal.overflow_add-metadata
overflow_add-metadata c = let s = (sized c).few in omega arith

pub metadata_len-requires : goal.metadata_len-requires
metadata_len-requires c = ((sized c).shape.documents, (sized c).few.ids)

-- what was measured is what the definitions have
metadata-is : (c : After-metadata_len) → c.metadata_len.result ≡ length (metadata_bytes None (given (let a = c.args in
    lists a.ids.now a.lengths.now a.text.now a.ends.now a.posting_counts.now a.posting_ids.now
    a.position_counts.now a.positions.now)).documents)
unfolding given
metadata-is c = c.metadata_len.ensures

metadata-low : (c : After-metadata_len) → length c.args.ids.now ≤ 16777216 → c.metadata_len.result ≤ 167772160
metadata-low c few =
    omega (arith, c.metadata_len.ensures, flat_metadata_size c.args.ids.now c.args.lengths.now)

end_is : (c : After-metadata_len) → Sized (let a = c.args in
    lists a.ids.now a.lengths.now a.text.now a.ends.now a.posting_counts.now a.posting_ids.now
    a.position_counts.now a.positions.now) c.in_ok-size.size
    → 72 + length c.args.ends.now * 32 + length c.args.text.now + c.metadata_len.result + c.in_ok-size.size
    ≡ length (segment_bytes (given (let a = c.args in
    lists a.ids.now a.lengths.now a.text.now a.ends.now a.posting_counts.now a.posting_ids.now
    a.position_counts.now a.positions.now)))
end_is c s =
    omega (
      arith,
      segment_length (let a = c.args in
          lists a.ids.now a.lengths.now a.text.now a.ends.now a.posting_counts.now a.posting_ids.now
          a.position_counts.now a.positions.now) s.shape,
      metadata-is c,
      s.is,
    )

pub overflow_add-lists : goal.overflow_add-lists
overflow_add-lists c =
    let s = (sized (goal.at.overflow_add-lists c).In_ok-size).few in
    omega (arith, metadata-low c s.ids)

pub overflow_add-end : goal.overflow_add-end
overflow_add-end c =
    let at = goal.at.overflow_add-end c in
    let s = sized at.In_ok-size in
    let few = s.few in
    omega (arith, metadata-low at.After-metadata_len few.ids, s.is, lists_small (given_lists at.Start) few s.shape)

pub returns-then-out-end : goal.returns-then-out-end
returns-then-out-end c =
    let at = goal.at.returns-then-out-end c in
    let s = sized at.In_ok-size in
    wrote_no_room (given_lists at.Start) c.args.out.now s.passed (end_is at.After-metadata_len s) c.if-out-end.true

pub put_segment-requires : goal.put_segment-requires
put_segment-requires c =
    let at = goal.at.put_segment-requires c in
    let s = sized at.In_ok-size in
    record {
      checkable = s.checkable;
      names = omega arith;
      metadata = refl;
      lists = rw (metadata-is at.After-metadata_len);
      end = rw s.is;
      room = c.if-out-end.false;
    }

pub returns : goal.returns
returns c =
    let at = goal.at.returns c in
    let s = sized at.In_ok-size in
    wrote_all (given_lists at.Start) c.args.out.now s.passed (end_is at.After-metadata_len s) c.if-out-end.false
    c.put_segment.ensures
