-- A sound without hits is passed over; one with hits passes its name's check, then its postings', or stops at the first refusal.
use Rattle.std.specs.Prelude.{None, Ok, option_map}
use Rattle.std.proofs.Common.{rules}
use Rattle.calls.specs.Checks.{check_name as name_checks, check_postings}
use mathlib.Core.Path.{◌≡◌, sym, ap, ◌∙◌}
use Rattle.std.proofs.lemmas.Result.{err_from_is_err_and}
use native.Mathlib.Omega.{arith}
use lib.ListN.{length}
use Rattle.common.specs.Lists.{paired}
use Rattle.segment.specs.Metadata.{document}
use Rattle.segment.specs.Records.{between}
use Rattle.segment.specs.Steps.{checked}
use Rattle.segment.specs.Written.{postings_bytes}
use Rattle.segment.proofs.Accepted.{passed_ok, refused_is}
use Rattle.write_checks.proofs.Measuring.{measured_refused, measured_passed}
use Rattle.pad_write.specs.Steps.{last_name, gathered}
use Rattle.pad_write.proofs.Parts.{ids_size, counts_size, positions_size, side_by_side, positions_enough, list_low}
use Rattle.pad_write.proofs.Tallying.{tallied_unused, tallied_stop, tallied_list_stop, tallied_next}
use Rattle.pad_write.proofs.measure.measure_sound.Goals as goal
use Rattle.pad_write.proofs.measure.measure_sound.Goals.{In_ok-check_name, In_ok-size}

-- the name passed
named : (c : In_ok-check_name) → let a = c.args in
    name_checks (last_name a.text.now a.tally) (between a.tally.from a.end a.text.now) ≡ Ok tt
named c =
    let a = c.args in
    let last : option_map (λ p. p.now) c.map-last.result ≡ last_name a.text.now a.tally = search rules in
    (passed_ok _ (c.in_ok-check_name.ensures ∙ ap (λ n. checked (name_checks n (between a.tally.from a.end a.text.now))) last)).1

-- the sound's postings passed, with their size
sized : (c : In_ok-size) → let a = c.args in
    let ps = gathered a.posting_ids.now a.counts.now a.positions.now a.got in
    (check_postings (paired document a.ids.now a.lengths.now) None ps ≡ Ok tt) × (c.in_ok-size.size ≡ length (postings_bytes None ps))
sized c =
    let a = c.args in
    let ps = gathered a.posting_ids.now a.counts.now a.positions.now a.got in
    let r = check_postings (paired document a.ids.now a.lengths.now) None ps in
    let (p, is) = measured_passed r (length (postings_bytes None ps)) c.in_ok-size.ensures in
    ((passed_ok r p).1, is)

pub returns-then-n-eq0 : goal.returns-then-n-eq0
returns-then-n-eq0 c = tallied_unused _ _ _ _ _ _ c.if-n-eq0.true

pub slice_bounds-measure_postings-end : goal.slice_bounds-measure_postings-end
slice_bounds-measure_postings-end c =
    sym (ids_size _ _ _ _ c.requires.lists)

pub slice_bounds-measure_postings-end-2 : goal.slice_bounds-measure_postings-end-2
slice_bounds-measure_postings-end-2 c =
    sym (counts_size _ _ _ _ c.requires.lists)

pub slice_bounds-measure_postings-end-3 : goal.slice_bounds-measure_postings-end-3
slice_bounds-measure_postings-end-3 c =
    sym (positions_size _ _ _ _ c.requires.lists)

pub measure_postings-requires : goal.measure_postings-requires
measure_postings-requires c =
    let l = c.requires.lists in (
      c.requires.rises,
      c.requires.documents,
      side_by_side _ _ _ _ l,
      positions_enough _ _ _ _ l,
      omega (arith, counts_size _ _ _ _ l, l.few_postings),
      omega (arith, positions_size _ _ _ _ l, l.few_positions),
    )

pub overflow_add-result-3 : goal.overflow_add-result-3
overflow_add-result-3 c =
    omega (arith, c.requires.lists_low, (sized (goal.at.overflow_add-result-3 c).In_ok-size).1, list_low _ _ _ _ c.requires.lists)

pub returns-in_err-check_name : goal.returns-in_err-check_name
returns-in_err-check_name c =
    let a = c.args in
    let last : option_map (λ p. p.now) c.map-last.result ≡ last_name a.text.now a.tally = search rules in
    let p = err_from_is_err_and c.from_residual.result c.from_residual.ensures.1 in
    rw (p.1, p.2)
    (tallied_stop _ _ _ _ _ _ c.if-n-eq0.false
    (refused_is _ (c.in_err-check_name.ensures ∙ ap (λ n. checked (name_checks n (between a.tally.from a.end a.text.now))) last)))

pub returns-in_err-size : goal.returns-in_err-size
returns-in_err-size c =
    let a = c.args in
    let ps = gathered a.posting_ids.now a.counts.now a.positions.now a.got in
    let r = check_postings (paired document a.ids.now a.lengths.now) None ps in
    let p = err_from_is_err_and c.from_residual-in_err-size.result c.from_residual-in_err-size.ensures.1 in
    rw (p.1, p.2)
    (tallied_list_stop _ _ _ _ _ _ c.if-n-eq0.false (named (goal.at.returns-in_err-size c).In_ok-check_name)
    (refused_is r (measured_refused r (length (postings_bytes None ps)) c.in_err-size.ensures)))

pub returns : goal.returns
returns c =
    let size = sized (goal.at.returns c).In_ok-size in
    tallied_next _ _ _ _ _ _ c.if-n-eq0.false (named (goal.at.returns c).In_ok-check_name) size.0 size.1
