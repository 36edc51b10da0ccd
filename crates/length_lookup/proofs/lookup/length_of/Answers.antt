-- Where the checks pass the ids rise, which the writer's lookup rests on.
use Rattle.std.proofs.lemmas.Result.{err_from_is_err_and}
use Rattle.std.specs.Prelude.{Ok}
use mathlib.Core.Path.{◌≡◌}
use Rattle.segment.proofs.Accepted.{passed_ok, refused_is}
use Rattle.write_lookup.proofs.Searching.{rises_by_place}
use Rattle.length_lookup.specs.Lookup.{check_ids_and_lengths}
use Rattle.length_lookup.proofs.Checking.{passed_gives}
use Rattle.length_lookup.proofs.Looking.{refused_on, found_on}
use Rattle.length_lookup.proofs.lookup.length_of.Goals as goal
use Rattle.length_lookup.proofs.lookup.length_of.Goals.{In_ok-check_ids_and_lengths}

passes : (c : In_ok-check_ids_and_lengths) → check_ids_and_lengths c.args.ids.now c.args.lengths.now ≡ Ok tt
passes c = (passed_ok _ c.in_ok-check_ids_and_lengths.ensures).1

pub returns-in_err-check_ids_and_lengths : goal.returns-in_err-check_ids_and_lengths
returns-in_err-check_ids_and_lengths c =
    let p = err_from_is_err_and c.from_residual.result c.from_residual.ensures.1 in
    rw (p.1, p.2) (rw (refused_on _ _ _ (refused_is _ c.in_err-check_ids_and_lengths.ensures)))

pub known_len-requires : goal.known_len-requires
known_len-requires c =
    let (side, rises) = passed_gives _ _ (passes c) in
    (rises_by_place c.args.ids.now rises, side.same)

pub returns : goal.returns
returns c = found_on _ _ _ (passes (goal.at.returns c).In_ok-check_ids_and_lengths) _ c.known_len.ensures
