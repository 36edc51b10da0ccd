-- The hint has the id, the search found it, or it is nowhere.
use mathlib.Core.Path.{sym}
use Rattle.std.proofs.Common.{Err, Ok}
use Rattle.std.proofs.lemmas.List.Sorted.{searched}
use Rattle.write_lookup.proofs.Searching.{no_lower, nowhere, length_found, length_missing}
use Rattle.write_lookup.proofs.lengths.known_len.Goals as goal

pub returns-then-ids-hint : goal.returns-then-ids-hint
returns-then-ids-hint c =
    sym (length_found c.args.ids.now c.args.lengths.now _ _ c.requires.0 c.requires.1 c.if-ids-hint.true c.if-hint-ids.true)

pub returns-in-Ok : goal.returns-in-Ok
returns-in-Ok c =
    let a = c.args in
    let f = searched a.ids.now a.id.0 (Ok c.in-Ok.at) c.in-Ok.ensures.position (no_lower a.ids.now c.requires.0) in
    sym (length_found a.ids.now a.lengths.now _ _ c.requires.0 c.requires.1 f.1 f.0)

pub returns-in-Err : goal.returns-in-Err
returns-in-Err c =
    let a = c.args in
    let f = searched a.ids.now a.id.0 (Err c.in-Err.field-0) c.in-Err.ensures.position (no_lower a.ids.now c.requires.0) in
    sym (length_missing a.ids.now a.lengths.now _ (nowhere a.ids.now _ _ f.1 f.2))
