use Rattle.std.specs.Prelude.{Ok}
use mathlib.Core.Path.{sym, ◌∙◌}
use native.Mathlib.Omega.{arith}
use lib.ListN.{length}
use Rattle.std.proofs.lemmas.Result.{err_from_is_err_and}
use Rattle.ask_ranked.specs.Steps.{ListsCounted, RoomChecked}
use Rattle.ask_ranked.proofs.Stored.{lists_counted, lists_short, some_room, lists_ranked}
use Rattle.ask_ranked.proofs.lists.rank_lists.Goals as goal
use Rattle.ask_ranked.proofs.lists.rank_lists.Goals.{After-walk_starts-found}

room : (w : After-walk_starts-found) → let a = w.args in
    RoomChecked a.bytes.now a.names.now (length a.ids.now) (length a.counts.now) (Ok tt)
room w own ns f = sym w.in_ok-check_room.was ∙ w.check_room.ensures own ns f

walked : (w : After-walk_starts-found) → let a = w.args in
    let f = w.walk_starts-found in
    ListsCounted a.bytes.now a.names.now a.ids.now a.counts.now f.result f.new.ids f.new.counts
walked w = lists_counted w.args.bytes.now w.args.names.now w.requires.1 w.open_lists.ensures w.walk_starts-found.ensures

pub returns-in_err-check_room : goal.returns-in_err-check_room
returns-in_err-check_room c =
    let a = c.args in
    let p = err_from_is_err_and c.from_residual.result c.from_residual.ensures.1 in
    rw (p.1, p.2) (lists_short a.bytes.now a.names.now a.ids.now a.counts.now (rw c.in_err-check_room.was at c.check_room.ensures))

pub rank-requires : goal.rank-requires
rank-requires c =
    let a = c.args in
    let w = (goal.at.rank-requires c).After-walk_starts-found in
    let r = some_room a.bytes.now a.names.now a.ids.now a.counts.now (room w) (walked w) c.requires.3 in
    (omega (arith, r.0, c.walk_starts-found.auto), omega (arith, r.1, c.walk_starts-found.auto))

pub returns : goal.returns
returns c =
    let a = c.args in
    let w = (goal.at.returns c).After-walk_starts-found in
    lists_ranked a.bytes.now a.names.now a.ids.now a.counts.now (room w) (walked w) c.rank.ensures
