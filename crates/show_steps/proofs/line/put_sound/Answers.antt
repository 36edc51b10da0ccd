use Rattle.std.specs.Prelude.{None}
use native.Mathlib.Omega.{arith}
use lib.ListN.{drop}
use Rattle.read_cursors.specs.Held.{held_positions}
use Rattle.read_cursors.specs.Steps.{positions_from}
use Rattle.show_steps.proofs.Lines.{past_steps_room, past_hits_room, sound_stored}
use Rattle.show_steps.proofs.line.put_sound.Goals as goal

pub put_hits-end-requires : goal.put_hits-end-requires
put_hits-end-requires c =
    let a = c.args in
    let hits = positions_from a.bytes.now c.start.result in
    let room = past_steps_room a.len a.name.now hits c.requires.2 c.put_name-steps.ensures c.put_steps-hits.ensures in
    (c.requires.0, omega arith)

pub put_end-requires : goal.put_end-requires
put_end-requires c =
    let a = c.args in
    let hits = positions_from a.bytes.now c.start.result in
    past_hits_room a.len a.name.now hits c.requires.2 c.put_name-steps.ensures c.put_steps-hits.ensures
    a.here.count c.put_hits-end.ensures c.requires.0

pub returns : goal.returns
returns c =
    let a = c.args in
    sound_stored a.len a.name.now (held_positions a.here.count None (drop a.here.at a.bytes.now))
    c.start.ensures c.requires.1
    c.put_name-steps.ensures c.put_steps-hits.ensures c.put_hits-end.ensures c.put_end.ensures
