use native.Mathlib.Omega.{arith}
use Rattle.ask_ranked.proofs.Room.{room_most, room_no_ids, room_no_counts, room_enough}
use Rattle.ask_ranked.proofs.lists.check_room.Goals as goal

pub returns-then-most-count_room : goal.returns-then-most-count_room
returns-then-most-count_room c =
    let a = c.args in
    room_most a.bytes.now a.names.now a.id_room a.count_room
    (omega (arith, c.long-most.ensures, c.if-most-id_room.true))
    (omega (arith, c.long-most.ensures, c.if-most-count_room.true))

pub returns-then-id_room-found : goal.returns-then-id_room-found
returns-then-id_room-found c =
    let a = c.args in
    room_no_ids a.bytes.now a.names.now a.id_room a.count_room c.walk_lists-found.ensures c.if-id_room-found.true

pub returns-then-count_room-found : goal.returns-then-count_room-found
returns-then-count_room-found c =
    let a = c.args in
    room_no_counts a.bytes.now a.names.now a.id_room a.count_room c.walk_lists-found.ensures c.if-id_room-found.false
    c.if-count_room-found.true

pub returns : goal.returns
returns c =
    let a = c.args in
    room_enough a.bytes.now a.names.now a.id_room a.count_room c.walk_lists-found.ensures c.if-id_room-found.false
    c.if-count_room-found.false
