use native.Mathlib.Omega.{arith}
use Rattle.common.proofs.Stores.{stored_length, stored_append}
use Rattle.show_columns.proofs.Names.{shown_size, first_inside, first_few, name_parts, name_size}
use Rattle.show_columns.proofs.put.put_name.Goals as goal

pub put_shown-past-requires : goal.put_shown-past-requires
put_shown-past-requires c =
    let is = c.first_characters-first.ensures in
    (omega (arith, first_inside _ _ is, first_few _ _ is), omega (arith, c.requires, name_size _ _ is, first_few _ _ is))

pub overflow_sub-width : goal.overflow_sub-width
overflow_sub-width c =
    omega (arith, first_few _ _ c.first_characters-first.ensures)

pub put_spaces-requires : goal.put_spaces-requires
put_spaces-requires c =
    let is = c.first_characters-first.ensures in
    let size = shown_size c.args.name.now c.first_characters-first.result.octets (first_inside _ _ is) in
    let stored = c.put_shown-past.ensures in
    omega (arith, c.requires, name_size _ _ is, size, stored.past, stored_length stored)

pub returns : goal.returns
returns c =
    let is = c.first_characters-first.ensures in
    rw (name_parts _ _ is) (stored_append c.put_shown-past.ensures c.put_spaces.ensures)
