use native.Mathlib.Omega.{arith}
use Rattle.common.proofs.Stores.{stored_length}
use Rattle.show_columns.proofs.Columns.{past_number}
use Rattle.show_sheet.proofs.Drawn.{heading_stored}
use Rattle.show_sheet.proofs.sheet.put_heading.Goals as goal

pub put_number-next-requires-2 : goal.put_number-next-requires-2
put_number-next-requires-2 c =
    let id = c.put_number-next.ensures in
    (omega arith, omega (arith, past_number _ id (omega arith), stored_length id))

pub put_spaces-end-requires : goal.put_spaces-end-requires
put_spaces-end-requires c =
    let len = c.put_number-next-2.ensures in
    let id = c.put_number-next.ensures in
    omega (arith, past_number _ id (omega arith), stored_length id, past_number _ len (omega arith), stored_length len)

pub put_end-requires : goal.put_end-requires
put_end-requires c =
    let blank = c.put_spaces-end.ensures in
    let len = c.put_number-next-2.ensures in
    let id = c.put_number-next.ensures in
    omega (
      arith,
      past_number _ id (omega arith),
      stored_length id,
      past_number _ len (omega arith),
      stored_length len,
      blank.past,
      stored_length blank,
    )

pub returns : goal.returns
returns c =
    let blank = c.put_spaces-end.ensures in
    let len = c.put_number-next-2.ensures in
    let id = c.put_number-next.ensures in
    heading_stored _ _ id len blank c.put_end.ensures
