use native.Mathlib.Omega.{arith}
use Rattle.common.proofs.Stores.{stored_append}
use Rattle.show_columns.proofs.Columns.{past_number}
use Rattle.show_listing.proofs.list.put_pair.Goals as goal

pub put_number-end-requires : goal.put_number-end-requires
put_number-end-requires c = (omega arith, omega (arith, past_number _ c.put_number-second.ensures (omega arith)))

pub put_end-requires : goal.put_end-requires
put_end-requires c =
    omega (arith, past_number _ c.put_number-second.ensures (omega arith), past_number _ c.put_number-end.ensures (omega arith))

pub returns : goal.returns
returns c =
    stored_append (stored_append c.put_number-second.ensures c.put_number-end.ensures) c.put_end.ensures
