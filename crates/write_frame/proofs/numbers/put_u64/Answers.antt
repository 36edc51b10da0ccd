-- The low u32, then the high one.
use Rattle.write_frame.proofs.Widths.{fixed_eight}
use Rattle.common.proofs.Stores.{stored_append}
use Rattle.write_frame.proofs.numbers.put_u64.Goals as goal

pub returns : goal.returns
returns c =
    rw (fixed_eight c.args.x)
    (stored_append c.put_u32-next.ensures c.put_u32.ensures)
