-- Four stores, one behind the other.
use Rattle.common.proofs.Stores.{stored_four}
use Rattle.write_frame.proofs.numbers.put_four_u64.Goals as goal

pub returns : goal.returns
returns c =
    stored_four c.put_u64-second.ensures c.put_u64-third.ensures c.put_u64-fourth.ensures c.put_u64.ensures
