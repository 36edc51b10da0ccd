-- What the search is given: at a turn of the positions, and at a posting.
use Rattle.common.proofs.Loops.{drop_step, drop_end}
use Rattle.leb128.proofs.Shortest.{encoded_size}
use Rattle.calls.proofs.Lengths.{positions_size}

pub ruleset turn = (drop_step, drop_end, positions_size)

pub ruleset sizes = (encoded_size, positions_size)
