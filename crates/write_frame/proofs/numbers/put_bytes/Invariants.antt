-- Once the bytes still to come are stored too, all are.
use Rattle.common.proofs.Stores.{Storing}
use Rattle.write_frame.proofs.numbers.put_bytes.Given as goal

abbrev pub invariant-loop-i : goal.invariant-loop-i
invariant-loop-i l = Storing l.bytes l.at l.initial.out l.i l.out
