-- Past their first gaps, then through every block.
use native.Mathlib.Omega.{arith}
use Rattle.read_many.proofs.Entries.{truthful_empty}
use Rattle.read_many.proofs.lists.lists_sure.Goals as goal

pub walk_blocks-requires : goal.walk_blocks-requires
walk_blocks-requires c = record {
  lists = record { few = omega arith; inside = (c.enter_lists.ensures c.if-not-enter_lists.false).inside };
  truthful = truthful_empty _ 1024;
}
