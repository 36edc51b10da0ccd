use mathlib.Core.List.{map}
use lib.ListN.{take}
use Rattle.common.proofs.Stores.{Storing}
use Rattle.calls.specs.Listing.{shown}
use Rattle.show_columns.proofs.put.put_shown.Given as goal

abbrev pub invariant-loop-i : goal.invariant-loop-i
invariant-loop-i l = Storing (map shown (take l.count l.s)) l.at l.initial.out l.i l.out
