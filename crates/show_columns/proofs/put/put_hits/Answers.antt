use mathlib.Core.Path.{ap, ◌∙◌}
use native.Mathlib.Omega.{arith}
use lib.ListN.{length-set}
use Rattle.common.proofs.Stores.{stored_length}
use Rattle.show_columns.specs.Steps.{digit_of}
use Rattle.show_columns.proofs.Columns.{hits_stored}
use Rattle.show_columns.proofs.put.put_hits.Goals as goal

pub bounds-out-tens-2 : goal.bounds-out-tens-2
bounds-out-tens-2 c = simp length-set (omega (arith, stored_length c.put_spaces-tens.ensures))

pub returns : goal.returns
returns c =
    hits_stored c.args.n c.requires.0 c.put_spaces-tens.ensures (c.digit.ensures ∙ ap digit_of c.wide.ensures)
