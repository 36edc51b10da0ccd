-- Ids and lengths of the bars from i on are left to be stored.
use Rattle.pad_lists.proofs.Columns.{Columns}
use Rattle.pad_lists.proofs.documents.gather_documents.Given as goal

abbrev pub invariant-loop-i : goal.invariant-loop-i
invariant-loop-i l = Columns l.pad l.at l.i l.ids l.lengths
