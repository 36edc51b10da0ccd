-- What is left to check, behind the id before, answers as the whole does.
use Rattle.std.specs.Prelude.{None, Some}
use mathlib.Core.Path.{◌≡◌}
use Prim.Native.Nat.{◌-◌}
use lib.ListN.{drop, get_or}
use Rattle.segment.specs.Metadata.{document}
use Rattle.segment.specs.Steps.{checked}
use Rattle.common.specs.Lists.{paired}
use Rattle.calls.specs.Checks.{check_documents}
use Rattle.write_checks.proofs.check.check_document_lengths.Given as goal

abbrev pub invariant-loop-i : goal.invariant-loop-i
invariant-loop-i l =
    (checked (check_documents (Some (get_or l.ids (l.i - 1) 0)) (paired document (drop l.i l.ids) (drop l.i l.lengths)))
    ≡ checked (check_documents None (paired document l.ids l.lengths)))
