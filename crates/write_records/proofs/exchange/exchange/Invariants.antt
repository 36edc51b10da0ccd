use Rattle.std.proofs.Common.{◌≡◌}
use Rattle.write_records.specs.Steps.{three}
use Rattle.write_records.proofs.Exchanging.{after}
use Rattle.write_records.proofs.exchange.exchange.Given as goal

-- the first i indices are exchanged, and nothing else is
abbrev pub invariant-loop-i : goal.invariant-loop-i
invariant-loop-i l = three l.documents l.ids l.lengths ≡ after l.i (three l.initial.documents l.initial.ids l.initial.lengths)
