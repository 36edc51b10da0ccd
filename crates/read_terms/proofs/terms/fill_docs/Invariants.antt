use Rattle.std.specs.Prelude.{None}
use lib.ListN.{drop}
use Rattle.read_cursors.specs.Held.{held_postings}
use Rattle.read_cursors.specs.Steps.{postings_from}
use Rattle.calls.proofs.Filling.{ToStore}
use Rattle.read_terms.proofs.Turns.{spot_docs}
use Rattle.read_terms.proofs.terms.fill_docs.Given as goal

abbrev pub invariant-loop-c : goal.invariant-loop-c
invariant-loop-c l =
    ToStore (spot_docs (held_postings l.df None (drop l.at l.bytes))) 0 l.initial.ids (spot_docs (postings_from l.bytes l.c)) l.i l.ids

abbrev pub decreases-loop-c : goal.decreases-loop-c
decreases-loop-c l = l.c.remaining
