use mathlib.Core.Path.{◌≡◌}
use Rattle.read_cursors.specs.Held.{seek_in, PostingAt}
use Rattle.read_cursors.specs.Steps.{postings_from}
use Rattle.read_cursors.proofs.postings.Postings.seek.Given as goal

abbrev pub invariant-loop-c : goal.invariant-loop-c
invariant-loop-c l =
    seek_in (λ (x : PostingAt). x.doc) l.target (postings_from l.bytes l.c)
    ≡ seek_in (λ (x : PostingAt). x.doc) l.target (postings_from l.bytes l.initial.c)

abbrev pub decreases-loop-c : goal.decreases-loop-c
decreases-loop-c l = l.c.remaining
