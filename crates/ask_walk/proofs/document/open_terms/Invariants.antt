use mathlib.Core.Path.{◌≡◌}
use lib.ListN.{length}
use Rattle.ask_match.specs.Steps.{positions_in}
use Rattle.ask_walk.specs.Steps.{cursors_in, CursorsOpened}
use Rattle.ask_walk.proofs.document.open_terms.Given as goal

abbrev pub invariant-loop-k : goal.invariant-loop-k
invariant-loop-k l =
    (length l.cursors ≡ 128)
    × CursorsOpened l.bytes l.k (λ k. k) (cursors_in l.lists) (positions_in l.cursors)
