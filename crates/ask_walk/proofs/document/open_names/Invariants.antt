use mathlib.Core.Path.{◌≡◌}
use lib.ListN.{length, get_or}
use Rattle.ask_match.specs.Steps.{positions_in}
use Rattle.ask_walk.specs.Steps.{cursors_in, CursorsOpened}
use Rattle.ask_walk.proofs.document.open_names.Given as goal

abbrev pub invariant-loop-i : goal.invariant-loop-i
invariant-loop-i l =
    (length l.cursors ≡ 128)
    × CursorsOpened l.bytes l.i (λ i. get_or l.slot i 0) (cursors_in l.lists) (positions_in l.cursors)
