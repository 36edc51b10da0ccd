-- The names taken so far are resolved; the ends that are left fit the text.
use mathlib.Core.Path.{◌≡◌}
use mathlib.Core.Bool.{true}
use lib.ListN.{length, drop}
use Rattle.segment.specs.Texts.{ends_fit, names}
use Rattle.ask_names.proofs.Resolving.{Partly}
use Rattle.ask_names.proofs.lists.resolve.Given as goal

abbrev pub invariant-loop-end : goal.invariant-loop-end
invariant-loop-end l =
    (ends_fit l.from (drop l.end-index l.ends) (length l.text) ≡ true)
    × Partly l.bytes l.at (names 0 l.ends l.text) (names l.from (drop l.end-index l.ends) (drop l.from l.text)) l.found
