-- What is left to test, behind the bar before and with the hits that remain, is the whole; and it lies in the slice.
use Rattle.std.specs.Prelude.{None}
use mathlib.Core.Path.{◌≡◌}
use Prim.Native.Nat.{◌+◌, ◌-◌, ◌*◌, ◌≤◌}
use lib.ListN.{drop, get_or}
use Rattle.pad_words.specs.Words.{pad_words, bars_of, held}
use Rattle.pad_words.specs.Whole.{bars_fine}
use Rattle.pad_words.proofs.check.is_whole.Given as goal

abbrev pub invariant-loop : goal.invariant-loop
invariant-loop l =
    (l.at + 3 * (l.count - l.counter) + 2 * l.remaining ≤ pad_words)
    × (bars_fine l.previous l.remaining (bars_of (l.count - l.counter) (drop l.at l.pad)) ≡ bars_fine None (get_or l.pad 1 0) (held l.pad))
