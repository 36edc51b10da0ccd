-- What is left to look through answers as the whole does, and lies in the slice.
use mathlib.Core.Path.{◌≡◌}
use Prim.Native.Nat.{◌+◌, ◌-◌, ◌≤◌}
use lib.ListN.{length, drop}
use Rattle.pad_words.specs.Words.{size, bars_of, held}
use Rattle.pad_words.specs.Steps.{place_from}
use Rattle.pad_words.proofs.place.place_of.Given as goal

abbrev pub invariant-loop : goal.invariant-loop
invariant-loop l =
    (l.at + size (bars_of (l.end - l.counter) (drop l.at l.pad)) ≤ length l.pad)
    × (place_from l.at (bars_of (l.end - l.counter) (drop l.at l.pad)) l.id ≡ place_from 2 (held l.pad) l.id)
