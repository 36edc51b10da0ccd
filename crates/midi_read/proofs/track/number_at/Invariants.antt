-- What is left to read below the bytes read so far; it keeps the sum small.
use mathlib.Core.Path.{◌≡◌}
use Prim.Native.Nat.{◌+◌, ◌-◌, ◌≤◌}
use Rattle.midi_read.specs.Files.{number_from}
use Rattle.midi_read.proofs.Numbers.{greatest}
use Rattle.midi_read.proofs.track.number_at.Given as goal

abbrev pub invariant-loop-i : goal.invariant-loop-i
invariant-loop-i l =
    (number_from 4 0 l.s l.at ≡ number_from (4 - l.i) l.value l.s (l.at + l.i))
    × (greatest (4 - l.i) l.value ≤ 268435455)
    × (l.at + l.i ≤ 18446744073709551615)
