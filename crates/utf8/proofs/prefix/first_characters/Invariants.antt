-- The loop's invariant: with what is left from the place on, the characters and octets are those of the whole.
use mathlib.Core.Path.{◌≡◌}
use Prim.Native.Nat.{◌+◌, ◌-◌, ◌≤◌}
use lib.ListN.{length, take, drop}
use Rattle.utf8.specs.Utf8.{text, decoded}
use Rattle.utf8.proofs.prefix.first_characters.Given as goal

abbrev pub invariant-loop-characters : goal.invariant-loop-characters
invariant-loop-characters l =
    (l.octets ≤ length l.s) × (l.characters ≤ l.octets)
    × (l.characters + length (take (l.most - l.characters) (decoded (drop l.octets l.s))) ≡ length (take l.most (decoded l.s)))
    × (l.octets + length (text (take (l.most - l.characters) (decoded (drop l.octets l.s)))) ≡ length (text (take l.most (decoded l.s))))
