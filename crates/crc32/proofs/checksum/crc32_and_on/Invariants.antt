use mathlib.Core.Path.{◌≡◌}
use lib.ListN.{drop}
use Rattle.crc32.specs.Parts.{all_taken_in}
use Rattle.crc32.proofs.checksum.crc32_and_on.Given as goal

abbrev pub invariant-loop-next : goal.invariant-loop-next
invariant-loop-next l =
    (all_taken_in l.own (drop l.next-index l.s) ≡ all_taken_in 0xFFFFFFFF l.s)
    × (all_taken_in l.run (drop l.next-index l.s) ≡ all_taken_in l.before l.s)
