use mathlib.Core.Path.{◌≡◌}
use Prim.Native.Nat.{◌^◌, ◌<◌}
use lib.ListN.{drop}
use Rattle.crc32.specs.Formula.{along}
use Rattle.crc32.proofs.checksum.crc32.Given as goal

abbrev pub invariant-loop-next : goal.invariant-loop-next
invariant-loop-next l = (l.remainder < 2 ^ 32) × (along l.remainder (drop l.next-index l.s) ≡ along 0xFFFFFFFF l.s)
