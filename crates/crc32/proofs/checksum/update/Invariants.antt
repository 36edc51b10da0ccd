use mathlib.Core.Path.{◌≡◌}
use Prim.Native.Nat.{◌-◌, ◌^◌, ◌<◌}
use lib.Bits.{bit_xor}
use Rattle.crc32.specs.Formula.{steps}
use Rattle.crc32.proofs.checksum.update.Given as goal

abbrev pub invariant-loop : goal.invariant-loop
invariant-loop l = (l.remainder < 2 ^ 32) × (steps (8 - l.counter) l.remainder ≡ steps 8 (bit_xor l.prior l.next))
