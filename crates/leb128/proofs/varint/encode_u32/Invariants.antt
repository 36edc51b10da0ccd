use mathlib.Core.Path.{◌≡◌}
use Prim.Native.Nat.{◌+◌, ◌^◌, ◌<◌}
use lib.ListN.{length}
use lib.Seq.{sets}
use Rattle.leb128.specs.Leb128.{encoded}
use Rattle.leb128.proofs.varint.encode_u32.Given as goal

abbrev pub invariant-loop-rest : goal.invariant-loop-rest
invariant-loop-rest l =
    (l.rest < 2 ^ 32)
    × (l.i + length (encoded l.rest) ≡ l.at + length (encoded l.x))
    × (length l.out ≡ length l.initial.out)
    × (sets l.out l.i (encoded l.rest) ≡ sets l.initial.out l.at (encoded l.x))

abbrev pub decreases-loop-rest : goal.decreases-loop-rest
decreases-loop-rest l = l.rest
