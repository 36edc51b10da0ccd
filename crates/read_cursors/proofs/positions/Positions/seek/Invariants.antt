use mathlib.Core.Path.{◌≡◌}
use Prim.Native.Nat.{ℕ}
use Rattle.read_cursors.specs.Held.{seek_in}
use Rattle.read_cursors.specs.Steps.{positions_from}
use Rattle.read_cursors.proofs.positions.Positions.seek.Given as goal

abbrev pub invariant-loop-c : goal.invariant-loop-c
invariant-loop-c l =
    seek_in (λ (p : ℕ). p) l.target (positions_from l.bytes l.c) ≡ seek_in (λ (p : ℕ). p) l.target (positions_from l.bytes l.initial.c)

abbrev pub decreases-loop-c : goal.decreases-loop-c
decreases-loop-c l = l.c.remaining
