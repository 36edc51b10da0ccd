use mathlib.Core.Path.{refl}
use Prim.Native.Nat.{ℕ}
use native.Mathlib.Omega.{arith}
use Rattle.read_cursors.specs.Steps.{positions_from}
use Rattle.read_cursors.proofs.Seeks.{Ahead, seek_stop, seek_end, seek_next}
use Rattle.read_cursors.proofs.Entering.{positions_ahead}
use Rattle.read_cursors.proofs.positions.Positions.seek.Goals as goal
use Rattle.read_cursors.proofs.positions.Positions.seek.Goals.{At-loop-c}

ahead : (l : At-loop-c)
    → let p = l.loop-c.c in Ahead (λ (p : ℕ). p) p.pos.0 p.remaining (positions_from l.args.bytes.now p)
ahead l = let p = l.loop-c.c in positions_ahead _ p.remaining p.at p.pos.0

pub loop-c-init : goal.loop-c-init
loop-c-init c = refl

pub returns-then-target-c : goal.returns-then-target-c
returns-then-target-c c =
    record { holds = seek_stop _ (ahead (goal.at.returns-then-target-c c).At-loop-c) c.loop-c.invariant (omega arith); reached = λ h. omega arith }

pub loop-c-preserved : goal.loop-c-preserved
loop-c-preserved c =
    seek_next _ (ahead (goal.at.loop-c-preserved c).At-loop-c) c.loop-c.invariant (omega arith) c.advance-c.ensures.holds

pub returns : goal.returns
returns c =
    record { holds = seek_end _ (ahead (goal.at.returns c).At-loop-c) c.loop-c.invariant (omega arith); reached = λ h. absurd (omega arith) }
