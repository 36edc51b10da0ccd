use mathlib.Core.Path.{ap}
use Prim.Native.Nat.{◌^◌, ◌<◌}
use lib.ListN.{length}
use native.Mathlib.Omega.{arith}
use Rattle.read_cursors.specs.Steps.{positions_from}
use Rattle.read_cursors.proofs.Seeks.{seek_stop, seek_end, seek_next, rest_length}
use Rattle.read_cursors.proofs.Rising.{from_few}
use Rattle.ask_match.proofs.Members.{ahead}
use Rattle.ask_match.proofs.pass.pass.Goals as goal
use Rattle.ask_match.proofs.pass.pass.Goals.{Start}

few : (c : Start) → length (positions_from c.args.bytes.now c.args.from) < 2 ^ 32
few c = let p = c.args.from in omega (arith, from_few c.args.bytes.now p.remaining p.at p.pos.0)

pub returns-then-target-wide : goal.returns-then-target-wide
returns-then-target-wide c =
    let i = c.loop-to.invariant in
    record {
      holds = seek_stop _ (ahead _ c.loop-to.to) i.0 (omega arith);
      reached = λ h. omega arith;
      count = i.2;
      few = few (goal.at.returns-then-target-wide c).Start;
    }

pub loop-to-preserved : goal.loop-to-preserved
loop-to-preserved c =
    let i = c.loop-to.invariant in
    let a = ahead c.args.bytes.now c.loop-to.to in
    let r = c.advance-to.ensures.holds in
    (seek_next _ a i.0 (omega arith) r, omega arith, omega (arith, ap length r, rest_length a (omega arith)))

pub returns : goal.returns
returns c =
    let i = c.loop-to.invariant in
    record {
      holds = seek_end _ (ahead _ c.loop-to.to) i.0 (omega arith);
      reached = λ h. absurd (omega arith);
      count = i.2;
      few = few (goal.at.returns c).Start;
    }
