use mathlib.Core.Path.{refl}
use native.Mathlib.Omega.{arith}
use Rattle.common.proofs.Loops.{drop_step}
use Rattle.common.proofs.Stores.{storing_start, storing_next, storing_end}
use Rattle.write_frame.proofs.numbers.put_bytes.Goals as goal

pub loop-i-init : goal.loop-i-init
loop-i-init c = storing_start _ _ _

pub loop-i-preserved : goal.loop-i-preserved
loop-i-preserved c =
    let l = c.loop-i in
    storing_next l.invariant refl (drop_step c.args.bytes.now l.i 0 (omega arith))

pub returns : goal.returns
returns c = storing_end c.loop-i.invariant (omega arith) (omega arith)
