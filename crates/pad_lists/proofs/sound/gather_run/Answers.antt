use mathlib.Core.Path.{◌≡◌}
use Prim.Native.Nat.{◌+◌, ◌*◌}
use lib.ListN.{drop}
use Rattle.calls.proofs.Filling.{to_start, next_stored, all_stored}
use Rattle.pad_words.specs.Words.{hits_of}
use Rattle.pad_words.proofs.Steps.{hits_many}
use Rattle.pad_lists.proofs.Runs.{leading_few, run_start, run_next, run_stop, run_end}
use native.Mathlib.Omega.{arith}
use Rattle.pad_lists.proofs.sound.gather_run.Goals as goal

pub loop-taken-init : goal.loop-taken-init
loop-taken-init c =
    let a = c.args in
    let hits = hits_of a.remaining (drop a.from a.pad.now) in
    let from : a.from + 0 ≡ a.from = omega arith in
    let filled : a.filled + 0 ≡ a.filled = omega arith in
    rw (from, filled)
    (to_start (run_start a.sound a.pad.now a.from a.remaining)
    (omega (arith, leading_few a.sound hits, hits_many a.remaining (drop a.from a.pad.now))))

pub returns-then-pad-at : goal.returns-then-pad-at
returns-then-pad-at c =
    all_stored c.loop-taken.invariant (run_stop _ c.args.pad.now _ _ _ c.loop-taken-test.true c.if-pad-at.true)

pub loop-taken-preserved : goal.loop-taken-preserved
loop-taken-preserved c =
    let a = c.args in
    let i = c.loop-taken.taken in
    let at : a.from + 2 * (i + 1) ≡ a.from + 2 * i + 2 = omega arith in
    let next : a.filled + (i + 1) ≡ a.filled + i + 1 = omega arith in
    rw (at, next)
    (next_stored c.loop-taken.invariant (run_next _ a.pad.now _ _ _ c.loop-taken-test.true c.if-pad-at.false))

pub returns : goal.returns
returns c =
    let a = c.args in
    let i = c.loop-taken.taken in
    let all : a.filled + a.remaining ≡ a.filled + i = omega arith in
    rw all
    (all_stored c.loop-taken.invariant (run_end _ a.pad.now (a.from + 2 * i) _ i c.loop-taken-test.false))
