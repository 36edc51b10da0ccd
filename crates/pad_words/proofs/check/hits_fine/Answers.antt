use mathlib.Core.Path.{◌≡◌, sym, ◌∙◌}
use Prim.Native.Nat.{◌+◌, ◌*◌}
use Rattle.pad_words.proofs.Checking.{hits_next, hits_stop, hits_done}
use native.Mathlib.Omega.{arith}
use Rattle.pad_words.proofs.check.hits_fine.Goals as goal

pub returns-then-not-hit_fine : goal.returns-then-not-hit_fine
returns-then-not-hit_fine c =
    let a = c.args in
    hits_stop a.len _ a.pad.now (a.from + 2 * c.loop-i.i) a.count c.loop-i.i c.loop-i.invariant c.loop-i-test.true
    (sym c.if-not-hit_fine.true ∙ c.hit_fine.ensures)

pub loop-i-preserved : goal.loop-i-preserved
loop-i-preserved c =
    let a = c.args in
    let i = c.loop-i.i in
    let e : a.from + 2 * (i + 1) ≡ a.from + 2 * i + 2 = omega arith in
    rw e
    (hits_next a.len _ a.pad.now (a.from + 2 * i) a.count i c.loop-i.invariant c.loop-i-test.true
    (sym c.if-not-hit_fine.false ∙ c.hit_fine.ensures))

pub returns : goal.returns
returns c =
    let a = c.args in
    hits_done a.len _ a.pad.now (a.from + 2 * c.loop-i.i) a.count c.loop-i.i c.loop-i.invariant c.loop-i-test.false
