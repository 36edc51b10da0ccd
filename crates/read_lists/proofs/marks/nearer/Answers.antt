use native.Mathlib.Omega.{arith}
use Rattle.read_lists.proofs.Nearer.{mark_past, mark_behind, mark_taken}
use Rattle.read_lists.proofs.marks.nearer.Goals as goal

pub returns-then-doc-mark : goal.returns-then-doc-mark
returns-then-doc-mark c = let a = c.args in mark_past a.known a.mark a.doc (omega (arith, c.if-doc-mark.true))

pub returns-then-mark-known : goal.returns-then-mark-known
returns-then-mark-known c =
    let a = c.args in
    mark_behind a.known a.mark a.doc (omega (arith, c.if-doc-mark.false)) (omega (arith, c.if-mark-known.true))

pub returns : goal.returns
returns c =
    let a = c.args in
    mark_taken a.known a.mark a.doc (omega (arith, c.if-doc-mark.false)) (omega (arith, c.if-mark-known.false))
