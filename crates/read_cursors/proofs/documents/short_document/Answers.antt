-- A document of two bytes is there as the bytes say.
use native.Mathlib.Omega.{arith}
use Rattle.std.specs.Prelude.{Some}
use mathlib.Core.Path.{◌≡◌}
use Rattle.read_cursors.proofs.QuickSteps.{quick_document}
use Rattle.read_cursors.proofs.documents.short_document.Goals as goal

pub returns : goal.returns
returns c =
    let a = c.args in
    let before : a.previous ≡ Some c.in_ok-before.before = c.in_ok-before.was in
    let ones = c.all_single.ensures c.if-not-all_single.false in
    rw before
    (quick_document a.meta.now a.from.at ones (omega arith) a.index c.in_ok-before.before.0 c.byte-gap.result c.byte-len.result
    c.byte-gap.ensures c.byte-len.ensures (omega arith) (omega arith))
