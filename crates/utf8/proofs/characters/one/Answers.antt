-- An octet past the end is in no range, and one before it is compared with both ends.
use mathlib.Core.Path.{sym}
use mathlib.Core.List.{[]}
use borrow.Author.Tests.{le-leb, lt-leb}
use Rattle.utf8.specs.Utf8.{range}
use Rattle.utf8.proofs.Ranges.{out, here}
use Rattle.utf8.proofs.characters.one.Goals as goal

pub returns-in_default : goal.returns-in_default
returns-in_default c =
    let a = c.args in
    sym (out (range a.low a.high) [] a.s.now a.at c.in_default.ensures.lookup.3)

pub returns-then-low-b : goal.returns-then-low-b
returns-then-low-b c =
    let a = c.args in
    let read = c.in-Some.ensures.lookup.3 in
    rw (here (range a.low a.high) a.s.now a.at read.0, ← read.1 0, le-leb a.low c.in-Some.field-0.now c.if-low-b.true)

pub returns-else-low-b : goal.returns-else-low-b
returns-else-low-b c =
    let a = c.args in
    let read = c.in-Some.ensures.lookup.3 in
    rw (here (range a.low a.high) a.s.now a.at read.0, ← read.1 0, lt-leb a.low c.in-Some.field-0.now c.if-low-b.false)
