use Prim.Native.Nat.{◌+◌, ◌^◌}
use borrow.Author.Tests.{lt-ltb, le-ltb, lt-leb, le-leb}
use native.Mathlib.Omega.{arith}
use Rattle.read_open.proofs.header.checked_end.Goals as goal

pub returns-then-at-n : goal.returns-then-at-n
returns-then-at-n g c =
    let a = c.args in
    rw (le-ltb (a.at + a.n) (2 ^ 64) (omega arith))

pub returns-then-whole-at : goal.returns-then-whole-at
returns-then-whole-at g c =
    let a = c.args in
    rw (lt-ltb (a.at + a.n) (2 ^ 64) (omega arith), lt-leb (a.at + a.n) a.whole (omega arith))

pub returns : goal.returns
returns g c =
    let a = c.args in
    rw (lt-ltb (a.at + a.n) (2 ^ 64) (omega arith), le-leb (a.at + a.n) a.whole (omega arith))
