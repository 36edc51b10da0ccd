-- A short posting, or number by number.
use mathlib.Core.Path.{refl}
use Prim.Native.Nat.{◌+◌}
use native.Mathlib.Omega.{arith}
use Rattle.read_many.proofs.Passing.{one_byte, stepped_on}
use Rattle.read_many.proofs.postings.past_posting.Goals as goal

pub returns : goal.returns
returns c =
    let a = c.args in
    let s = c.in-Some.ensures in
    let past = a.from.at + 1 + c.in-Some.count in
    stepped_on a.list.now a.len a.from past (omega arith) s.posted
    (one_byte a.list.now past _ _ (omega (arith, s.room)) c.byte-gap.ensures (omega (arith, s.low, c.byte-gap.ensures)) refl)
    (omega (arith, s.up, c.byte-gap.ensures)) (omega arith)
