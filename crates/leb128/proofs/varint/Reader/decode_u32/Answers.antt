-- One byte, two bytes, or what the first two make of the rest.
use mathlib.Core.Path.{◌≡◌, sym, ap, ◌∙◌}
use Prim.Native.Nat.{ℕ, ◌+◌}
use native.Mathlib.Omega.{arith}
use lib.ListN.{drop}
use Rattle.leb128.specs.Leb128.{below, uleb128, limited}
use Rattle.leb128.specs.Promise.{decoded}
use Rattle.leb128.proofs.Numbers.{more, last, out, refused, value}
use Rattle.leb128.proofs.varint.Reader.decode_u32.Goals as goal
use Rattle.leb128.proofs.varint.Reader.decode_u32.Goals.{Else-b0-lt128}

after1 : (c : Else-b0-lt128)
    → uleb128 (drop c.args.self.at c.args.s.now) ≡ below c.from-b0.result (uleb128 (drop (c.args.self.at + 1) c.args.s.now))
after1 c = more _ _ c.from-b0.ensures c.in_ok-get.ensures.lookup.3 c.if-b0-lt128.false

pub returns-in_err-get : goal.returns-in_err-get
returns-in_err-get c = rw c.from_residual.ensures (refused c.args.self.at _ (out _ _ c.in_err-get.ensures.lookup.3))

pub returns-then-b0-lt128 : goal.returns-then-b0-lt128
returns-then-b0-lt128 c =
    c.found.ensures
    ∙ value c.args.self.at _ _ _ _ _ (last _ _ c.from-b0.ensures c.in_ok-get.ensures.lookup.3 c.if-b0-lt128.true)
    (omega arith) (omega arith) (omega arith) (omega arith)

pub returns-in_err-get-2 : goal.returns-in_err-get-2
returns-in_err-get-2 c =
    rw c.from_residual-in_err-get-2.ensures
    (refused c.args.self.at _
    (after1 (goal.at.returns-in_err-get-2 c).Else-b0-lt128
    ∙ ap (below c.from-b0.result) (out _ _ c.in_err-get-2.ensures.lookup.3)))

pub returns-then-b1-lt128 : goal.returns-then-b1-lt128
returns-then-b1-lt128 c =
    c.found-then-b1-lt128.ensures
    ∙ value c.args.self.at _ _ _ _ _
    (after1 (goal.at.returns-then-b1-lt128 c).Else-b0-lt128
    ∙ ap (below c.from-b0.result) (last _ _ c.from-b1.ensures c.in_ok-get-2.ensures.lookup.3 c.if-b1-lt128.true))
    (omega arith) (omega arith) (omega arith) (omega arith)

pub returns : goal.returns
returns c =
    let two : c.args.self.at + 1 + 1 ≡ c.args.self.at + 2 = omega arith in
    c.decode_long.ensures
    ∙ ap (λ l. decoded c.args.self.at (limited l))
    (sym (after1 (goal.at.returns c).Else-b0-lt128
    ∙ ap (below c.from-b0.result)
    (more _ _ c.from-b1.ensures c.in_ok-get-2.ensures.lookup.3 c.if-b1-lt128.false
    ∙ ap (λ (k : ℕ). below c.from-b1.result (uleb128 (drop k c.args.s.now))) two)))
