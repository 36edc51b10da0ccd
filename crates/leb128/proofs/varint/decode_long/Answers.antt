-- Each byte with the high bit leaves the rest of the number to read; each way out is one of the answers of proofs/Numbers.antt.
use mathlib.Core.Path.{◌≡◌, ap, ◌∙◌}
use Prim.Native.Nat.{◌+◌}
use native.Mathlib.Omega.{arith}
use lib.ListN.{drop}
use Rattle.leb128.specs.Leb128.{below, uleb128}
use Rattle.leb128.proofs.Numbers.{more, last, out, refused, value, fifth, four_lt, four_eq, five_lt, five_eq}
use Rattle.leb128.proofs.varint.decode_long.Goals as goal
use Rattle.leb128.proofs.varint.decode_long.Goals.{Else-b2-lt128, Else-b3-lt128}

after3 : (c : Else-b2-lt128)
    → uleb128 (drop (c.args.at + 2) c.args.s.now) ≡ below c.from-b2.result (uleb128 (drop (c.args.at + 2 + 1) c.args.s.now))
after3 c = more _ _ c.from-b2.ensures c.in_ok-get.ensures.lookup.3 c.if-b2-lt128.false

after4 : (c : Else-b3-lt128)
    → uleb128 (drop (c.args.at + 2) c.args.s.now)
    ≡ below c.from-b2.result (below c.from-b3.result (uleb128 (drop (c.args.at + 2 + 1 + 1) c.args.s.now)))
after4 c =
    more _ _ c.from-b2.ensures c.in_ok-get.ensures.lookup.3 c.if-b2-lt128.false
    ∙ ap (below c.from-b2.result) (more _ _ c.from-b3.ensures c.in_ok-get-2.ensures.lookup.3 c.if-b3-lt128.false)

pub returns-in_err-get : goal.returns-in_err-get
returns-in_err-get c =
    rw c.from_residual.ensures
    (refused c.args.at _ (ap (λ x. below c.args.b0 (below c.args.b1 x)) (out _ _ c.in_err-get.ensures.lookup.3)))

pub returns-then-b2-lt128 : goal.returns-then-b2-lt128
returns-then-b2-lt128 c =
    c.found.ensures
    ∙ value c.args.at _ _ _ _ _
    (ap (λ x. below c.args.b0 (below c.args.b1 x)) (last _ _ c.from-b2.ensures c.in_ok-get.ensures.lookup.3 c.if-b2-lt128.true))
    (omega arith) (omega arith) (omega arith) (omega arith)

pub returns-in_err-get-2 : goal.returns-in_err-get-2
returns-in_err-get-2 c =
    rw c.from_residual-in_err-get-2.ensures
    (refused c.args.at _
    (ap (λ x. below c.args.b0 (below c.args.b1 x))
    (after3 (goal.at.returns-in_err-get-2 c).Else-b2-lt128
    ∙ ap (below c.from-b2.result) (out _ _ c.in_err-get-2.ensures.lookup.3))))

pub returns-then-b3-lt128 : goal.returns-then-b3-lt128
returns-then-b3-lt128 c =
    c.found-then-b3-lt128.ensures
    ∙ value c.args.at _ _ _ _ _
    (ap (λ x. below c.args.b0 (below c.args.b1 x))
    (after3 (goal.at.returns-then-b3-lt128 c).Else-b2-lt128
    ∙ ap (below c.from-b2.result) (last _ _ c.from-b3.ensures c.in_ok-get-2.ensures.lookup.3 c.if-b3-lt128.true)))
    (omega arith)
    (four_lt c.args.b0 c.args.b1 c.from-b2.result c.from-b3.result c.if-b3-lt128.true)
    (four_eq c.args.b0 c.args.b1 c.from-b2.result c.from-b3.result c.if-b3-lt128.true)
    (omega arith)

pub returns-in_err-get-3 : goal.returns-in_err-get-3
returns-in_err-get-3 c =
    rw c.from_residual-in_err-get-3.ensures
    (refused c.args.at _
    (ap (λ x. below c.args.b0 (below c.args.b1 x))
    (after4 (goal.at.returns-in_err-get-3 c).Else-b3-lt128
    ∙ ap (λ x. below c.from-b2.result (below c.from-b3.result x)) (out _ _ c.in_err-get-3.ensures.lookup.3))))

pub returns-then-b4-ge16 : goal.returns-then-b4-ge16
returns-then-b4-ge16 c =
    fifth c.args.at _ _ _ _ _ _ _
    (ap (λ x. below c.args.b0 (below c.args.b1 x)) (after4 (goal.at.returns-then-b4-ge16 c).Else-b3-lt128))
    c.from-b4.ensures c.in_ok-get-3.ensures.lookup.3 c.if-b4-ge16.true

pub returns : goal.returns
returns c =
    c.found-2.ensures
    ∙ value c.args.at _ _ _ _ _
    (ap (λ x. below c.args.b0 (below c.args.b1 x))
    (after4 (goal.at.returns c).Else-b3-lt128
    ∙ ap (λ x. below c.from-b2.result (below c.from-b3.result x))
    (last _ _ c.from-b4.ensures c.in_ok-get-3.ensures.lookup.3 (omega arith))))
    (omega arith)
    (five_lt c.args.b0 c.args.b1 c.from-b2.result c.from-b3.result c.from-b4.result c.if-b4-ge16.false)
    (five_eq c.args.b0 c.args.b1 c.from-b2.result c.from-b3.result c.from-b4.result c.if-b4-ge16.false)
    (omega arith)
