use Prim.Native.Nat.{◌^◌, ◌≤◌, ◌<◌}
use borrow.Author.Rules.{rules}
use native.Mathlib.Omega.{arith}
use Rattle.ask_match.proofs.Chains.{walk_ok, walk_first, walk_below, walk_over, chained_none, chained_some}
use Rattle.ask_match.proofs.ordered.ordered_here.Goals as goal
use Rattle.ask_match.proofs.ordered.ordered_here.Goals.{After-begin-first}

-- the start is not lowered, and stays below 2 ^ 32, as the position does
firsts : (b : After-begin-first) → let l = b.loop-i in
    (l.start ≤ b.begin-first.result) × (b.begin-first.result < 2 ^ 32) × (b.wide-place.result < 2 ^ 32)
firsts b =
    let l = b.loop-i in (
      walk_first l.invariant.2 b.seek_in-d.ensures (omega arith) (omega arith) b.wide-place.ensures b.begin-first.ensures,
      walk_below l.invariant.2 b.seek_in-d.ensures (omega arith) (omega arith) (2 ^ 32) b.begin-first.ensures (omega (arith, b.seek_in-d.type_inv))
          (omega arith),
      omega (arith, b.seek_in-d.type_inv),
    )

pub returns-then-d-eq0 : goal.returns-then-d-eq0
returns-then-d-eq0 c =
    chained_none c.loop-i.invariant.2 c.seek_in-d.ensures (omega arith) (search rules)

pub loop-i-preserved-then-place-first : goal.loop-i-preserved-then-place-first
loop-i-preserved-then-place-first c =
    let l = c.loop-i in (
      (firsts (goal.at.loop-i-preserved-then-place-first c).After-begin-first).1,
      omega (arith, firsts (goal.at.loop-i-preserved-then-place-first c).After-begin-first),
      walk_ok l.invariant.2 c.seek_in-d.ensures (omega arith) (omega arith) c.wide-place.ensures c.begin-first.ensures (omega arith),
    )

pub loop-i-preserved : goal.loop-i-preserved
loop-i-preserved c =
    let l = c.loop-i in (
      omega (arith, firsts (goal.at.loop-i-preserved c).After-begin-first),
      omega (arith, firsts (goal.at.loop-i-preserved c).After-begin-first),
      walk_over l.invariant.2 c.seek_in-d.ensures (omega arith) (omega arith) (omega arith),
    )

pub returns : goal.returns
returns c = chained_some c.loop-i.invariant.2 (omega arith)
