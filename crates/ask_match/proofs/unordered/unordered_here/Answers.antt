use Prim.Native.Nat.{◌+◌, ◌≤◌}
use lib.ListN.{get_or, length-set}
use native.Mathlib.Omega.{arith}
use Rattle.ask_match.specs.Steps.{positions_in}
use Rattle.ask_match.proofs.Leap.{leap_ok, leap_over, found_none, found_some, found_alike}
use Rattle.ask_match.proofs.Views.{windows_show, Slid, slide, views_up, views_set, slid_same, shown, shown_back}
use Rattle.ask_match.proofs.unordered.unordered_here.Goals as goal
use Rattle.ask_match.proofs.unordered.unordered_here.Goals.{After-pass_in-left, After-wide}

-- what the two passes of a turn tell
facts : (p : After-pass_in-left)
    → let l = p.loop-i in
    Slid p.args.bytes.now l.start p.args.window (p.wide-span.result + 1)
    (positions_in l.first l.i) (positions_in l.cursors l.i)
    (get_or l.seen l.i 0) p.pass_in-left.result p.pass_in-right.result
facts p =
    let l = p.loop-i in
    slide _ l.start _ _ (omega arith) (l.invariant.3.at l.i (p.loop-i-test.true))
    p.pass_in-right.ensures.passed p.pass_in-left.ensures.passed

-- a right cursor that has positions left is past the window
far : (c : After-wide)
    → c.loop-i.start + (c.wide-span.result + 1) ≤ c.wide.result
far c =
    omega (arith, c.pass_in-right.ensures.passed.reached (omega arith))

pub overflow_sub-have : goal.overflow_sub-have
overflow_sub-have c = omega (arith, (facts (goal.at.overflow_sub-have c).After-pass_in-left).enough)

pub loop-i-preserved-then-wanted-i : goal.loop-i-preserved-then-wanted-i
loop-i-preserved-then-wanted-i c =
    let l = c.loop-i in
    let f = facts (goal.at.loop-i-preserved-then-wanted-i c).After-pass_in-left in
    let a = c.args in
    let pl = c.pass_in-left.ensures in (
      simp length-set l.invariant.0,
      l.invariant.1,
      leap_ok l.invariant.2 (slid_same a.window a.wanted.now pl)
          (shown a.window a.wanted.now pl l.start (omega (arith, f.count))),
      views_set l.invariant.3 pl.stored c.pass_in-right.ensures.stored (omega arith) f.view,
    )

pub returns-then-right-eq0 : goal.returns-then-right-eq0
returns-then-right-eq0 c =
    let l = c.loop-i in
    let pl = c.pass_in-left.ensures in
    let a = c.args in
    found_alike (windows_show _ a.window a.wanted.now c.open_windows.ensures)
    (found_none l.invariant.2 (omega arith)
    (λ s k m. omega (
      arith,
      (facts (goal.at.returns-then-right-eq0 c).After-pass_in-left).ended s k (omega arith),
      shown_back a.window a.wanted.now pl s ((slid_same a.window a.wanted.now pl).on l.i s k m),
    )))

pub loop-i-preserved : goal.loop-i-preserved
loop-i-preserved c =
    let l = c.loop-i in
    let f = facts (goal.at.loop-i-preserved c).After-pass_in-left in
    let pl = c.pass_in-left.ensures in
    let a = c.args in
    let up = far c in (
      simp length-set l.invariant.0,
      omega (arith, c.pass_in-right.type_inv),
      leap_over l.invariant.2 (slid_same a.window a.wanted.now pl) (omega arith) (omega arith)
          (λ s k m. omega (arith, f.next s k (omega (arith, shown_back a.window a.wanted.now pl s m)))),
      views_up _
          (views_set l.invariant.3 pl.stored c.pass_in-right.ensures.stored (omega arith) f.view)
          (omega arith),
    )

pub returns : goal.returns
returns c =
    let a = c.args in
    found_alike (windows_show a.bytes.now a.window a.wanted.now c.open_windows.ensures)
    (found_some c.loop-i.invariant.2 (omega arith))
