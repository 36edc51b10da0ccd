use mathlib.Core.Path.{◌∙◌}
use mathlib.Core.List.{[]}
use borrow.Author.Rules.{rules}
use native.Mathlib.Omega.{arith}
use Rattle.ask_walk.proofs.Leaps.{cursors_start, leapt_since, ended_since, leapt_past}
use Rattle.ask_walk.proofs.Walks.{tallies_start, tallies_hit, tallies_miss, tallies_end}
use Rattle.ask_walk.proofs.walk_starts.walk_starts.Goals as goal
use Rattle.ask_walk.proofs.walk_starts.walk_starts.Goals.{then-times-gt0, else-times-gt0}

pub loop-next-init : goal.loop-next-init
loop-next-init c = (search rules, cursors_start _ _ _, tallies_start)

pub overflow_add-found : goal.overflow_add-found
overflow_add-found c =
    let l = c.loop-next in
    omega (arith, l.invariant.0, (l.invariant.2.in_ids []).few)

pub loop-next-preserved : goal.loop-next-preserved
loop-next-preserved c =
    let told = c.document_starts-times.ensures in
    let l = c.loop-next in
    let at = leapt_since l.invariant.1 c.in-Some.ensures in
    let any = c.requires.2 in
    rw c.wide-from.ensures (
      omega arith,
      leapt_past at,
      (elim c.if-times-gt0.branch [
        | then-times-gt0 w ↦
            tallies_hit l.invariant.2 at told any w.if-times-gt0.true (w.ids-is ∙ w.put.ensures)
            (w.counts-is ∙ w.put-then-times-gt0.ensures) w.found-is
        | else-times-gt0 w ↦ tallies_miss l.invariant.2 at told (omega (arith, w.if-times-gt0.false)) w.ids-is w.counts-is w.found-is
      ]),
    )

pub returns : goal.returns
returns c =
    let l = c.loop-next in
    tallies_end l.invariant.2 c.requires.1 (ended_since l.invariant.1 c.in_default.ensures)
