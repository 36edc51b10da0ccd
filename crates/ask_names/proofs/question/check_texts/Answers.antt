use mathlib.Core.Path.{sym, ap, ◌∙◌}
use Prim.Native.Nat.{◌≤◌}
use native.Mathlib.Omega.{arith}
use lib.ListN.{length}
use Rattle.segment.specs.Steps.{checked}
use Rattle.ask_names.proofs.TextTurns.{name_rises, rest_fits, name_ends, texts_next, texts_stop, texts_end}
use Rattle.ask_names.proofs.question.check_texts.Goals as goal
use Rattle.ask_names.proofs.question.check_texts.Goals.{After-long-to}

rises : (c : After-long-to) → c.loop-end.from ≤ c.long-to.result
rises c = name_rises c.args.text.now c.args.ends.now _ _ _ c.loop-end.invariant.0 (omega arith) c.long-to.ensures

inside : (c : After-long-to) → c.long-to.result ≤ length c.args.text.now
inside c = name_ends c.args.text.now c.args.ends.now _ _ _ c.loop-end.invariant.0 (omega arith) c.long-to.ensures

pub slice_bounds-is_utf8-count : goal.slice_bounds-is_utf8-count
slice_bounds-is_utf8-count c = rises c

pub slice_bounds-is_utf8-start : goal.slice_bounds-is_utf8-start
slice_bounds-is_utf8-start c = omega (arith, rises c)

pub slice_bounds-is_utf8-end : goal.slice_bounds-is_utf8-end
slice_bounds-is_utf8-end c = omega (arith, inside c)

pub returns-then-not-is_utf8 : goal.returns-then-not-is_utf8
returns-then-not-is_utf8 c =
    let l = c.loop-end in
    ap checked
    (texts_stop c.args.text.now c.args.ends.now _ _ _ l.invariant.0 (omega arith) c.long-to.ensures l.invariant.1
    (sym c.is_utf8.ensures ∙ c.if-not-is_utf8.true))

pub loop-end-preserved : goal.loop-end-preserved
loop-end-preserved c =
    let l = c.loop-end in (
      rest_fits c.args.text.now c.args.ends.now _ _ _ l.invariant.0 (omega arith) c.long-to.ensures,
      texts_next c.args.text.now c.args.ends.now _ _ _ l.invariant.0 (omega arith) c.long-to.ensures l.invariant.1
          (sym c.is_utf8.ensures ∙ c.if-not-is_utf8.false),
    )

pub returns : goal.returns
returns c =
    let l = c.loop-end in
    let s = c.args in
    ap checked (texts_end s.text.now s.ends.now l.end-index l.from l.invariant.1 (omega arith))
