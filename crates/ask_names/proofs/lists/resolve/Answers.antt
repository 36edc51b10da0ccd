use mathlib.Core.List.{◌∷◌}
use Prim.Native.Nat.{◌+◌, ◌≤◌}
use lib.ListN.{length, drop}
use native.Mathlib.Omega.{arith}
use Rattle.segment.specs.Texts.{names}
use Rattle.segment.specs.Records.{between}
use Rattle.segment.proofs.Shapes.{names_count}
use Rattle.ask_names.proofs.TextTurns.{name_rises, rest_fits, name_ends, turned, texts_none}
use Rattle.ask_names.proofs.Resolving.{Partly, partly_none, partly_room, partly_more, partly_all}
use Rattle.ask_names.proofs.lists.resolve.Goals as goal
use Rattle.ask_names.proofs.lists.resolve.Goals.{After-long-to}

rises : (c : After-long-to) → c.loop-end.from ≤ c.long-to.result
rises c = name_rises c.args.text.now c.args.ends.now _ _ _ c.loop-end.invariant.0 (omega arith) c.long-to.ensures

inside : (c : After-long-to) → c.long-to.result ≤ length c.args.text.now
inside c = name_ends c.args.text.now c.args.ends.now _ _ _ c.loop-end.invariant.0 (omega arith) c.long-to.ensures

few : (c : After-long-to) → length (names 0 c.args.ends.now c.args.text.now) ≤ 128
few c = omega (arith, names_count 0 c.args.ends.now c.args.text.now, c.requires.2)

-- the name is the first of those left
left : (c : After-long-to) → let a = c.args in
    let l = c.loop-end in
    Partly a.bytes.now a.at (names 0 c.args.ends.now c.args.text.now)
    (between l.from c.long-to.result c.args.text.now
    ∷ names c.long-to.result (drop (l.end-index + 1) c.args.ends.now) (drop c.long-to.result c.args.text.now))
    l.found
left c =
    let l = c.loop-end in
    rw (turned c.args.text.now c.args.ends.now _ _ _ l.invariant.0 (omega arith) c.long-to.ensures) at l.invariant.1

pub loop-end-init : goal.loop-end-init
loop-end-init c = (c.requires.1, partly_none c.requires.3)

pub slice_bounds-find_term-count : goal.slice_bounds-find_term-count
slice_bounds-find_term-count c = rises (goal.at.slice_bounds-find_term-count c).After-long-to

pub slice_bounds-find_term-start : goal.slice_bounds-find_term-start
slice_bounds-find_term-start c = omega (arith, rises (goal.at.slice_bounds-find_term-start c).After-long-to)

pub slice_bounds-find_term-end : goal.slice_bounds-find_term-end
slice_bounds-find_term-end c = omega (arith, inside (goal.at.slice_bounds-find_term-end c).After-long-to)

pub take-requires : goal.take-requires
take-requires c =
    let t = (goal.at.take-requires c).After-long-to in
    partly_room (left t) (few t)

pub loop-end-preserved : goal.loop-end-preserved
loop-end-preserved c =
    let l = c.loop-end in
    let t = (goal.at.loop-end-preserved c).After-long-to in (
      rest_fits c.args.text.now c.args.ends.now l.end-index l.from c.long-to.result l.invariant.0 (omega arith) c.long-to.ensures,
      partly_more (left t) c.find_term.result c.find_term.ensures c.take.ensures,
    )

pub returns : goal.returns
returns c =
    let a = c.args in
    let l = c.loop-end in
    partly_all (rw (texts_none a.text.now a.ends.now l.end-index l.from (omega arith)) at l.invariant.1)
