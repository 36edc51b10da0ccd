use mathlib.Core.List.{[], ◌∷◌}
use mathlib.Core.Path.{ap}
use native.Mathlib.Omega.{arith}
use lib.ListN.{length-map, get_or}
use Rattle.midi_lists.specs.Heads.{heard}
use Rattle.midi_lists.proofs.Heard.{heard_start, heard_here, heard_past, heard_end}
use Rattle.midi_lists.proofs.Filled.{filling_start, filling_room, filling_next, filling_past, filling_met, filling_end}
use Rattle.midi_lists.proofs.heads.put_counts.Goals as goal
use Rattle.midi_lists.proofs.heads.put_counts.Goals.{then-count-gt0, else-count-gt0}
use Rattle.midi_lists.proofs.heads.put_counts.Invariants.{counts_in}

pub loop-count-init : goal.loop-count-init
loop-count-init c =
    let p = c.args.postings.now in
    filling_start (ap (counts_in p) (heard_start p)) (omega (arith, length-map (heard p) (λ n. get_or p n 0)))

pub bounds-counts-at : goal.bounds-counts-at
bounds-counts-at c =
    let p = c.args.postings.now in
    let at = c.loop-count.count-index in
    let room = filling_room c.loop-count.invariant (get_or p at 0 ∷ []) _ (ap (counts_in p) (heard_here p at (omega arith) c.if-count-gt0.true)) in
    omega (arith, room)

pub loop-count-preserved : goal.loop-count-preserved
loop-count-preserved c =
    let p = c.args.postings.now in
    let f = c.loop-count.invariant in
    let note = c.loop-count.count-index in
    elim c.if-count-gt0.branch [
      | then-count-gt0 w ↦ filling_met (filling_next f (ap (counts_in p) (heard_here p note (omega arith) w.if-count-gt0.true))) w.counts-is w.at-is
      | else-count-gt0 w ↦ filling_met (filling_past f (ap (counts_in p) (heard_past p note (omega arith) w.if-count-gt0.false))) w.counts-is w.at-is
    ]

pub returns : goal.returns
returns c =
    let p = c.args.postings.now in
    filling_end c.loop-count.invariant (ap (counts_in p) (heard_end p c.loop-count.count-index (omega arith)))
    (omega (arith, length-map (heard p) (λ n. get_or p n 0)))
