use mathlib.Core.List.{List}
use mathlib.Core.Path.{ap}
use Prim.Native.Nat.{ℕ}
use native.Mathlib.Omega.{arith}
use lib.ListN.{length}
use Rattle.midi_lists.proofs.Heard.{heard_start, heard_here, heard_past, heard_end, heard_few}
use Rattle.midi_lists.proofs.sums.count_sounds.Goals as goal
use Rattle.midi_lists.proofs.sums.count_sounds.Goals.{then-count-gt0, else-count-gt0}

pub loop-count-init : goal.loop-count-init
loop-count-init c = omega (arith, ap (λ (l : List ℕ). length l) (heard_start c.args.postings.now))

pub overflow_add-sounds : goal.overflow_add-sounds
overflow_add-sounds c =
    omega (arith, heard_few c.args.postings.now)

pub loop-count-preserved : goal.loop-count-preserved
loop-count-preserved c =
    let p = c.args.postings.now in
    let at = c.loop-count.count-index in
    elim c.if-count-gt0.branch [
      | then-count-gt0 w ↦ omega (arith, w.sounds-is, c.loop-count.invariant, ap (λ (ns : List ℕ). length ns) (heard_here p at (omega arith) (omega (arith, w.if-count-gt0.true))))
      | else-count-gt0 w ↦ omega (arith, w.sounds-is, c.loop-count.invariant, ap (λ (ns : List ℕ). length ns) (heard_past p at (omega arith) (omega (arith, w.if-count-gt0.false))))
    ]

pub returns : goal.returns
returns c =
    let p = c.args.postings.now in
    omega (arith, ap (λ (ns : List ℕ). length ns) (heard_end p c.loop-count.count-index (omega arith)))
