use Rattle.std.specs.Prelude.{None}
use mathlib.Core.Path.{◌≡◌, sym, ◌∙◌}
use lib.ListN.{get_or}
use Rattle.pad_words.specs.Words.{held}
use Rattle.pad_words.specs.Whole.{bars_fine, whole}
use Rattle.pad_words.proofs.Placing.{fine_start}
use Rattle.pad_words.proofs.Checking.{bars_low, bars_over, bars_bad, bars_next, bars_done}
use Rattle.pad_words.proofs.Checking.{whole_length, whole_bars, whole_hits, whole_rest}
use native.Mathlib.Omega.{arith}
use Rattle.pad_words.proofs.check.is_whole.Goals as goal
use Rattle.pad_words.proofs.check.is_whole.Goals.{Else-remaining-gt-HITS}
use Rattle.pad_words.proofs.check.is_whole.Goals.{then-count-gt-BARS-via-then-count-gt-BARS, then-count-gt-BARS-via-else-count-gt-BARS+then-remaining-gt-HITS}
use Rattle.pad_words.proofs.check.is_whole.Goals.{then-not-id_rises-via-then-not-id_rises, then-not-id_rises-via-else-not-id_rises+then-remaining-hits, then-not-id_rises-via-else-not-id_rises+else-remaining-hits+then-not-hits_fine}

-- the bars decide
rest : (c : Else-remaining-gt-HITS) → let pad = c.args.pad.now in
    bars_fine None (get_or pad 1 0) (held pad) ≡ whole pad
rest c =
    whole_rest _ c.if-pad-ne-WORDS.false (omega (arith, c.long-count.ensures, c.if-count-gt-BARS.false)) (omega (arith, c.long-remaining.ensures, c.if-remaining-gt-HITS.false))

pub returns-then-pad-ne-WORDS : goal.returns-then-pad-ne-WORDS
returns-then-pad-ne-WORDS c = whole_length _ c.if-pad-ne-WORDS.true

pub returns-then-count-gt-BARS : goal.returns-then-count-gt-BARS
returns-then-count-gt-BARS c =
    let l = c.if-pad-ne-WORDS.false in
    elim c.then-count-gt-BARS.branch [
      | then-count-gt-BARS-via-then-count-gt-BARS w ↦ whole_bars _ l (omega (arith, c.long-count.ensures))
      | then-count-gt-BARS-via-else-count-gt-BARS+then-remaining-gt-HITS w ↦
          whole_hits _ l (omega (arith, c.long-count.ensures)) (omega (arith, c.long-remaining.ensures))
    ]

pub loop-init : goal.loop-init
loop-init c =
    (omega (arith, c.if-count-gt-BARS.false, c.if-remaining-gt-HITS.false), fine_start c.args.pad.now _ c.long-count.ensures _ c.long-remaining.ensures)

pub returns-then-not-id_rises : goal.returns-then-not-id_rises
returns-then-not-id_rises c =
    let pad = c.args.pad.now in
    let inv = c.loop.invariant.1 in
    let h = c.loop-test.true in
    let all = rest (goal.at.returns-then-not-id_rises c).Else-remaining-gt-HITS in
    elim c.then-not-id_rises.branch [
      | then-not-id_rises-via-then-not-id_rises w ↦ bars_low _ _ pad _ _ _ inv h (sym w.if-not-id_rises.true ∙ c.id_rises.ensures) ∙ all
      | then-not-id_rises-via-else-not-id_rises+then-remaining-hits w ↦
          bars_over _ _ pad _ _ _ inv h (sym w.if-not-id_rises.false ∙ c.id_rises.ensures) _ c.long-hits.ensures w.if-remaining-hits.true ∙ all
      | then-not-id_rises-via-else-not-id_rises+else-remaining-hits+then-not-hits_fine w ↦
          bars_bad _ _ pad _ _ _ inv h (sym w.if-not-id_rises.false ∙ c.id_rises.ensures) _ c.long-hits.ensures w.if-remaining-hits.false
          (sym w.if-not-hits_fine.true ∙ w.hits_fine.ensures) ∙ all
    ]

pub loop-preserved : goal.loop-preserved
loop-preserved c = (
  omega (arith, c.loop.invariant.0, c.if-remaining-hits.false, c.loop-test.true),
  bars_next _ _ c.args.pad.now _ _ _ c.loop.invariant.1 c.loop-test.true
      (sym c.if-not-id_rises.false ∙ c.id_rises.ensures) _ c.long-hits.ensures c.if-remaining-hits.false
      (sym c.if-not-hits_fine.false ∙ c.hits_fine.ensures),
)

pub returns : goal.returns
returns c =
    bars_done _ _ c.args.pad.now c.loop.at _ c.loop.counter c.loop.invariant.1 c.loop-test.false ∙ rest (goal.at.returns c).Else-remaining-gt-HITS
