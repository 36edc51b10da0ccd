use native.Mathlib.Omega.{arith}
use Rattle.show_sheet.proofs.Bars.{no_bar, bar_long, bar_short}
use Rattle.show_sheet.proofs.bar.find_bar.Goals as goal
use Rattle.show_sheet.proofs.bar.find_bar.Goals.{then-here-eq0-via-then-here-eq0, then-here-eq0-via-else-here-eq0+then-here-id}

pub returns-then-here-eq0 : goal.returns-then-here-eq0
returns-then-here-eq0 c =
    no_bar _ _ _ _ _ c.start.ensures c.seek-here.ensures
    (λ h e. elim c.then-here-eq0.branch [
      | then-here-eq0-via-then-here-eq0 w ↦ omega (arith, w.if-here-eq0.true)
      | then-here-eq0-via-else-here-eq0+then-here-id w ↦ omega (arith, w.if-here-id.true, e)
    ])

pub returns-then-here-gt-STEPS : goal.returns-then-here-gt-STEPS
returns-then-here-gt-STEPS c =
    bar_long _ _ _ _ _ c.start.ensures c.seek-here.ensures (omega arith) c.if-here-id.false c.if-here-gt-STEPS.true

pub returns : goal.returns
returns c = bar_short _ _ _ _ _ c.start.ensures c.seek-here.ensures (omega arith) c.if-here-id.false c.if-here-gt-STEPS.false
