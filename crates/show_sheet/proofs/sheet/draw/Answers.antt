use Rattle.std.specs.Prelude.{Ok}
use mathlib.Core.Path.{◌≡◌, sym, ◌∙◌}
use native.Mathlib.Omega.{arith}
use Rattle.calls.specs.Replies.{count_of}
use Rattle.show_sheet.specs.Steps.{lines_in}
use Rattle.show_sheet.proofs.Drawn.{drawable_wide, sheet_most, drawn_short, lines_fit, drawn_fits}
use Rattle.show_sheet.proofs.sheet.draw.Goals as goal
use Rattle.show_sheet.proofs.sheet.draw.Goals.{In_ok-needed}

-- every list was decoded, and the lines measured
measured : (k : In_ok-needed) → let a = k.args in
    Ok k.in_ok-needed.field-0 ≡ count_of (lines_in a.bytes.now a.at a.bar a.at.terms 0)
measured k = sym k.in_ok-needed.was ∙ k.lines_len.ensures

pub overflow_add-needed : goal.overflow_add-needed
overflow_add-needed c = omega (arith, sheet_most _ _ _ c.requires (measured c))

pub returns-then-out-needed : goal.returns-then-out-needed
returns-then-out-needed c =
    drawn_short _ _ _ _ (drawable_wide _ _ _ c.requires) (measured (goal.at.returns-then-out-needed c).In_ok-needed) c.if-out-needed.true

pub put_lines-requires : goal.put_lines-requires
put_lines-requires c = (
  c.requires,
  lines_fit _ _ _ _ (drawable_wide _ _ _ c.requires) (measured (goal.at.put_lines-requires c).In_ok-needed) c.if-out-needed.false
      c.put_heading-next.ensures,
)

pub returns : goal.returns
returns c =
    drawn_fits _ _ _ _ (drawable_wide _ _ _ c.requires) (measured (goal.at.returns c).In_ok-needed) c.if-out-needed.false
    c.put_heading-next.ensures c.put_lines.ensures
