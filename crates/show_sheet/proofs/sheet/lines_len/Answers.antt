use Rattle.std.specs.Prelude.{Ok}
use Rattle.std.proofs.lemmas.Result.{err_from_is_err_and}
use mathlib.Core.Path.{◌≡◌, sym, ◌∙◌}
use Prim.Native.Nat.{◌≤◌}
use native.Mathlib.Omega.{arith}
use Rattle.calls.specs.Replies.{count_of}
use Rattle.show_sheet.specs.Steps.{documents_in, entry_in, line_in}
use Rattle.show_sheet.proofs.Entries.{measured_most}
use Rattle.show_sheet.proofs.Lines.{measured_next, measured_stop, measured_end}
use Rattle.show_sheet.proofs.sheet.lines_len.Goals as goal
use Rattle.show_sheet.proofs.sheet.lines_len.Goals.{In_ok-size}

-- a line was measured
counted : (c : In_ok-size) → let a = c.args in
    Ok c.in_ok-size.field-0
    ≡ count_of (line_in (documents_in a.bytes.now a.at) a.bar (entry_in a.bytes.now a.at c.loop-i.i))
counted c = sym c.in_ok-size.was ∙ c.line_len.ensures

most : (c : In_ok-size) → c.in_ok-size.field-0 ≤ 117
most c = measured_most c.args.bytes.now c.args.at c.args.bar c.loop-i.i c.requires (counted c)

pub returns-in_err-size : goal.returns-in_err-size
returns-in_err-size c =
    let p = err_from_is_err_and c.from_residual.result c.from_residual.ensures.1 in
    rw (p.1, p.2)
    (measured_stop _ _ _ _ _ _ c.loop-i.invariant.1 (omega arith) (sym c.in_err-size.was ∙ c.line_len.ensures))

pub overflow_add-size : goal.overflow_add-size
overflow_add-size c = omega (arith, c.loop-i.invariant.0, most c)

pub loop-i-preserved : goal.loop-i-preserved
loop-i-preserved c =
    let l = c.loop-i in
    (omega (arith, most c, l.invariant.0), measured_next _ _ _ _ _ _ l.invariant.1 (omega arith) (counted c))

pub returns : goal.returns
returns c = measured_end _ _ _ _ _ _ c.loop-i.invariant.1 (omega arith)
