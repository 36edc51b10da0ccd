use mathlib.Core.Path.{◌≡◌}
use Prim.Native.Nat.{◌-◌, ◌*◌, ◌≤◌}
use Rattle.calls.specs.Replies.{count_of}
use Rattle.show_sheet.specs.Steps.{lines_in}
use Rattle.show_sheet.proofs.Lines.{more}
use Rattle.show_sheet.proofs.sheet.lines_len.Given as goal

abbrev pub invariant-loop-i : goal.invariant-loop-i
invariant-loop-i l =
    (l.size ≤ 117 * l.i) × (more l.size (lines_in l.bytes l.at l.bar (l.terms - l.i) l.i) ≡ count_of (lines_in l.bytes l.at l.bar l.at.terms 0))
