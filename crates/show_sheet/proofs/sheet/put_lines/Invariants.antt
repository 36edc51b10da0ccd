use Rattle.show_sheet.proofs.Lines.{LinesLeft}
use Rattle.show_sheet.proofs.sheet.put_lines.Given as goal

abbrev pub invariant-loop-i : goal.invariant-loop-i
invariant-loop-i l =
    LinesLeft l.bytes l.at l.bar l.from l.initial.out l.terms l.i l.next l.out
