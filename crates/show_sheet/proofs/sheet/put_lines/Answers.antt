use native.Mathlib.Omega.{arith}
use Rattle.show_sheet.proofs.Lines.{left_room, left_next, left_none_more}
use Rattle.show_sheet.proofs.sheet.put_lines.Goals as goal

pub put_line-next-requires : goal.put_line-next-requires
put_line-next-requires c =
    (c.requires.0, omega (arith, c.long-terms.ensures), left_room _ _ _ _ _ (omega arith) c.loop-i.invariant)

pub loop-i-preserved : goal.loop-i-preserved
loop-i-preserved c = left_next _ _ _ _ _ (omega arith) c.loop-i.invariant c.put_line-next.ensures

pub returns : goal.returns
returns c = left_none_more _ _ _ _ _ (omega arith) c.loop-i.invariant
