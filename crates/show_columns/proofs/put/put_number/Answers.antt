use mathlib.Core.Path.{sym, ap, ◌∙◌}
use mathlib.Core.List.{[], ◌∷◌, ◌++◌}
use Prim.Native.Nat.{◌-◌, ◌/◌}
use native.Mathlib.Omega.{arith}
use lib.Seq.{sets}
use Rattle.show_columns.proofs.Columns.{front, front_next, front_end, front_stored, column_stored, column_length}
use Rattle.show_columns.proofs.put.put_number.Goals as goal

pub loop-i-preserved : goal.loop-i-preserved
loop-i-preserved c =
    let l = c.loop-i in
    let at = c.args.at in
    front_stored l.out at (l.i - 1) (l.rest / 10) _
    ∙ ap (λ d. sets l.out at (front (l.i - 1) (l.rest / 10) ++ d ∷ [])) c.digit.ensures
    ∙ ap (sets l.out at) (sym (front_next l.i l.rest (omega arith))) ∙ l.invariant

pub returns : goal.returns
returns c =
    let l = c.loop-i in
    let a = c.args in
    let small = c.requires.0 in
    record {
      past = omega (arith, column_length a.n small);
      left = rw (front_end l.i l.rest (omega arith)) at l.invariant ∙ column_stored a.out.now a.at a.n small;
    }
