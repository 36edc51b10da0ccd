-- Four bytes, one after the other.
use mathlib.Core.Path.{refl}
use native.Mathlib.Omega.{arith}
use lib.ListN.{length-set}
use Rattle.midi_lists.proofs.Filled.{name_stored}
use Rattle.midi_lists.proofs.heads.put_name.Goals as goal

pub bounds-text-at-2 : goal.bounds-text-at-2
bounds-text-at-2 c = simp length-set (omega arith)

pub bounds-text-at-3 : goal.bounds-text-at-3
bounds-text-at-3 c = simp length-set (omega arith)

pub bounds-text-at-4 : goal.bounds-text-at-4
bounds-text-at-4 c = simp length-set (omega arith)

pub returns : goal.returns
returns c =
    let a = c.args in
    record { past = refl; left = name_stored a.text.now a.at a.note }
