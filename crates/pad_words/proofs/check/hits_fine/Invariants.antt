-- What is left to test, behind the hit before, is the whole.
use Rattle.std.specs.Prelude.{None}
use mathlib.Core.Path.{◌≡◌}
use Prim.Native.Nat.{◌+◌, ◌-◌, ◌*◌}
use lib.ListN.{drop}
use Rattle.pad_map.specs.Rules.{hits_fine}
use Rattle.pad_words.specs.Words.{hits_of}
use Rattle.pad_words.proofs.check.hits_fine.Given as goal

abbrev pub invariant-loop-i : goal.invariant-loop-i
invariant-loop-i l =
    hits_fine l.len l.previous (hits_of (l.count - l.i) (drop (l.from + 2 * l.i) l.pad))
    ≡ hits_fine l.len None (hits_of l.count (drop l.from l.pad))
