-- Once the hits still to come are stored too, all are.
use mathlib.Core.Path.{◌≡◌}
use Prim.Native.Nat.{◌+◌, ◌*◌}
use lib.ListN.{length, drop}
use lib.Seq.{sets}
use Rattle.pad_map.specs.Bars.{hits_in}
use Rattle.pad_words.specs.Words.{hit_words}
use Rattle.pad_record.proofs.put.put_hits.Given as goal

abbrev pub invariant-loop-i : goal.invariant-loop-i
invariant-loop-i l =
    (length l.pad ≡ length l.initial.pad)
    × (sets l.pad (l.at + 2 * l.i) (hit_words (hits_in (drop l.i l.sounds) (drop l.i l.steps) (drop l.i l.velocities)))
    ≡ sets l.initial.pad l.at (hit_words (hits_in l.sounds l.steps l.velocities)))
