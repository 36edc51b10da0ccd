-- Once the hits that are still to come are stored too, all are.
use Prim.Native.Nat.{ℕ, ◌+◌, ◌*◌}
use Rattle.pad_map.specs.Bars.{Hit}
use Rattle.pad_read.specs.Steps.{low_byte}
use Rattle.pad_read.proofs.Filling.{Filling}
use Rattle.pad_read.proofs.read.fill_hits.Given as goal

-- what each list takes of a hit
abbrev pub sound-of : Hit → ℕ
sound-of h = h.sound

abbrev pub step_of : Hit → ℕ
step_of h = h.step

abbrev pub velocity-of : Hit → ℕ
velocity-of h = low_byte h.velocity

abbrev pub invariant-loop-i : goal.invariant-loop-i
invariant-loop-i l =
    Filling sound-of l.pad l.from l.count l.initial.sounds (l.from + 2 * l.i) l.i l.sounds
    × Filling step_of l.pad l.from l.count l.initial.steps (l.from + 2 * l.i) l.i l.steps
    × Filling velocity-of l.pad l.from l.count l.initial.velocities (l.from + 2 * l.i) l.i l.velocities
