-- A hit's step, bar and position: quotient and remainder.
-- Assumes nothing.
use mathlib.Core.Path.{◌≡◌}
use Prim.Native.Nat.{◌+◌, ◌*◌, ◌%◌, ◌<◌}
use native.Mathlib.Nat.{div-add-mod', mod-lt}
use native.Mathlib.Omega.{arith}
use Rattle.midi_read.specs.Files.{step_of}
use Rattle.midi_read.specs.Claims.{GridRight}

pub grid_right : GridRight
grid_right g h ticks steps =
    let whole : step_of g h * g.ticks + h.tick % g.ticks ≡ h.tick = div-add-mod' h.tick g.ticks in
    let less : h.tick % g.ticks < g.ticks = mod-lt h.tick ticks in
    record {
      begun = omega (arith, whole);
      not_over = omega (arith, whole, less);
      parted = div-add-mod' (step_of g h) g.steps;
      in_bar = mod-lt (step_of g h) steps;
    }
