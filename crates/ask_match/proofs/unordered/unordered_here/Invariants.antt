use mathlib.Core.Path.{◌≡◌}
use Prim.Native.Nat.{◌+◌, ◌-◌, ◌*◌, ◌^◌, ◌<◌}
use lib.ListN.{length}
use Rattle.ask_match.specs.Steps.{positions_in, shows}
use Rattle.ask_match.proofs.Leap.{Leap}
use Rattle.ask_match.proofs.Views.{Views}
use Rattle.ask_match.proofs.unordered.unordered_here.Given as goal

abbrev pub invariant-loop-i : goal.invariant-loop-i
invariant-loop-i l =
    (length l.seen ≡ 128) × (l.start < 2 ^ 32)
    × Leap l.n (shows l.bytes l.window l.wanted (positions_in l.initial.first))
    (shows l.bytes l.window l.wanted (positions_in l.first)) l.start l.i
    × Views l.bytes (l.start + l.span) l.n (positions_in l.first) (positions_in l.cursors) l.seen

abbrev pub decreases-loop-i : goal.decreases-loop-i
decreases-loop-i l = (2 ^ 32 - l.start) * 129 + (128 - l.i)
