-- What holds before each event is proofs/Filling.antt's Standing.
use Prim.Native.Nat.{◌-◌}
use lib.ListN.{length}
use Rattle.midi_read.specs.Files.{grid}
use Rattle.midi_fill.specs.Stores.{buffers}
use Rattle.midi_fill.proofs.Filling.{Standing}
use Rattle.midi_fill.proofs.fill.fill.Given as goal

abbrev pub invariant-loop-event : goal.invariant-loop-event
invariant-loop-event l =
    Standing l.s (grid l.ticks l.steps) l.starts l.marks (buffers l.initial.tables.last l.initial.tables.postings l.initial.tables.positions l.initial.inside l.initial.loud l.initial.ids l.initial.counts l.initial.places l.initial.velocities)
    (buffers l.tables.last l.tables.postings l.tables.positions l.inside l.loud l.ids l.counts l.places l.velocities) l.reader

abbrev pub decreases-loop-event : goal.decreases-loop-event
decreases-loop-event l = length l.s - l.reader.at
