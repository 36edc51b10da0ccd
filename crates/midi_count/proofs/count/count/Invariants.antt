-- What is left to count from the reader on is the whole; a table holds at most as much as the place passed.
use mathlib.Core.Path.{◌≡◌}
use Prim.Native.Nat.{◌-◌}
use lib.ListN.{length}
use Rattle.midi_read.specs.Files.{grid, first_event}
use Rattle.midi_read.specs.Promise.{Within}
use Rattle.midi_read.specs.Walks.{walk}
use Rattle.midi_count.specs.Tallies.{tally}
use Rattle.midi_count.specs.Promise.{tallies, Low}
use Rattle.midi_count.proofs.count.count.Given as goal

abbrev pub invariant-loop-h : goal.invariant-loop-h
invariant-loop-h l =
    let g = grid l.ticks l.steps in
    Within l.s l.reader
    × Low l.reader.at l.tables.postings
    × Low l.reader.at l.tables.positions
    × (walk (tally g) g l.s l.reader (tallies l.bars l.tables.last l.tables.postings l.tables.positions)
    ≡ walk (tally g) g l.s first_event (tallies 0 l.initial.tables.last l.initial.tables.postings l.initial.tables.positions))

abbrev pub decreases-loop-h : goal.decreases-loop-h
decreases-loop-h l = length l.s - l.reader.at
