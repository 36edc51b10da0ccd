use mathlib.Core.Path.{ap}
use Prim.Native.Nat.{◌+◌}
use native.Mathlib.Omega.{arith}
use Rattle.midi_bars.specs.Bars.{name_of}
use Rattle.midi_lists.specs.Heads.{heard}
use Rattle.midi_lists.proofs.Heard.{heard_from, heard_start, heard_here, heard_past, heard_end, names_length}
use Rattle.midi_lists.proofs.Filled.{filling_start, filling_room, filling_part, filling_past, filling_met, filling_end}
use Rattle.midi_lists.proofs.heads.put_names.Goals as goal
use Rattle.midi_lists.proofs.heads.put_names.Goals.{then-count-gt0, else-count-gt0}
use Rattle.midi_lists.proofs.heads.put_names.Invariants.{names}

pub loop-note-init : goal.loop-note-init
loop-note-init c =
    let p = c.args.postings.now in
    filling_start (ap names (heard_start p)) (omega (arith, names_length (heard p)))

pub put_name-at-requires : goal.put_name-at-requires
put_name-at-requires c =
    let p = c.args.postings.now in
    let more = names (heard_from p (c.loop-note.note + 1)) in
    let here = ap names (heard_here p c.loop-note.note (omega arith) c.if-count-gt0.true) in
    (omega arith, filling_room c.loop-note.invariant (name_of c.loop-note.note) more here)

pub loop-note-preserved : goal.loop-note-preserved
loop-note-preserved c =
    let p = c.args.postings.now in
    let f = c.loop-note.invariant in
    let note = c.loop-note.note in
    let more = names (heard_from p (note + 1)) in
    elim c.if-count-gt0.branch [
      | then-count-gt0 w ↦
          let here = ap names (heard_here p note (omega arith) w.if-count-gt0.true) in
          filling_met (filling_part f (name_of note) more here w.put_name-at.ensures) w.text-is w.at-is
      | else-count-gt0 w ↦ filling_met (filling_past f (ap names (heard_past p note (omega arith) w.if-count-gt0.false))) w.text-is w.at-is
    ]

pub returns : goal.returns
returns c =
    let p = c.args.postings.now in
    filling_end c.loop-note.invariant (ap names (heard_end p c.loop-note.note (omega arith)))
    (omega (arith, names_length (heard p)))
