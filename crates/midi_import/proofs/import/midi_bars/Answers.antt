-- Header and heading, the counting pass, 13, then the lists: each `?` is a way out of the call.
use Rattle.std.specs.Prelude.{Err}
use mathlib.Core.Path.{◌≡◌, refl, ◌∙◌}
use native.Mathlib.Omega.{arith}
use Rattle.std.proofs.lemmas.Grind.{common_steps}
use Rattle.segment.specs.declared.replies.ListTotals.{ListTotals}
use Rattle.calls.specs.Given.{lists}
use Rattle.midi_read.specs.Files.{grid}
use Rattle.midi_bars.specs.Loudness.{AllLists, beside, all_of}
use Rattle.midi_bars.specs.Imports.{roomy_beside}
use Rattle.midi_import.specs.Steps.{Chunked, Tabled}
use Rattle.midi_import.proofs.Rooms.{TotalsOf, room_gives}
use Rattle.midi_import.proofs.Listed.{summable_postings, summable_positions, terms_few, tabled_totals, store_fits, cut}
use Rattle.midi_import.proofs.Tallied.{countable, count_refused}
use Rattle.midi_import.proofs.Imported.{tested_is, chunked_so, tabled_so, events_broken, events_short, events_stored, bars_refused, bars_imported}
use Rattle.midi_import.proofs.import.midi_bars.Goals as goal
use Rattle.midi_import.proofs.import.midi_bars.Goals.{In_ok-ticks, In_ok-bars, After-check_room}

chunked : (c : In_ok-ticks) → Chunked c.args.file.now c.in_ok-ticks.ticks 16
chunked c = chunked_so 16 4 _ c.read_chunks.ensures c.in_ok-ticks.was (omega arith) (omega arith)

tabled : (c : In_ok-bars) → Tabled c.args.file.now c.in_ok-ticks.ticks 16 c.in_ok-bars.bars c.count.new.tables.postings c.count.new.tables.positions
tabled c = tabled_so c.read_chunks.ensures c.in_ok-ticks.was c.from.ensures (rw c.empty-tables.ensures at c.count.ensures) c.in_ok-bars.was

tabled_then : (c : After-check_room)
    → Tabled c.args.file.now c.in_ok-ticks.ticks 16 c.in_ok-bars.bars c.count.new.tables.postings c.count.new.tables.positions
tabled_then c = tabled_so c.read_chunks.ensures c.in_ok-ticks.was c.from.ensures (rw c.empty-tables.ensures at c.count.ensures) c.in_ok-bars.was

abbrev found : After-check_room → ListTotals
found c = record {
  documents = c.in_ok-bars.bars;
  terms = c.count_sounds-terms.result;
  postings = c.begin-all_postings.result;
  positions = c.begin-all_positions.result;
}

abbrev room : After-check_room → AllLists
room c =
    let a = c.args in
    beside (lists a.ids.now a.lengths.now a.text.now a.ends.now a.posting_counts.now a.posting_ids.now
    a.position_counts.now a.positions.now) a.velocities.now

abbrev all : After-check_room → AllLists
all c = all_of (grid c.in_ok-ticks.ticks 16) (tabled_then c).hs

totals : (c : After-check_room) → TotalsOf (all c) (found c)
totals c =
    tabled_totals (tabled_then c) (found c) refl c.count_sounds-terms.ensures c.begin-all_postings.ensures.all
    c.begin-all_positions.ensures.all

tested : (c : After-check_room) → roomy_beside (all c) (room c) ≡ c.check_room.result
tested c = tested_is (all c) (room c) (found c) (totals c) c.check_room.ensures

pub returns-in_err-ticks : goal.returns-in_err-ticks
returns-in_err-ticks c =
    let refused : c.from_residual.result ≡ Err c.in_err-ticks.field-0.0 = grind (arith, common_steps) in
    rw refused (bars_refused 16 4 _ _ c.read_chunks.ensures c.in_err-ticks.was)

pub count-requires : goal.count-requires
count-requires c = rw (c.from.ensures, c.empty-tables.ensures) (countable (chunked (goal.at.count-requires c).In_ok-ticks))

pub returns-in_err-bars : goal.returns-in_err-bars
returns-in_err-bars c =
    let refused : c.from_residual-in_err-bars.result ≡ Err c.in_err-bars.field-0.0 = grind (arith, common_steps) in
    rw refused
    (bars_imported 16 4 _ _ c.read_chunks.ensures c.in_ok-ticks.was
    (events_broken _ _ _
    (count_refused (chunked (goal.at.returns-in_err-bars c).In_ok-ticks) (rw (c.from.ensures, c.empty-tables.ensures) at c.count.ensures) c.in_err-bars.was)))

pub begin-all_postings-requires : goal.begin-all_postings-requires
begin-all_postings-requires c = summable_postings (tabled (goal.at.begin-all_postings-requires c).In_ok-bars) _ refl

pub begin-all_positions-requires : goal.begin-all_positions-requires
begin-all_positions-requires c = summable_positions (tabled (goal.at.begin-all_positions-requires c).In_ok-bars) _ refl

pub check_room-requires : goal.check_room-requires
check_room-requires c = terms_few (tabled (goal.at.check_room-requires c).In_ok-bars) c.count_sounds-terms.ensures

pub returns-in_err-check_room : goal.returns-in_err-check_room
returns-in_err-check_room c =
    let k = (goal.at.returns-in_err-check_room c).After-check_room in
    let refused : c.from_residual-in_err-check_room.result ≡ Err c.in_err-check_room.field-0.0 = grind (arith, common_steps) in
    rw refused
    (bars_imported 16 4 _ _ c.read_chunks.ensures c.in_ok-ticks.was
    (events_short _ _ _ (tabled_then k).readable.hits_read (tested k ∙ c.in_err-check_room.was)))

pub store-requires : goal.store-requires
store-requires c =
    let k = (goal.at.store-requires c).After-check_room in
    store_fits (tabled_then k) c.begin-all_postings.ensures.starts c.begin-all_positions.ensures.starts
    (cut (found k) (all k) (room k) (totals k) (room_gives _ _ (tested k ∙ c.in_ok-check_room.was)))

pub returns : goal.returns
returns c =
    let k = (goal.at.returns c).After-check_room in
    bars_imported 16 4 _ _ c.read_chunks.ensures c.in_ok-ticks.was
    (events_stored _ _ (room k) (found k) (tabled_then k).readable.hits_read (totals k) (tested k ∙ c.in_ok-check_room.was) _
    c.store.ensures)
