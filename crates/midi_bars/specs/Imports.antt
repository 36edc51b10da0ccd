-- A MIDI file read into the lists that the writer takes, and the velocities: what is answered, refusals in document 02's order.
use Rattle.std.specs.Prelude.{Err, Ok, ℕ, List, length}
use Rattle.segment.specs.declared.replies.ListTotals.{ListTotals}
use Rattle.segment.specs.Results.{Answer, ◌>>=◌, roomy}
use Rattle.calls.specs.Given.{Lists, lists}
use Rattle.calls.specs.Replies.{fronted}
use Rattle.midi_read.specs.Files.{chunks, hits}
use Rattle.midi_bars.specs.Bars.{lists_of}
use Rattle.midi_bars.specs.Loudness.{AllLists, beside, all_of}

-- whatever the room: 12, the header, the heading, then the events in file order
unfoldable pub import_file : (steps quarter : ℕ) (file : List ℕ) → Answer Lists
import_file steps quarter file = do
  g ← chunks steps quarter file
  hs ← hits g file
  Ok (lists_of g hs)

-- 13 last: of the eight buffers, `room` being lists of their lengths, the first that is too short
unfoldable pub roomy_all : (needed room : Lists) → Answer (Unit {0})
roomy_all needed room = do
  _ ← roomy 1 (length needed.ids) (length room.ids)
  _ ← roomy 2 (length needed.lengths) (length room.lengths)
  _ ← roomy 3 (length needed.text) (length room.text)
  _ ← roomy 4 (length needed.ends) (length room.ends)
  _ ← roomy 5 (length needed.posting_counts) (length room.posting_counts)
  _ ← roomy 6 (length needed.posting_ids) (length room.posting_ids)
  _ ← roomy 7 (length needed.position_counts) (length room.position_counts)
  roomy 8 (length needed.positions) (length room.positions)

-- ---- with the velocities

unfoldable pub import_all : (steps quarter : ℕ) (file : List ℕ) → Answer AllLists
import_all steps quarter file = do
  g ← chunks steps quarter file
  hs ← hits g file
  Ok (all_of g hs)

-- the ninth buffer after the eight
unfoldable pub roomy_beside : (needed room : AllLists) → Answer (Unit {0})
roomy_beside needed room = do
  _ ← roomy_all needed.lists room.lists
  roomy 9 (length needed.velocities) (length room.velocities)

-- the call: into nine lent buffers
unfoldable pub import_into : (steps quarter : ℕ) (file : List ℕ) (room : AllLists) → Answer AllLists
import_into steps quarter file room = do
  all ← import_all steps quarter file
  _ ← roomy_beside all room
  Ok all

-- the reply: how many documents (bars), terms (sounds), postings and positions
abbrev pub import_answer : Answer AllLists → Answer ListTotals
import_answer (Ok a) = Ok (record {
  documents = length a.lists.ids;
  terms = length a.lists.ends;
  postings = length a.lists.posting_ids;
  positions = length a.lists.positions;
})
import_answer (Err x) = Err x

-- lists at the fronts of lent buffers, and the places behind as before
abbrev pub fronted_lists : Lists → Lists → Lists
fronted_lists l b =
    lists (fronted l.ids b.ids) (fronted l.lengths b.lengths) (fronted l.text b.text) (fronted l.ends b.ends)
    (fronted l.posting_counts b.posting_counts) (fronted l.posting_ids b.posting_ids)
    (fronted l.position_counts b.position_counts) (fronted l.positions b.positions)

-- the nine lent buffers afterwards; a refusal leaves all nine
abbrev pub import_left : Answer AllLists → AllLists → AllLists
import_left (Ok a) b = beside (fronted_lists a.lists b.lists) (fronted a.velocities b.velocities)
import_left (Err x) b = b
