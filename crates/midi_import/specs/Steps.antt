-- What the steps of the call ask and leave.
use Rattle.std.specs.Prelude.{Ok, ℕ, ◌*◌, ◌≤◌, ◌≡◌, List, length}
use Rattle.segment.specs.Results.{Answer, ◌>>=◌, roomy}
use Rattle.segment.specs.declared.replies.ListTotals.{ListTotals}
use Rattle.midi_read.specs.declared.track.Hit.{Hit}
use Rattle.midi_read.specs.Files.{Grid, grid, chunks, hits}
use Rattle.midi_bars.specs.Bars.{bar_count, lists_of}
use Rattle.midi_bars.specs.Loudness.{AllLists, velocities_of, all_of}
use Rattle.midi_bars.specs.Imports.{roomy_beside, import_answer, import_left}
use Rattle.midi_count.specs.Tallies.{starts_from}
use Rattle.midi_count.specs.Claims.{counted}

-- ---- 13 by the lengths alone; a name has four bytes

abbrev pub room_of : ListTotals → (ids lengths text ends posting_counts posting_ids position_counts positions : ℕ) → Answer (Unit {0})
room_of t i l x e pc pi kc ps = do
  _ ← roomy 1 t.documents i
  _ ← roomy 2 t.documents l
  _ ← roomy 3 (4 * t.terms) x
  _ ← roomy 4 t.terms e
  _ ← roomy 5 t.terms pc
  _ ← roomy 6 t.postings pi
  _ ← roomy 7 t.postings kc
  roomy 8 t.positions ps

abbrev pub room_beside : ListTotals → (ids lengths text ends posting_counts posting_ids position_counts positions velocities : ℕ)
    → Answer (Unit {0})
room_beside t i l x e pc pi kc ps v = do
  _ ← room_of t i l x e pc pi kc ps
  roomy 9 t.positions v

-- ---- a file as far as it was read

-- header and heading are good, and give these ticks to a step
pub record Chunked (file : List ℕ) (ticks steps : ℕ) : Type 0 where
  pub quarter : ℕ
  pub some_steps : 1 ≤ steps
  pub few_steps : steps ≤ 64
  pub chunks_read : chunks steps quarter file ≡ Ok (grid ticks steps)

-- its events too
pub record Readable (file : List ℕ) (ticks steps : ℕ) (hs : List Hit) : Type 0 where
  pub chunked : Chunked file ticks steps
  pub hits_read : hits (grid ticks steps) file ≡ Ok hs

-- the counting pass is done
pub record Tabled (file : List ℕ) (ticks steps bars : ℕ) (postings positions : List ℕ) : Type 0 where
  pub hs : List Hit
  pub readable : Readable file ticks steps hs
  pub bars_are : bars ≡ bar_count (grid ticks steps) hs
  pub postings_are : postings ≡ (counted (grid ticks steps) hs).postings
  pub positions_are : positions ≡ (counted (grid ticks steps) hs).positions

-- ---- the lists into buffers of their lengths

pub record FillFits (file : List ℕ) (ticks steps : ℕ) (starts marks posting_ids position_counts positions velocities : List ℕ)
    : Type 0 where
  pub hs : List Hit
  pub readable : Readable file ticks steps hs
  pub starts_are : starts ≡ starts_from 0 (counted (grid ticks steps) hs).postings
  pub marks_are : marks ≡ starts_from 0 (counted (grid ticks steps) hs).positions
  pub posting_ids_fit : length posting_ids ≡ length (lists_of (grid ticks steps) hs).posting_ids
  pub position_counts_fit : length position_counts ≡ length (lists_of (grid ticks steps) hs).position_counts
  pub positions_fit : length positions ≡ length (lists_of (grid ticks steps) hs).positions
  pub velocities_fit : length velocities ≡ length (velocities_of (grid ticks steps) hs)

-- of whatever hits the file has
pub record FillDone (g : Grid) (file posting_ids position_counts positions velocities : List ℕ) : Type 0 where
  pub each : (hs : List Hit) → hits g file ≡ Ok hs
      → (posting_ids ≡ (lists_of g hs).posting_ids)
      × (position_counts ≡ (lists_of g hs).position_counts)
      × (positions ≡ (lists_of g hs).positions)
      × (velocities ≡ velocities_of g hs)

-- nine buffers of the lengths of nine lists
pub record AsLong (a b : AllLists) : Type 0 where
  pub ids : length b.lists.ids ≡ length a.lists.ids
  pub lengths : length b.lists.lengths ≡ length a.lists.lengths
  pub text : length b.lists.text ≡ length a.lists.text
  pub ends : length b.lists.ends ≡ length a.lists.ends
  pub posting_counts : length b.lists.posting_counts ≡ length a.lists.posting_counts
  pub posting_ids : length b.lists.posting_ids ≡ length a.lists.posting_ids
  pub position_counts : length b.lists.position_counts ≡ length a.lists.position_counts
  pub positions : length b.lists.positions ≡ length a.lists.positions
  pub velocities : length b.velocities ≡ length a.velocities

pub record StoreFits (file : List ℕ) (ticks steps : ℕ) (postings starts marks : List ℕ) (b : AllLists) : Type 0 where
  pub hs : List Hit
  pub readable : Readable file ticks steps hs
  pub postings_are : postings ≡ (counted (grid ticks steps) hs).postings
  pub starts_are : starts ≡ starts_from 0 (counted (grid ticks steps) hs).postings
  pub marks_are : marks ≡ starts_from 0 (counted (grid ticks steps) hs).positions
  pub fit : AsLong (all_of (grid ticks steps) hs) b

pub record StoreDone (g : Grid) (file : List ℕ) (b' : AllLists) : Type 0 where
  pub each : (hs : List Hit) → hits g file ≡ Ok hs → b' ≡ all_of g hs

-- ---- the call behind header and heading

-- the events and 13
unfoldable pub events_into : Grid → (file : List ℕ) (room : AllLists) → Answer AllLists
events_into g file room = do
  hs ← hits g file
  _ ← roomy_beside (all_of g hs) room
  Ok (all_of g hs)

pub record EventsImported (g : Grid) (file : List ℕ) (b : AllLists) (r : Answer ListTotals) (b' : AllLists) : Type 0 where
  pub reply : r ≡ import_answer (events_into g file b)
  pub left : b' ≡ import_left (events_into g file b) b
