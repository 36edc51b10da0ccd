-- The tables of the counting pass have 128 places, and a place holds at most as much as there are hits.
-- Assumes nothing.
use mathlib.Core.Path.{◌≡◌, refl, ◌∙◌}
use mathlib.Core.List.{List, [], ◌∷◌}
use Prim.Native.Nat.{ℕ, ◌+◌, ◌≤◌}
use native.Mathlib.Omega.{arith}
use lib.ListN.{length, get_or, length-set}
use Rattle.midi_read.specs.declared.track.Hit.{Hit}
use Rattle.midi_read.specs.Files.{Grid, step_of}
use Rattle.midi_read.specs.Walks.{over}
use Rattle.midi_count.specs.Tallies.{Tallies, fresh, opens, raised, tally}
use Rattle.midi_count.specs.Promise.{zeros, tallies, Low}
use Rattle.midi_count.proofs.Tallying.{fresh_le, opens_le, raised_low, up_to, zeros_low}
use Rattle.midi_count.proofs.Sounding.{zeros_length}
use Rattle.midi_lists.specs.Claims.{TablesAreFine}

-- a table of which each hit raises one place by one at most
module _ (g : Grid) (table : Tallies → List ℕ) (by : Tallies → Hit → ℕ)
    (is : (t : Tallies) (h : Hit) → table (tally g t h) ≡ raised (table t) h.note (by t h))
    (one : (t : Tallies) (h : Hit) → by t h ≤ 1) where
  table_long : (t : Tallies) (hs : List Hit) → length (table (over (tally g) t hs)) ≡ length (table t)
  table_long t [] = refl
  table_long t (h ∷ hs) =
      table_long (tally g t h) hs ∙ rw (is t h) (length-set (table t) h.note (get_or (table t) h.note 0 + by t h))

  table_low : (t : Tallies) (hs : List Hit) (m n : ℕ) → Low m (table t) → m + length hs ≤ n → Low n (table (over (tally g) t hs))
  table_low t [] m n low k = up_to n low (omega arith)
  table_low t (h ∷ hs) m n low k =
      table_low (tally g t h) hs (m + 1) n (rw (is t h) (raised_low (table t) h.note (by t h) m (m + 1) low (one t h) (omega arith)))
      (omega arith)

abbrev empty : Tallies
empty = tallies 0 (zeros 128) (zeros 128) (zeros 128)

-- by how much a hit raises its sound's postings and positions
abbrev more_postings : Grid → Tallies → Hit → ℕ
more_postings g t h = opens (get_or t.last h.note 0) (step_of g h) g.steps

abbrev more_positions : Grid → Tallies → Hit → ℕ
more_positions g t h = fresh (get_or t.last h.note 0) (step_of g h)

postings_one : (g : Grid) (t : Tallies) (h : Hit) → more_postings g t h ≤ 1
postings_one g t h = opens_le (get_or t.last h.note 0) (step_of g h) g.steps

positions_one : (g : Grid) (t : Tallies) (h : Hit) → more_positions g t h ≤ 1
positions_one g t h = fresh_le (get_or t.last h.note 0) (step_of g h)

pub tables_are_fine : TablesAreFine
tables_are_fine g hs fine =
    let none = zeros_low 128 in
    let places = zeros_length 128 in
    let few : 0 + length hs ≤ 16777216 = omega (arith, fine.few) in
    record {
      postings_long = table_long g (λ t. t.postings) (more_postings g) (λ t h. refl) (postings_one g) empty hs ∙ places;
      positions_long = table_long g (λ t. t.positions) (more_positions g) (λ t h. refl) (positions_one g) empty hs ∙ places;
      postings_low = table_low g (λ t. t.postings) (more_postings g) (λ t h. refl) (postings_one g) empty hs 0 16777216 none few;
      positions_low = table_low g (λ t. t.positions) (more_positions g) (λ t h. refl) (positions_one g) empty hs 0 16777216 none few;
    }
