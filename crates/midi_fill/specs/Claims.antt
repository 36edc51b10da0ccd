-- What the filling pass comes to: the lists (crate midi_bars). Proved in proofs/Laid.antt and Passed.antt. It needs that ticks never fall
-- in file order, which crate midi_read proves (proofs/Fine.antt).
use Rattle.std.specs.Prelude.{Ok, ℕ, ◌≤◌, ◌≡◌, List, length}
use Rattle.midi_read.specs.declared.track.Hit.{Hit}
use Rattle.midi_read.specs.Files.{Grid, first_event, chunks, hits}
use Rattle.midi_read.specs.Claims.{NeverFall}
use Rattle.midi_read.specs.Walks.{over, walk}
use Rattle.midi_bars.specs.Bars.{lists_of}
use Rattle.midi_bars.specs.Loudness.{velocities_of}
use Rattle.midi_bars.specs.Claims.{HitsFine}
use Rattle.midi_count.specs.Tallies.{tally, starts_from}
use Rattle.midi_count.specs.Promise.{zeros, tallies}
use Rattle.midi_count.specs.Claims.{counted, CountsRight}
use Rattle.midi_fill.specs.Stores.{Buffers, buffers, put}
use Rattle.midi_fill.specs.Promise.{Fillable}

-- into lists that are just as long, whatever they hold
pub record ListsRight (g : Grid) (hs : List Hit) (x : Buffers) : Type 0 where
  pub posting_ids : x.ids ≡ (lists_of g hs).posting_ids
  pub position_counts : x.counts ≡ (lists_of g hs).position_counts
  pub positions : x.steps ≡ (lists_of g hs).positions
  pub velocities : x.velocities ≡ velocities_of g hs

-- the filling pass: its stores, at places that the counts say, and its start, with empty tables
abbrev pub placed : Grid → List Hit → Buffers → Hit → Buffers
placed g hs = put g (starts_from 0 (counted g hs).postings) (starts_from 0 (counted g hs).positions)

abbrev pub begun : (ids counts steps velocities : List ℕ) → Buffers
begun a b c d = buffers (zeros 128) (zeros 128) (zeros 128) (zeros 128) (zeros 128) a b c d

abbrev pub FillingRight : Type 0
FillingRight =
    (g : Grid) (hs : List Hit) (a b c d : List ℕ) → 1 ≤ g.ticks → HitsFine g hs → NeverFall 0 hs
    → length a ≡ length (lists_of g hs).posting_ids → length b ≡ length (lists_of g hs).position_counts
    → length c ≡ length (lists_of g hs).positions → length d ≡ length (velocities_of g hs)
    → ListsRight g hs (over (placed g hs) (begun a b c d) hs)

-- what `fill` asks, after `count`, of a file that is read
abbrev pub Fits : Type 0
Fits =
    (steps quarter : ℕ) (file : List ℕ) (g : Grid) (hs : List Hit) (a b c d : List ℕ) → 1 ≤ steps → steps ≤ 64
    → chunks steps quarter file ≡ Ok g → hits g file ≡ Ok hs
    → length a ≡ length (lists_of g hs).posting_ids → length b ≡ length (lists_of g hs).position_counts
    → length c ≡ length (lists_of g hs).positions → length d ≡ length (velocities_of g hs)
    → Fillable file g.ticks g.steps (starts_from 0 (counted g hs).postings) (starts_from 0 (counted g hs).positions) (begun a b c d)

-- both passes over a file that is read, as the contracts of `count` and `fill` have them
pub record BothRight (g : Grid) (file : List ℕ) (hs : List Hit) : Type 0 where
  pub counting : walk (tally g) g file first_event (tallies 0 (zeros 128) (zeros 128) (zeros 128)) ≡ Ok (counted g hs)
  pub counts : CountsRight g hs
  pub filling : (a b c d : List ℕ) → walk (placed g hs) g file first_event (begun a b c d) ≡ Ok (over (placed g hs) (begun a b c d) hs)
  pub lists : (a b c d : List ℕ) → length a ≡ length (lists_of g hs).posting_ids → length b ≡ length (lists_of g hs).position_counts
      → length c ≡ length (lists_of g hs).positions → length d ≡ length (velocities_of g hs)
      → ListsRight g hs (over (placed g hs) (begun a b c d) hs)

abbrev pub PassesRight : Type 0
PassesRight =
    (steps quarter : ℕ) (file : List ℕ) (g : Grid) (hs : List Hit) → 1 ≤ steps → chunks steps quarter file ≡ Ok g → hits g file ≡ Ok hs
    → BothRight g file hs
