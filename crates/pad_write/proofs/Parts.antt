-- The parts of lists that hold a sound's postings fit together, as the writer's functions ask.
-- Assumes nothing.
use Rattle.std.specs.Prelude.{None}
use mathlib.Core.Path.{◌≡◌, sym, ◌∙◌}
use mathlib.Core.List.{List}
use Prim.Native.Nat.{ℕ, ◌≤◌}
use native.Mathlib.Omega.{arith}
use lib.ListN.{length, take, replicate, length-replicate}
use lib.Seq.{length-take-le}
use Rattle.common.specs.Lists.{parts, total}
use Rattle.common.proofs.Pairs.{paired_count}
use Rattle.segment.specs.Written.{postings_bytes}
use Rattle.calls.specs.Given.{posting}
use Rattle.calls.proofs.Lengths.{flat_postings_size}
use Rattle.calls.proofs.Parts.{parts_count}
use Rattle.pad_lists.specs.Steps.{Places, SoundGathered}
use Rattle.pad_lists.specs.declared.sound.Gathered.{Gathered}
use Rattle.pad_write.specs.Steps.{InLists, gathered, ListsLong}

module _ (posting_ids counts positions : List ℕ) (got : Gathered) (l : InLists posting_ids counts positions got) where
  pub ids_size : length (take got.postings posting_ids) ≡ got.postings
  ids_size = length-take-le got.postings posting_ids l.ids_there

  pub counts_size : length (take got.postings counts) ≡ got.postings
  counts_size = length-take-le got.postings counts l.counts_there

  pub positions_size : length (take got.positions positions) ≡ got.positions
  positions_size = length-take-le got.positions positions l.positions_there

  pub side_by_side : length (take got.postings posting_ids) ≡ length (take got.postings counts)
  side_by_side = ids_size ∙ sym counts_size

  pub positions_enough : total (take got.postings counts) ≤ length (take got.positions positions)
  positions_enough = omega (arith, l.enough, positions_size)

  pub gathered_count : length (gathered posting_ids counts positions got) ≡ got.postings
  gathered_count =
      paired_count posting (take got.postings posting_ids) (parts (take got.postings counts) (take got.positions positions))
      (side_by_side ∙ sym (parts_count (take got.postings counts) (take got.positions positions)))
      ∙ ids_size

  pub list_low : length (postings_bytes None (gathered posting_ids counts positions got)) ≤ 43520
  list_low =
      omega (
        arith,
        flat_postings_size None (take got.postings posting_ids) (take got.postings counts) (take got.positions positions),
        counts_size,
        positions_size,
        l.few_postings,
        l.few_positions,
      )

-- what was gathered lies in the lists
pub in_lists : {pad : List ℕ} {sound : ℕ} {r : Gathered} {cs ids counts positions : List ℕ}
    → SoundGathered pad sound r cs ids counts positions → InLists ids counts positions r
in_lists g = record {
  ids_there = omega (arith, g.few_postings, g.places.ids_long);
  counts_there = omega (arith, g.few_postings, g.places.counts_long);
  positions_there = omega (arith, g.few_positions, g.places.positions_long);
  enough = g.enough;
  few_postings = g.few_postings;
  few_positions = g.few_positions;
}

-- the lists that are lent to hold one sound
pub places_first : {posting_ids counts positions : List ℕ} → ListsLong posting_ids counts positions
    → Places (replicate 256 0) posting_ids counts positions
places_first l = record {
  cursors_long = length-replicate {A = ℕ} 256 0;
  ids_long = l.ids_long;
  counts_long = l.counts_long;
  positions_long = l.positions_long;
}

pub places_long : {cursors posting_ids counts positions : List ℕ} → Places cursors posting_ids counts positions
    → ListsLong posting_ids counts positions
places_long p = record { ids_long = p.ids_long; counts_long = p.counts_long; positions_long = p.positions_long }
