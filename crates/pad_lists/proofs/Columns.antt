-- The pass over the bars of a pad for their ids and lengths: a turn, and the end.
-- Assumes nothing.
use mathlib.Core.Path.{◌≡◌, refl, ap, ◌∙◌}
use mathlib.Core.List.{List, [], ◌∷◌, map}
use Prim.Native.Nat.{ℕ, ◌+◌, ◌*◌, ◌≤◌, ◌<◌}
use native.Mathlib.Omega.{arith}
use lib.ListN.{length, take, drop, get_or, set, length-map, length-set}
use lib.Seq.{take_at}
use Rattle.calls.proofs.Filling.{ToStore, front_start, next_stored, still_long, all_stored, at_front}
use Rattle.pad_map.specs.Bars.{Bar}
use Rattle.pad_words.specs.Words.{held}
use Rattle.pad_words.proofs.Wholes.{held_many}
use Rattle.pad_lists.specs.Steps.{DocumentsFit, DocumentsGathered}
use Rattle.pad_lists.proofs.Walks.{Walk, walk_start, bar_here, walk_next, walk_end}

-- what is taken of each bar, for the bars from i on still to be stored
pub record Column (f : Bar → ℕ) (bars : List Bar) (i : ℕ) (out : List ℕ) : Type 0 where
  pub long : length out ≡ 256
  pub entry : List ℕ
  pub storing : ToStore (map f bars) 0 entry (map f (drop i bars)) i out

pub record Columns (pad : List ℕ) (at i : ℕ) (ids lengths : List ℕ) : Type 0 where
  pub walk : Walk pad i at
  pub ids_column : Column (λ b. b.id) (held pad) i ids
  pub lengths_column : Column (λ b. b.len) (held pad) i lengths

module _ (f : Bar → ℕ) (bars : List Bar) where
  column_start : (out : List ℕ) → length out ≡ 256 → length bars ≤ 256 → Column f bars 0 out
  column_start out e h = record {
    long = e;
    entry = out;
    storing = front_start refl (omega (arith, length-map bars f));
  }

  module _ {i : ℕ} {out : List ℕ} (c : Column f bars i out) where
    column_next : {b : Bar} → drop i bars ≡ b ∷ drop (i + 1) bars → Column f bars (i + 1) (set out i (f b))
    column_next {b} e = record {
      long = length-set out i (f b) ∙ c.long;
      entry = c.entry;
      storing = next_stored c.storing (ap (map f) e);
    }

    column_end : drop i bars ≡ [] → take (length bars) out ≡ map f bars
    column_end e =
        let t = c.storing in
        let many : length (map f bars) ≡ length bars = length-map bars f in
        let front = at_front (omega (arith, t.room, still_long t)) (all_stored t (ap (map f) e)) in
        ap (take (length bars)) front ∙ take_at (map f bars) (drop (length (map f bars)) c.entry) (length bars) many

pub columns_start : {pad ids lengths : List ℕ} → DocumentsFit pad ids lengths → Columns pad 2 0 ids lengths
columns_start {pad} {ids} {lengths} d =
    let w = walk_start pad d.whole_pad in
    let few : length (held pad) ≤ 256 = omega (arith, held_many pad, w.bars) in
    record {
      walk = w;
      ids_column = column_start (λ b. b.id) (held pad) ids d.ids_long few;
      lengths_column = column_start (λ b. b.len) (held pad) lengths d.lengths_long few;
    }

module _ {pad ids lengths : List ℕ} {at i : ℕ} (c : Columns pad at i ids lengths) where
  pub columns_next : i < get_or pad 0 0 → (n : ℕ) → n ≡ get_or pad (at + 2) 0
      → Columns pad (at + (3 + 2 * n)) (i + 1) (set ids i (get_or pad at 0)) (set lengths i (get_or pad (at + 1) 0))
  columns_next h n e =
      let here = bar_here c.walk h in
      record {
        walk = walk_next c.walk h n e;
        ids_column = column_next (λ b. b.id) (held pad) c.ids_column here;
        lengths_column = column_next (λ b. b.len) (held pad) c.lengths_column here;
      }

  pub columns_end : get_or pad 0 0 ≤ i → DocumentsGathered pad ids lengths
  columns_end h =
      let none = walk_end c.walk h in
      record {
        ids_long = c.ids_column.long;
        lengths_long = c.lengths_column.long;
        ids = column_end (λ b. b.id) (held pad) c.ids_column none;
        lengths = column_end (λ b. b.len) (held pad) c.lengths_column none;
      }
