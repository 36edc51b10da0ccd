-- Where a bar begins, a bar at a time.
-- Assumes nothing.
use Rattle.std.specs.Prelude.{Err, None, Ok, Result}
use mathlib.Core.Path.{◌≡◌, ap}
use mathlib.Core.List.{List}
use Prim.Native.Nat.{ℕ, ◌+◌, ◌-◌, ◌*◌, ◌≤◌, ◌<◌}
use native.Mathlib.Omega.{arith}
use lib.ListN.{length, drop, get_or}
use borrow.Author.Tests.{lt-ltb, le-ltb, eq-eqb, ne_eqb}
use Rattle.pad_words.specs.Words.{size, bars_of, held}
use Rattle.pad_words.specs.Whole.{bars_fine}
use Rattle.pad_words.specs.Steps.{place_from}
use Rattle.pad_words.proofs.Steps.{hits_many, bars_step, bars_end}

module _ (ws : List ℕ) (at count i : ℕ) where
  -- the words of the bars from an offset on: the first bar's, and the rest's
  pub size_step : i < count
      → size (bars_of (count - i) (drop at ws))
      ≡ 3 + 2 * get_or ws (at + 2) 0 + size (bars_of (count - (i + 1)) (drop (at + (3 + 2 * get_or ws (at + 2) 0)) ws))
  size_step h = rw (bars_step ws at count i h, hits_many (get_or ws (at + 2) 0) (drop (at + 3) ws))

  module _ (h : i < count) (inside : at + size (bars_of (count - i) (drop at ws)) ≤ length ws) where
    pub bar_inside : at + (3 + 2 * get_or ws (at + 2) 0) ≤ length ws
    bar_inside = omega (arith, size_step h)

    pub size_next : (n : ℕ) → n ≡ get_or ws (at + 2) 0
        → at + (3 + 2 * n) + size (bars_of (count - (i + 1)) (drop (at + (3 + 2 * n)) ws)) ≤ length ws
    size_next n is = rw is (omega (arith, size_step h))

  module _ (id : ℕ) {all : Result ℕ ℕ} (inv : place_from at (bars_of (count - i) (drop at ws)) id ≡ all) where
    module _ (h : i < count) where
      pub place_next : (n : ℕ) → n ≡ get_or ws (at + 2) 0 → get_or ws at 0 < id
          → place_from (at + (3 + 2 * n)) (bars_of (count - (i + 1)) (drop (at + (3 + 2 * n)) ws)) id ≡ all
      unfolding place_from
      place_next n is x =
          rw is
          (rw (bars_step ws at count i h, hits_many (get_or ws (at + 2) 0) (drop (at + 3) ws), lt-ltb (get_or ws at 0) id x) at inv)

      pub place_held : get_or ws at 0 ≡ id → Ok at ≡ all
      unfolding place_from
      place_held e = rw (bars_step ws at count i h, le-ltb (get_or ws at 0) id (omega arith), eq-eqb (get_or ws at 0) id e) at inv

      pub place_free : id ≤ get_or ws at 0 → (get_or ws at 0 ≡ id → ⊥) → Err at ≡ all
      unfolding place_from
      place_free x n = rw (bars_step ws at count i h, le-ltb (get_or ws at 0) id x, ne_eqb (get_or ws at 0) id n) at inv

    pub place_end : count ≤ i → Err at ≡ all
    unfolding place_from
    place_end h = rw (bars_end ws at count i h) at inv

-- at the first bar
module _ (pad : List ℕ) (count : ℕ) (is : count ≡ get_or pad 0 0) where
  pub held_start : bars_of (count - 0) (drop 2 pad) ≡ held pad
  unfolding held
  held_start =
      let e : count - 0 ≡ get_or pad 0 0 = omega arith in
      ap (λ (n : ℕ). bars_of n (drop 2 pad)) e

  pub fine_start : (remaining : ℕ) → remaining ≡ get_or pad 1 0
      → bars_fine None remaining (bars_of (count - 0) (drop 2 pad)) ≡ bars_fine None (get_or pad 1 0) (held pad)
  fine_start remaining e = rw (held_start, e)
