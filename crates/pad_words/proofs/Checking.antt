-- The rules a test at a time, as the code takes them.
-- Assumes nothing.
use Rattle.std.specs.Prelude.{None, Option, Some}
use mathlib.Core.Path.{◌≡◌, sym, ◌∙◌}
use mathlib.Core.Bool.{Bool, true, false}
use mathlib.Core.List.{List}
use Prim.Native.Nat.{ℕ, ◌+◌, ◌-◌, ◌*◌, ◌%◌, ◌≤◌, ◌<◌}
use native.Mathlib.Omega.{arith}
use lib.Dec.{eqb, ltb}
use lib.ListN.{length, drop, get_or}
use borrow.Author.Tests.{le-leb, lt-leb, eq-eqb, ne_eqb}
use Rattle.segment.specs.Records.{rises}
use Rattle.pad_map.specs.declared.Key.{Key}
use Rattle.pad_map.specs.Bars.{Hit, key, key_of}
use Rattle.pad_map.specs.Rules.{comes_after, hit_fine, hits_fine}
use Rattle.pad_words.specs.Words.{pad_words, hit_at, hits_of, bars_of, held}
use Rattle.pad_words.specs.Whole.{bars_fine, whole}
use Rattle.pad_words.proofs.Steps.{hits_many, hits_step, hits_end, bars_step, bars_end}

-- ---- a hit

module _ (len : ℕ) (previous : Option Key) (h : Hit) where
  pub hit_sound : 127 < h.sound → false ≡ hit_fine len previous h
  unfolding hit_fine
  hit_sound x = rw (lt-leb h.sound 127 x)

  module _ (s : h.sound ≤ 127) where
    pub hit_silent : h.velocity < 1 → false ≡ hit_fine len previous h
    unfolding hit_fine
    hit_silent x = rw (le-leb h.sound 127 s, lt-leb 1 h.velocity x)

    module _ (v : 1 ≤ h.velocity) where
      pub hit_loud : 127 < h.velocity → false ≡ hit_fine len previous h
      unfolding hit_fine
      hit_loud x = rw (le-leb h.sound 127 s, le-leb 1 h.velocity v, lt-leb h.velocity 127 x)

      module _ (w : h.velocity ≤ 127) where
        pub hit_early : comes_after previous (key_of h) ≡ false → false ≡ hit_fine len previous h
        unfolding hit_fine
        hit_early e = rw (le-leb h.sound 127 s, le-leb 1 h.velocity v, le-leb h.velocity 127 w, e)

        pub hit_step : comes_after previous (key_of h) ≡ true → ltb h.step len ≡ hit_fine len previous h
        unfolding hit_fine
        hit_step e = rw (le-leb h.sound 127 s, le-leb 1 h.velocity v, le-leb h.velocity 127 w, e)

-- ---- the hits from an offset on

module _ (len : ℕ) (previous : Option Key) (ws : List ℕ) (at count i : ℕ) {all : Bool}
    (inv : hits_fine len previous (hits_of (count - i) (drop at ws)) ≡ all) where
  pub hits_next : i < count → true ≡ hit_fine len previous (hit_at (get_or ws at 0) (get_or ws (at + 1) 0))
      → hits_fine len (Some (key (get_or ws at 0 % 256) (get_or ws (at + 1) 0))) (hits_of (count - (i + 1)) (drop (at + 2) ws)) ≡ all
  unfolding hits_fine
  hits_next h e = rw (hits_step ws at count i h, ← e) at inv

  pub hits_stop : i < count → false ≡ hit_fine len previous (hit_at (get_or ws at 0) (get_or ws (at + 1) 0)) → false ≡ all
  unfolding hits_fine
  hits_stop h e = rw (hits_step ws at count i h, ← e) at inv

  pub hits_done : count ≤ i → true ≡ all
  unfolding hits_fine
  hits_done h = rw (hits_end ws at count i h) at inv

-- ---- the bars from an offset on

module _ (previous : Option ℕ) (remaining : ℕ) (ws : List ℕ) (at count i : ℕ) {all : Bool}
    (inv : bars_fine previous remaining (bars_of (count - i) (drop at ws)) ≡ all) where
  pub bars_low : i < count → false ≡ rises previous (get_or ws at 0) → false ≡ all
  unfolding bars_fine
  bars_low h e = rw (bars_step ws at count i h, ← e) at inv

  module _ (h : i < count) (up : true ≡ rises previous (get_or ws at 0)) (n : ℕ) (is : n ≡ get_or ws (at + 2) 0) where
    there : length (hits_of (get_or ws (at + 2) 0) (drop (at + 3) ws)) ≡ n
    there = hits_many (get_or ws (at + 2) 0) (drop (at + 3) ws) ∙ sym is

    pub bars_over : remaining < n → false ≡ all
    unfolding bars_fine
    bars_over x = rw (bars_step ws at count i h, ← up, there, lt-leb n remaining x) at inv

    module _ (few : n ≤ remaining) where
      pub bars_bad : false ≡ hits_fine (get_or ws (at + 1) 0) None (hits_of n (drop (at + 3) ws)) → false ≡ all
      unfolding bars_fine
      bars_bad e = rw (bars_step ws at count i h, ← up, there, le-leb n remaining few, sym (rw is at e)) at inv

      pub bars_next : true ≡ hits_fine (get_or ws (at + 1) 0) None (hits_of n (drop (at + 3) ws))
          → bars_fine (Some (get_or ws at 0)) (remaining - n) (bars_of (count - (i + 1)) (drop (at + (3 + 2 * n)) ws)) ≡ all
      unfolding bars_fine
      bars_next e =
          rw is (rw (
            bars_step ws at count i h,
            ← up,
            hits_many (get_or ws (at + 2) 0) (drop (at + 3) ws),
            le-leb (get_or ws (at + 2) 0) remaining (omega arith),
            sym (rw is at e),
          ) at inv)

  pub bars_done : count ≤ i → eqb remaining 0 ≡ all
  unfolding bars_fine
  bars_done h = rw (bars_end ws at count i h) at inv

-- ---- all of it

module _ (pad : List ℕ) where
  pub whole_length : (length pad ≡ pad_words → ⊥) → false ≡ whole pad
  unfolding whole
  whole_length n = rw (ne_eqb (length pad) pad_words n)

  module _ (l : length pad ≡ pad_words) where
    pub whole_bars : 256 < get_or pad 0 0 → false ≡ whole pad
    unfolding whole
    whole_bars h = rw (eq-eqb (length pad) pad_words l, lt-leb (get_or pad 0 0) 256 h)

    module _ (b : get_or pad 0 0 ≤ 256) where
      pub whole_hits : 8192 < get_or pad 1 0 → false ≡ whole pad
      unfolding whole
      whole_hits h = rw (eq-eqb (length pad) pad_words l, le-leb (get_or pad 0 0) 256 b, lt-leb (get_or pad 1 0) 8192 h)

      pub whole_rest : get_or pad 1 0 ≤ 8192 → bars_fine None (get_or pad 1 0) (held pad) ≡ whole pad
      unfolding whole
      whole_rest h = rw (eq-eqb (length pad) pad_words l, le-leb (get_or pad 0 0) 256 b, le-leb (get_or pad 1 0) 8192 h)
