-- Hits and bars read off the words, one at a time.
-- Assumes nothing.
use mathlib.Core.Path.{◌≡◌, refl, ap, ◌∙◌}
use mathlib.Core.List.{List, [], ◌∷◌}
use Prim.Native.Nat.{ℕ, zero, suc, ◌+◌, ◌-◌, ◌*◌, ◌≤◌, ◌<◌}
use native.Mathlib.Nat.{add-zero}
use lib.ListN.{length, drop, get_or}
use lib.Seq.{get_or-drop, drop-drop}
use Rattle.common.proofs.Loops.{left_suc, left_none}
use Rattle.pad_map.specs.Bars.{Bar, bar}
use Rattle.pad_words.specs.Words.{hit_at, hits_of, bars_of}

-- as many as were asked for
pub hits_many : (n : ℕ) (ws : List ℕ) → length (hits_of n ws) ≡ n
unfolding hits_of
hits_many zero ws = refl
hits_many (suc n) ws = ap suc (hits_many n (drop 2 ws))

pub bars_many : (n : ℕ) (ws : List ℕ) → length (bars_of n ws) ≡ n
unfolding bars_of
bars_many zero ws = refl
bars_many (suc n) ws = ap suc (bars_many n (drop (3 + 2 * get_or ws 2 0) ws))

-- the bar that begins at an offset
abbrev pub bar_at : List ℕ → ℕ → Bar
bar_at ws p = bar (get_or ws p 0) (get_or ws (p + 1) 0) (hits_of (get_or ws (p + 2) 0) (drop (p + 3) ws))

here : (ws : List ℕ) (at : ℕ) → get_or (drop at ws) 0 0 ≡ get_or ws at 0
here ws at = get_or-drop at ws 0 0 ∙ ap (λ (k : ℕ). get_or ws k 0) (add-zero at)

pub bars_cons : (n : ℕ) (ws : List ℕ) (at : ℕ)
    → bars_of (suc n) (drop at ws) ≡ bar_at ws at ∷ bars_of n (drop (at + (3 + 2 * get_or ws (at + 2) 0)) ws)
unfolding bars_of
bars_cons n ws at =
    rw (here ws at, get_or-drop at ws 1 0, get_or-drop at ws 2 0, drop-drop 3 at ws, drop-drop (3 + 2 * get_or ws (at + 2) 0) at ws)

module _ (ws : List ℕ) (at count i : ℕ) where
  pub hits_step : i < count
      → hits_of (count - i) (drop at ws) ≡ hit_at (get_or ws at 0) (get_or ws (at + 1) 0) ∷ hits_of (count - (i + 1)) (drop (at + 2) ws)
  unfolding hits_of
  hits_step h = rw (left_suc count i h, here ws at, get_or-drop at ws 1 0, drop-drop 2 at ws)

  pub hits_end : count ≤ i → hits_of (count - i) (drop at ws) ≡ []
  unfolding hits_of
  hits_end h = rw (left_none count i h)

  pub bars_step : i < count
      → bars_of (count - i) (drop at ws)
      ≡ bar_at ws at ∷ bars_of (count - (i + 1)) (drop (at + (3 + 2 * get_or ws (at + 2) 0)) ws)
  bars_step h = rw (left_suc count i h) (bars_cons (count - (i + 1)) ws at)

  pub bars_end : count ≤ i → bars_of (count - i) (drop at ws) ≡ []
  unfolding bars_of
  bars_end h = rw (left_none count i h)
