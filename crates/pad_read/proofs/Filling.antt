-- A list filled from the hits, one at a time.
-- Assumes nothing.
use mathlib.Core.Path.{◌≡◌, ap, ◌∙◌}
use mathlib.Core.List.{List, map}
use Prim.Native.Nat.{ℕ, ◌+◌, ◌-◌, ◌≤◌, ◌<◌}
use native.Mathlib.Nat.{sub-zero}
use native.Mathlib.Omega.{arith}
use lib.ListN.{length, drop, get_or, set, length-map}
use Rattle.calls.specs.Replies.{fronted}
use Rattle.calls.proofs.Filling.{ToStore, front_start, next_stored, all_stored, at_front}
use Rattle.pad_map.specs.Bars.{Hit}
use Rattle.pad_words.specs.Words.{hit_at, hits_of}
use Rattle.pad_words.proofs.Steps.{hits_many, hits_step, hits_end}

module _ (f : Hit → ℕ) (ws : List ℕ) (from count : ℕ) (entry : List ℕ) where
  -- what is still to be stored, with the hits read from an offset on
  abbrev pub Filling : (at i : ℕ) (out : List ℕ) → Type 0
  Filling at i out = ToStore (map f (hits_of count (drop from ws))) 0 entry (map f (hits_of (count - i) (drop at ws))) i out

  many : length (map f (hits_of count (drop from ws))) ≡ count
  many = length-map (hits_of count (drop from ws)) f ∙ hits_many count (drop from ws)

  module _ (room : count ≤ length entry) where
    pub fill_start : (at : ℕ) → at ≡ from → Filling at 0 entry
    fill_start at e = rw e (front_start (ap (λ (n : ℕ). map f (hits_of n (drop from ws))) (sub-zero count)) (omega (arith, many)))

  module _ (at i : ℕ) (out : List ℕ) (t : Filling at i out) where
    pub fill_next : (v : ℕ) → i < count → f (hit_at (get_or ws at 0) (get_or ws (at + 1) 0)) ≡ v → Filling (at + 2) (i + 1) (set out i v)
    fill_next v h e = next_stored t (rw e at (ap (map f) (hits_step ws at count i h)))

    pub fill_end : count ≤ length entry → count ≤ i → out ≡ fronted (map f (hits_of count (drop from ws))) entry
    fill_end room h = at_front (omega (arith, many)) (all_stored t (ap (map f) (hits_end ws at count i h)))
