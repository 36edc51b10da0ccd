-- Numbers that rise by one and the notes that have a posting, from a place on; how long the lists made of them are.
-- Assumes nothing.
use mathlib.Core.Path.{◌≡◌, refl, ap, ◌∙◌}
use mathlib.Core.Bool.{Bool, true, false}
use mathlib.Core.List.{List, [], ◌∷◌, map}
use Prim.Native.Nat.{ℕ, suc, ◌+◌, ◌-◌, ◌*◌, ◌≤◌, ◌<◌}
use native.Mathlib.Numerals.{add-one}
use native.Mathlib.Omega.{arith}
use lib.Dec.{ltb}
use lib.ListN.{length, get_or, length-map}
use borrow.Author.Tests.{lt-ltb, le-ltb}
use Rattle.common.proofs.Loops.{left_suc, left_none}
use Rattle.common.proofs.Kept.{kept_fewer}
use Rattle.common.specs.Members.{kept}
use Rattle.common.specs.Lists.{joined}
use Rattle.calls.specs.Given.{ends_from}
use Rattle.midi_bars.specs.Bars.{rising_from, name_of}
use Rattle.midi_bars.proofs.Ranges.{range_length}
use Rattle.midi_lists.specs.Heads.{heard, fours}

-- ---- numbers that rise by one

pub rising_step : (a n i : ℕ) → i < n → rising_from a (n - i) ≡ a ∷ rising_from (a + 1) (n - (i + 1))
unfolding rising_from
rising_step a n i h = rw (left_suc n i h, add-one a)

pub rising_end : (a n i : ℕ) → n ≤ i → rising_from a (n - i) ≡ []
unfolding rising_from
rising_end a n i h = rw (left_none n i h)

-- ---- what is kept of one more element

module _ (f : ℕ → Bool) (x : ℕ) (xs : List ℕ) where
  kept_here : f x ≡ true → kept f (x ∷ xs) ≡ x ∷ kept f xs
  unfolding kept
  kept_here e = rw e

  kept_past : f x ≡ false → kept f (x ∷ xs) ≡ kept f xs
  unfolding kept
  kept_past e = rw e

kept_no_more : (f : ℕ → Bool) → kept f [] ≡ []
unfolding kept
kept_no_more f = refl

-- ---- the notes that have a posting, from a note on

module _ (postings : List ℕ) where
  abbrev has : ℕ → Bool
  has n = ltb 0 (get_or postings n 0)

  abbrev pub heard_from : (note : ℕ) → List ℕ
  heard_from note = kept has (rising_from note (128 - note))

  pub heard_start : heard_from 0 ≡ heard postings
  unfolding heard
  heard_start = refl

  module _ (note : ℕ) (h : note < 128) where
    pub heard_here : 0 < get_or postings note 0 → heard_from note ≡ note ∷ heard_from (note + 1)
    heard_here k = ap (kept has) (rising_step note 128 note h) ∙ kept_here has note _ (lt-ltb 0 (get_or postings note 0) k)

    pub heard_past : get_or postings note 0 ≤ 0 → heard_from note ≡ heard_from (note + 1)
    heard_past k = ap (kept has) (rising_step note 128 note h) ∙ kept_past has note _ (le-ltb 0 (get_or postings note 0) k)

  pub heard_end : (note : ℕ) → 128 ≤ note → heard_from note ≡ []
  heard_end note h = ap (kept has) (rising_end note 128 note h) ∙ kept_no_more has

  pub heard_few : length (heard postings) ≤ 128
  unfolding heard
  heard_few = omega (arith, kept_fewer has (rising_from 0 128), range_length 0 128)

-- ---- names, and where they end

pub names_length : (ns : List ℕ) → length (joined (map name_of ns)) ≡ 4 * length ns
names_length [] = refl
names_length (n ∷ ns) = omega (arith, names_length ns)

pub fours_length : (n : ℕ) → length (fours n) ≡ n
fours_length n = length-map (rising_from 1 n) (λ n. 4 * n) ∙ range_length 1 n

ends_on : (k : ℕ) (ns : List ℕ) → ends_from (4 * k) (map name_of ns) ≡ map (λ n. 4 * n) (rising_from (suc k) (length ns))
unfolding rising_from
ends_on k [] = refl
ends_on k (n ∷ ns) =
    let e : 4 * k + 4 ≡ 4 * suc k = omega arith in
    ap (λ (at : ℕ). at ∷ ends_from at (map name_of ns)) e ∙ ap (λ (l : List ℕ). 4 * suc k ∷ l) (ends_on (suc k) ns)

pub ends_are : (ns : List ℕ) → ends_from 0 (map name_of ns) ≡ fours (length ns)
ends_are ns = ends_on 0 ns
