-- The hits of one sound in a bar: hits rise by sound, so behind those of lower sounds they come first.
-- Assumes nothing.
use mathlib.Core.Path.{◌≡◌, refl, sym, ap, ◌∙◌}
use mathlib.Core.Bool.{Bool, true, false, cond}
use mathlib.Core.List.{List, [], ◌∷◌}
use mathlib.Core.Logic.{◌⊎◌, inl, inr}
use Prim.Native.Nat.{ℕ, zero, suc, ◌+◌, ◌-◌, ◌*◌, ◌%◌, ◌≤◌, ◌<◌}
use native.Mathlib.Omega.{arith}
use lib.Dec.{ltb, eqb}
use lib.ListN.{length, drop, get_or, length-map}
use lib.Seq.{drop-drop}
use borrow.Author.Tests.{lt-ltb, le-ltb, eq-eqb, ne_eqb}
use Rattle.common.proofs.Loops.{lt_or_ge}
use Rattle.common.proofs.Kept.{kept_fewer}
use Rattle.common.proofs.OneMore.{equal_or_not}
use Rattle.common.specs.Members.{kept}
use Rattle.common.specs.Stores.{Stored}
use Rattle.pad_map.specs.Bars.{Hit}
use Rattle.pad_map.specs.Rules.{ComesBefore, HitsRising}
use Rattle.pad_map.specs.Acts.{of_sound, steps_of}
use Rattle.pad_words.specs.Words.{hit_at, hits_of}
use Rattle.pad_words.proofs.Steps.{hits_many, hits_step, hits_end}
use Rattle.pad_lists.specs.Steps.{lower, leading}

-- ---- a hit at a time

module _ (s : ℕ) where
  pub lower_few : (hits : List Hit) → lower s hits ≤ length hits
  unfolding lower
  lower_few hits = kept_fewer (λ h. ltb h.sound s) hits

  pub steps_few : (hits : List Hit) → length (steps_of s hits) ≤ length hits
  unfolding steps_of
  steps_few hits = omega (arith, kept_fewer (of_sound s) hits, length-map (kept (of_sound s) hits) (λ h. h.step))

  module _ (h : Hit) (hs : List Hit) where
    lower_past : h.sound < s → lower s (h ∷ hs) ≡ suc (lower s hs)
    unfolding lower kept
    lower_past l = rw (lt-ltb h.sound s l)

    lower_same : s ≤ h.sound → lower s (h ∷ hs) ≡ lower s hs
    unfolding lower kept
    lower_same l = rw (le-ltb h.sound s l)

    steps_here : h.sound ≡ s → steps_of s (h ∷ hs) ≡ h.step ∷ steps_of s hs
    unfolding steps_of kept
    steps_here e = rw (eq-eqb h.sound s e)

    steps_past : (h.sound ≡ s → ⊥) → steps_of s (h ∷ hs) ≡ steps_of s hs
    unfolding steps_of kept
    steps_past n = rw (ne_eqb h.sound s n)

    pub leading_here : h.sound ≡ s → leading s (h ∷ hs) ≡ h.step ∷ leading s hs
    unfolding leading
    leading_here e = rw (eq-eqb h.sound s e)

    pub leading_none : (h.sound ≡ s → ⊥) → leading s (h ∷ hs) ≡ []
    unfolding leading
    leading_none n = rw (ne_eqb h.sound s n)

pub leading_few : (s : ℕ) (hits : List Hit) → length (leading s hits) ≤ length hits
unfolding leading
leading_few s [] = omega arith
leading_few s (h ∷ hs) = go (eqb h.sound s) (leading_few s hs)
  where
    go : (t : Bool) → length (leading s hs) ≤ length hs → length (cond t (h.step ∷ leading s hs) []) ≤ suc (length hs)
    go true l = omega arith
    go false l = omega arith

-- below the next sound: those below this one, and those of this one
pub lower_next : (s : ℕ) (hits : List Hit) → lower (suc s) hits ≡ lower s hits + length (steps_of s hits)
unfolding lower steps_of kept
lower_next s [] = refl
lower_next s (h ∷ hs) = go (lt_or_ge h.sound s) (equal_or_not h.sound s) (lower_next s hs)
  where
    go : (h.sound < s) ⊎ (s ≤ h.sound) → (h.sound ≡ s) ⊎ (h.sound ≡ s → ⊥) → lower (suc s) hs ≡ lower s hs + length (steps_of s hs)
        → lower (suc s) (h ∷ hs) ≡ lower s (h ∷ hs) + length (steps_of s (h ∷ hs))
    go (inl l) x r = rw (lower_past (suc s) h hs (omega arith), lower_past s h hs l, steps_past s h hs (λ e. omega arith)) (omega arith)
    go (inr l) (inl e) r = rw (lower_past (suc s) h hs (omega arith), lower_same s h hs l, steps_here s h hs e) (omega arith)
    go (inr l) (inr n) r = rw (lower_same (suc s) h hs (omega arith), lower_same s h hs l, steps_past s h hs n) r

-- no hit has a sound below the first
pub lower_none : (hits : List Hit) → lower 0 hits ≡ 0
unfolding lower kept
lower_none [] = refl
lower_none (h ∷ hs) = lower_same 0 h hs (omega arith) ∙ lower_none hs

-- ---- hits that rise

sound_up : (a b : Hit) → ComesBefore a b → a.sound ≤ b.sound
sound_up a b (inl l) = omega arith
sound_up a b (inr e) = omega (arith, e.0)

rising_rest : (h : Hit) (hs : List Hit) → HitsRising (h ∷ hs) → HitsRising hs
rising_rest h [] r = tt
rising_rest h (k ∷ hs) (up, r) = r

module _ (s : ℕ) where
  -- behind a hit that is not lower, none is
  none_lower : (p : Hit) (hits : List Hit) → HitsRising (p ∷ hits) → s ≤ p.sound → lower s hits ≡ 0
  unfolding lower kept
  none_lower p [] r l = refl
  none_lower p (h ∷ hs) (up, r) l =
      let k = sound_up p h up in
      lower_same s h hs (omega arith) ∙ none_lower h hs r (omega arith)

  -- behind a higher one, none is of the sound
  none_of : (p : Hit) (hits : List Hit) → HitsRising (p ∷ hits) → s < p.sound → steps_of s hits ≡ []
  unfolding steps_of kept
  none_of p [] r l = refl
  none_of p (h ∷ hs) (up, r) l =
      let k = sound_up p h up in
      steps_past s h hs (λ x. omega arith) ∙ none_of h hs r (omega arith)

  -- past the lower ones: all of the sound, in their order
  pub run_all : (hits : List Hit) → HitsRising hits → leading s (drop (lower s hits) hits) ≡ steps_of s hits
  unfolding lower leading steps_of kept
  run_all [] r = refl
  run_all (h ∷ hs) r = go (lt_or_ge h.sound s) (equal_or_not h.sound s) (run_all hs (rising_rest h hs r))
    where
      go : (h.sound < s) ⊎ (s ≤ h.sound) → (h.sound ≡ s) ⊎ (h.sound ≡ s → ⊥) → leading s (drop (lower s hs) hs) ≡ steps_of s hs
          → leading s (drop (lower s (h ∷ hs)) (h ∷ hs)) ≡ steps_of s (h ∷ hs)
      go (inl l) x later = rw (lower_past s h hs l, steps_past s h hs (λ y. omega arith)) later
      go (inr l) (inl x) later =
          let z : lower s hs ≡ 0 = none_lower h hs r l in
          let here : lower s (h ∷ hs) ≡ 0 = lower_same s h hs l ∙ z in
          rw (here, steps_here s h hs x, leading_here s h hs x) (ap (λ (ts : List ℕ). h.step ∷ ts) (rw z at later))
      go (inr l) (inr n) later =
          let here : lower s (h ∷ hs) ≡ 0 = lower_same s h hs l ∙ none_lower h hs r l in
          rw (here, leading_none s h hs n, steps_past s h hs n) (sym (none_of h hs r (omega arith)))

-- ---- in the words of a pad

drop_words : (c n : ℕ) (ws : List ℕ) → c ≤ n → drop c (hits_of n ws) ≡ hits_of (n - c) (drop (2 * c) ws)
unfolding hits_of
drop_words zero n ws l = let e : n - 0 ≡ n = omega arith in rw e
drop_words (suc c) zero ws l = absurd (omega arith)
drop_words (suc c) (suc n) ws l =
    let e : suc n - suc c ≡ n - c = omega arith in
    let k : 2 + 2 * c ≡ 2 * suc c = omega arith in
    drop_words c n (drop 2 ws) (omega arith) ∙ rw (e, drop-drop (2 * c) 2 ws, k)

-- the hits past the first ones
pub drop_hits : (c n at : ℕ) (ws : List ℕ) → c ≤ n → hits_of (n - c) (drop (at + 2 * c) ws) ≡ drop c (hits_of n (drop at ws))
drop_hits c n at ws l = rw (← drop-drop (2 * c) at ws) (sym (drop_words c n (drop at ws) l))

-- a hit at a time, as far as they are of the sound
module _ (s : ℕ) (ws : List ℕ) (at count : ℕ) where
  pub run_start : leading s (hits_of (count - 0) (drop at ws)) ≡ leading s (hits_of count (drop at ws))
  run_start = let e : count - 0 ≡ count = omega arith in ap (λ (n : ℕ). leading s (hits_of n (drop at ws))) e

  -- no more steps than hits
  pub run_short : {filled next : ℕ} {ps ps' : List ℕ} → Stored (leading s (hits_of count (drop at ws))) filled ps next ps'
      → next ≤ filled + count
  run_short t = omega (arith, t.past, leading_few s (hits_of count (drop at ws)), hits_many count (drop at ws))

  module _ (i : ℕ) where
    pub run_next : i < count → get_or ws at 0 % 256 ≡ s
        → leading s (hits_of (count - i) (drop at ws)) ≡ get_or ws (at + 1) 0 ∷ leading s (hits_of (count - (i + 1)) (drop (at + 2) ws))
    run_next h e = rw (hits_step ws at count i h) (leading_here s (hit_at (get_or ws at 0) (get_or ws (at + 1) 0)) _ e)

    pub run_stop : i < count → (get_or ws at 0 % 256 ≡ s → ⊥) → leading s (hits_of (count - i) (drop at ws)) ≡ []
    run_stop h n = rw (hits_step ws at count i h) (leading_none s (hit_at (get_or ws at 0) (get_or ws (at + 1) 0)) _ n)

    pub run_end : count ≤ i → leading s (hits_of (count - i) (drop at ws)) ≡ []
    unfolding leading
    run_end h = rw (hits_end ws at count i h)
