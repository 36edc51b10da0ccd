-- What saving asks of a bar's hits (document 02): a sound from 0 to 127, a velocity from 1 to 127, hits that rise strictly by sound, then
-- step, every step below the bar's length.
use Rattle.std.specs.Prelude.{None, Option, Some, ℕ, ◌≤◌, ◌<◌, ◌≡◌, Bool, true, ◌&&◌, ◌||◌, List, [], ◌∷◌, ◌⊎◌, ltb, leb, eqb, length}
use Rattle.common.specs.Elements.{◌∈◌}
use Rattle.segment.specs.Refusals.{too_large, list_shape, velocity_range}
use Rattle.segment.specs.Refusals.{invalid_layout, positions_not_increasing, written_position_exceeds_length}
use Rattle.segment.specs.Results.{Answer, ◌>>=◌, check}
use Rattle.pad_map.specs.declared.Key.{Key}
use Rattle.pad_map.specs.Bars.{Hit, key, key_of}

-- ---- in words

-- one hit comes before another: by sound, then step
abbrev pub ComesBefore : Hit → Hit → Type 0
ComesBefore a b = (a.sound < b.sound) ⊎ ((a.sound ≡ b.sound) × (a.step < b.step))

-- each next hit comes behind the one before it
abbrev pub HitsRising : List Hit → Type 0
HitsRising [] = Unit {0}
HitsRising (h ∷ []) = Unit {0}
HitsRising (h ∷ (k ∷ hs)) = ComesBefore h k × HitsRising (k ∷ hs)

-- a velocity within the range
abbrev pub VelocityFits : ℕ → Type 0
VelocityFits v = (1 ≤ v) × (v ≤ 127)

-- the hits of a bar of this length are within the rules
pub record HitsFine (len : ℕ) (hits : List Hit) : Type 0 where
  pub sounds : (h : Hit) → h ∈ hits → h.sound ≤ 127
  pub velocities : (h : Hit) → h ∈ hits → VelocityFits h.velocity
  pub rising : HitsRising hits
  pub steps : (h : Hit) → h ∈ hits → h.step < len

-- ---- as tests

unfoldable pub before : Key → Key → Bool
before a b = ltb a.sound b.sound || (eqb a.sound b.sound && ltb a.step b.step)

-- behind the hit before it, wherever that stands; the first follows none
abbrev pub comes_after : Option Key → Key → Bool
comes_after None k = true
comes_after (Some a) k = before a k

abbrev pub velocity_fits : ℕ → Bool
velocity_fits v = leb 1 v && leb v 127

-- hit by hit: its sound, its velocity, its place in the order, its step
unfoldable pub hit_fine : (len : ℕ) (previous : Option Key) → Hit → Bool
hit_fine len previous h =
    leb h.sound 127 && (velocity_fits h.velocity && (comes_after previous (key_of h) && ltb h.step len))

unfoldable pub hits_fine : (len : ℕ) (previous : Option Key) → List Hit → Bool
hits_fine len previous [] = true
hits_fine len previous (h ∷ hs) = hit_fine len previous h && hits_fine len (Some (key_of h)) hs

-- ---- what is handed to saving: sounds, steps and velocities side by side, each test over all hits before the next

-- every number is at most `high`
unfoldable pub all_up_to : (high : ℕ) → List ℕ → Bool
all_up_to high [] = true
all_up_to high (x ∷ xs) = leb x high && all_up_to high xs

-- every velocity is within the range
unfoldable pub all_audible : List ℕ → Bool
all_audible [] = true
all_audible (v ∷ vs) = velocity_fits v && all_audible vs

-- hits rise strictly by sound, then step
unfoldable pub hits_rise : (previous : Option Key) (sounds steps : List ℕ) → Bool
hits_rise previous [] ts = true
hits_rise previous (s ∷ ss) [] = true
hits_rise previous (s ∷ ss) (t ∷ ts) = comes_after previous (key s t) && hits_rise (Some (key s t)) ss ts

-- every step is below the length
unfoldable pub all_below : (len : ℕ) → List ℕ → Bool
all_below len [] = true
all_below len (x ∷ xs) = ltb x len && all_below len xs

-- 12 for a list over 16,777,216, 11 for lists that differ in length, then a sound above 127, a velocity outside 1 to 127, hit order, a step
-- not below the length
unfoldable pub check_hits : (len : ℕ) (sounds steps velocities : List ℕ) → Answer (Unit {0})
check_hits len ss ts vs = do
  _ ← check (leb (length ss) 16777216 && (leb (length ts) 16777216 && leb (length vs) 16777216)) too_large
  _ ← check (eqb (length ss) (length ts) && eqb (length ss) (length vs)) list_shape
  _ ← check (all_up_to 127 ss) too_large
  _ ← check (all_audible vs) velocity_range
  _ ← check (hits_rise None ss ts) (invalid_layout positions_not_increasing)
  check (all_below len ts) (invalid_layout written_position_exceeds_length)
