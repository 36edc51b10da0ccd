-- What the lists of a pad hold, one sound at a time.
use Rattle.std.specs.Prelude.{ℕ, suc, ◌+◌, ◌*◌, ◌≤◌, ◌<◌, ◌≡◌, true, cond, List, [], ◌∷◌, map, ltb, eqb, length, take, get_or}
use Rattle.common.specs.Lists.{total}
use Rattle.common.specs.Members.{kept}
use Rattle.calls.specs.Given.{postings_in}
use Rattle.pad_map.specs.Bars.{Hit, Bar}
use Rattle.pad_map.specs.Acts.{postings_of}
use Rattle.pad_words.specs.Words.{held}
use Rattle.pad_words.specs.Whole.{whole}
use Rattle.pad_lists.specs.declared.sound.Gathered.{Gathered}

-- ---- documents

-- a place for each bar that a pad can hold
pub record DocumentsFit (pad ids lengths : List ℕ) : Type 0 where
  pub whole_pad : whole pad ≡ true
  pub ids_long : length ids ≡ 256
  pub lengths_long : length lengths ≡ 256

-- the bars' ids and lengths stand at the front
pub record DocumentsGathered (pad ids' lengths' : List ℕ) : Type 0 where
  pub ids_long : length ids' ≡ 256
  pub lengths_long : length lengths' ≡ 256
  pub ids : take (length (held pad)) ids' ≡ map (λ b. b.id) (held pad)
  pub lengths : take (length (held pad)) lengths' ≡ map (λ b. b.len) (held pad)

-- ---- the hits of one sound in a bar

-- how many hits have a lower sound
unfoldable pub lower : (sound : ℕ) → List Hit → ℕ
lower s hits = length (kept (λ h. ltb h.sound s) hits)

-- the steps of the first hits, as far as they are of the sound
unfoldable pub leading : (sound : ℕ) → List Hit → List ℕ
leading s [] = []
leading s (h ∷ hs) = let later = leading s hs in cond (eqb h.sound s) (h.step ∷ later) []

-- hits that lie in the pad, and a place for the step of each
pub record RunFits (pad : List ℕ) (from remaining : ℕ) (positions : List ℕ) (filled : ℕ) : Type 0 where
  pub inside : from + 2 * remaining ≤ length pad
  pub room : filled + remaining ≤ 8192
  pub positions_long : length positions ≡ 8192

-- ---- the postings of one sound

-- each bar's cursor is past its hits of lower sounds
pub record Cursors (sound : ℕ) (bars : List Bar) (cursors : List ℕ) : Type 0 where
  pub each : (i : ℕ) → i < length bars → get_or cursors i 0 ≡ get_or (map (λ b. lower sound b.hits) bars) i 0

-- a place for each bar, and for each hit, that a pad can hold
pub record Places (cursors ids counts positions : List ℕ) : Type 0 where
  pub cursors_long : length cursors ≡ 256
  pub ids_long : length ids ≡ 256
  pub counts_long : length counts ≡ 256
  pub positions_long : length positions ≡ 8192

pub record SoundFits (pad : List ℕ) (sound : ℕ) (cs ids counts positions : List ℕ) : Type 0 where
  pub whole_pad : whole pad ≡ true
  pub cursors : Cursors sound (held pad) cs
  pub places : Places cs ids counts positions

-- the sound's postings stand in the lists, as far as the answer says, and the cursors are ready for the next sound
pub record SoundGathered (pad : List ℕ) (sound : ℕ) (r : Gathered) (cs' ids' counts' positions' : List ℕ) : Type 0 where
  pub few_postings : r.postings ≤ 256
  pub few_positions : r.positions ≤ 8192
  pub count : r.postings ≡ length (postings_of sound (held pad))
  pub enough : total (take r.postings counts') ≡ r.positions
  pub postings : postings_in (take r.postings ids') (take r.postings counts') (take r.positions positions')
      ≡ postings_of sound (held pad)
  pub cursors : Cursors (suc sound) (held pad) cs'
  pub places : Places cs' ids' counts' positions'
