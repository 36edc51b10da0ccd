-- Which words are a pad: every other value is 20 (document 02). In words, and as the test.
use Rattle.std.specs.Prelude.{None, Option, Some, ℕ, ◌-◌, ◌≤◌, ◌≡◌, Bool, ◌&&◌, List, [], ◌∷◌, map, leb, eqb, length, get_or}
use Rattle.common.specs.Elements.{◌∈◌, Rising}
use Rattle.segment.specs.Records.{rises}
use Rattle.pad_map.specs.Bars.{Bar, hits_in_all}
use Rattle.pad_map.specs.Rules.{HitsFine, hits_fine}
use Rattle.pad_words.specs.Words.{pad_words, held}

-- As many words as a pad has, within the two limits; no id twice, since ids rise; every bar's hits within the rules for saving; and as many
-- hits as word 1 says: a higher number would count hits of no bar's, a lower one would leave hits in places the pad does not have. No two
-- bars share a place, as each begins where the one before ends
pub record Whole (pad : List ℕ) : Type 0 where
  pub words : length pad ≡ pad_words
  pub bars : get_or pad 0 0 ≤ 256
  pub hits : get_or pad 1 0 ≤ 8192
  pub ids_rise : Rising (map (λ b. b.id) (held pad))
  pub each : (b : Bar) → b ∈ held pad → HitsFine b.len b.hits
  pub total : hits_in_all (held pad) ≡ get_or pad 1 0

-- ids rise, each bar's hits are fine, and there are `remaining` hits in all; counts are taken off, never added up
unfoldable pub bars_fine : (previous : Option ℕ) (remaining : ℕ) → List Bar → Bool
bars_fine previous remaining [] = eqb remaining 0
bars_fine previous remaining (b ∷ bs) =
    rises previous b.id
    && (leb (length b.hits) remaining
    && (hits_fine b.len None b.hits && bars_fine (Some b.id) (remaining - length b.hits) bs))

unfoldable pub whole : (pad : List ℕ) → Bool
whole pad =
    eqb (length pad) pad_words
    && (leb (get_or pad 0 0) 256 && (leb (get_or pad 1 0) 8192 && bars_fine None (get_or pad 1 0) (held pad)))
