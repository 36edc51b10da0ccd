-- What a pad holds: a map from id to bar (document 02: at most 256 bars and 8,192 hits in all).
use Rattle.std.specs.Prelude.{None, Option, Some, ℕ, ◌+◌, cond, List, [], ◌∷◌, ltb, eqb, length}
use Rattle.common.specs.Lists.{paired}
use Rattle.pad_map.specs.declared.Key.{Key}

-- A hit: a sound number, a step and a velocity
pub record Hit : Type 0 where
  pub sound : ℕ
  pub step : ℕ
  pub velocity : ℕ

abbrev pub hit : (sound step velocity : ℕ) → Hit
hit s t v = record { sound = s; step = t; velocity = v }

-- Where a hit stands in its bar, whatever its velocity: by sound, then step
abbrev pub key : (sound step : ℕ) → Key
key s t = record { sound = s; step = t }

abbrev pub key_of : Hit → Key
key_of h = key h.sound h.step

abbrev pub with_velocity : Key → (velocity : ℕ) → Hit
with_velocity k v = hit k.sound k.step v

-- A bar with its id: its length, its hits by sound, then step
pub record Bar : Type 0 where
  pub id : ℕ
  pub len : ℕ
  pub hits : List Hit

abbrev pub bar : ℕ → ℕ → List Hit → Bar
bar i l hs = record { id = i; len = l; hits = hs }

-- the hits of three lists side by side
abbrev pub hits_in : (sounds steps velocities : List ℕ) → List Hit
hits_in sounds steps velocities = paired with_velocity (paired key sounds steps) velocities

-- ---- the map: bars by rising id, each id once

-- the bar under an id
unfoldable pub lookup : List Bar → (id : ℕ) → Option Bar
lookup [] id = None
lookup (b ∷ bs) id = let later = lookup bs id in cond (eqb b.id id) (Some b) later

-- a bar added under an id that is not held, at its place by rising id
unfoldable pub insert : Bar → List Bar → List Bar
insert b [] = b ∷ []
insert b (c ∷ cs) = let later = insert b cs in cond (ltb c.id b.id) (c ∷ later) (b ∷ (c ∷ cs))

-- the bar under an id taken out
unfoldable pub without : (id : ℕ) → List Bar → List Bar
without id [] = []
without id (c ∷ cs) = let later = without id cs in cond (eqb c.id id) later (c ∷ later)

-- the hits of all bars
abbrev pub hits_in_all : List Bar → ℕ
hits_in_all [] = 0
hits_in_all (b ∷ bs) = length b.hits + hits_in_all bs
