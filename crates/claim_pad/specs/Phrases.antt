-- Document 02, wish 6: a phrase put to what was written out lists exactly the held bars whose own hits meet it. Nothing here names what the
-- writer or the search computes: only the bars held, the names handed in, and the phrase rule in words.
use Rattle.std.specs.Prelude.{Ok, ℕ, ◌+◌, ◌≤◌, ◌<◌, ◌≡◌, List, [], ◌++◌, length, drop, get_or}
use Rattle.segment.specs.Results.{Answer}
use Rattle.common.specs.Elements.{◌∈◌, Rising}
use Rattle.pad_map.specs.Bars.{Hit, Bar}

-- a bar has a hit of a sound of this name on this step; sound s has the name at place s
pub record HasHit (names : List (List ℕ)) (b : Bar) (name : List ℕ) (step : ℕ) : Type 0 where
  pub hit : Hit
  pub own : hit ∈ b.hits
  pub named : get_or names hit.sound [] ≡ name
  pub on : hit.step ≡ step

-- a bar's own hits meet a phrase: some start has sound i on start + i
pub record HitsMeet (names phrase : List (List ℕ)) (b : Bar) : Type 0 where
  pub start : ℕ
  pub on : (i : ℕ) → i < length phrase → HasHit names b (get_or phrase i []) (start + i)

-- the ids of the bars held whose own hits meet the phrase, ascending and without repeats
pub record BarsThatMeet (bars : List Bar) (names phrase : List (List ℕ)) (ids : List ℕ) : Type 0 where
  pub only : (d : ℕ) → d ∈ ids → (b : Bar) × (b ∈ bars) × (b.id ≡ d) × HitsMeet names phrase b
  pub every : (b : Bar) → b ∈ bars → HitsMeet names phrase b → b.id ∈ ids
  pub rising : Rising ids

-- the search does not refuse: it answers their number, and they fill that many first places of the buffer
pub record BarsListed (bars : List Bar) (names phrase : List (List ℕ)) (found : List ℕ) (r : Answer ℕ) (found' : List ℕ) : Type 0 where
  pub there_are : (ids : List ℕ) × BarsThatMeet bars names phrase ids
  pub answer : (ids : List ℕ) → BarsThatMeet bars names phrase ids → length ids ≤ length found
      → (r ≡ Ok (length ids)) × (found' ≡ ids ++ drop (length ids) found)
