-- What the lookup over a caller's lists answers, in the words of document 02, wish 8.
use Rattle.std.specs.Prelude.{Err, None, Ok, Option, Some, ℕ, suc, ◌≤◌, ◌<◌, ◌≡◌, List, ◌⊎◌, length, get_or}
use Rattle.segment.specs.Results.{Answer}
use Rattle.common.specs.Elements.{◌∈◌, Rising}
use Rattle.segment.specs.Refusals.{too_large, list_shape, ids_not_rising}
use Rattle.segment.specs.declared.refusal.Refusal.{Refusal}

-- ---- the lists

-- neither has over 16,777,216 elements
abbrev pub Small : (ids lengths : List ℕ) → Type 0
Small ids lengths = (length ids ≤ 16777216) × (length lengths ≤ 16777216)

-- and they run side by side
pub record SideBySide (ids lengths : List ℕ) : Type 0 where
  pub small : Small ids lengths
  pub same : length ids ≡ length lengths

-- the id on this place, counted from 0, is the first that is not above the one before it
pub record FirstNotAbove (ids : List ℕ) (place : ℕ) : Type 0 where
  pub before : ℕ
  pub next : place ≡ suc before
  pub inside : place < length ids
  pub not_above : get_or ids place 0 ≤ get_or ids before 0
  pub first : (i : ℕ) → suc i < place → get_or ids i 0 < get_or ids (suc i) 0

-- ---- the answer

-- this length stands beside the id
pub record Beside (ids lengths : List ℕ) (id n : ℕ) : Type 0 where
  pub place : ℕ
  pub inside : place < length ids
  pub here : get_or ids place 0 ≡ id
  pub beside : get_or lengths place 0 ≡ n

-- refused, and why; the asked id has no part in it
abbrev pub RefusedFor : (ids lengths : List ℕ) → Refusal → Type 0
RefusedFor ids lengths x =
    (((16777216 < length ids) ⊎ (16777216 < length lengths)) × (x ≡ too_large))
    ⊎ ((Small ids lengths × (length ids ≡ length lengths → ⊥) × (x ≡ list_shape))
    ⊎ (SideBySide ids lengths × (place : ℕ) × FirstNotAbove ids place × (x ≡ ids_not_rising place)))

-- ids that rise, with the lengths beside them
abbrev pub RisingLists : (ids lengths : List ℕ) → Type 0
RisingLists ids lengths = SideBySide ids lengths × Rising ids

abbrev pub Answers : (ids lengths : List ℕ) (id : ℕ) → Answer (Option ℕ) → Type 0
Answers ids lengths id ((Ok (Some n))) = RisingLists ids lengths × Beside ids lengths id n
Answers ids lengths id (Ok None) = RisingLists ids lengths × (id ∈ ids → ⊥)
Answers ids lengths id (Err x) = RefusedFor ids lengths x
