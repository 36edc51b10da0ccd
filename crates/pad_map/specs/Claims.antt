-- What is claimed of the map; proved in proofs/.
use Rattle.std.specs.Prelude.{Err, None, Ok, Some, ℕ, suc, ◌+◌, ◌≤◌, ◌<◌, ◌≡◌, true, cond, List, [], ◌∷◌, map, ◌↔◌, ◌⊎◌, eqb, length}
use Rattle.common.specs.Elements.{◌∈◌, Rising}
use Rattle.segment.specs.Refusals.{pad_full, velocity_range}
use Rattle.pad_map.specs.Bars.{Hit, Bar, key_of, hits_in, lookup, insert, without, hits_in_all}
use Rattle.pad_map.specs.Rules.{ComesBefore, VelocityFits, HitsFine, before, hits_fine, check_hits}
use Rattle.pad_map.specs.Acts.{save, write_out}

-- ---- the rules, in words and as tests

abbrev pub OrderExactly : Type 0
OrderExactly = (a b : Hit) → (before (key_of a) (key_of b) ≡ true) ↔ ComesBefore a b

abbrev pub FineExactly : Type 0
FineExactly = (len : ℕ) (hits : List Hit) → (hits_fine len None hits ≡ true) ↔ HitsFine len hits

-- the three lists are not too long, and equally long
pub record SideBySide (sounds steps velocities : List ℕ) : Type 0 where
  pub small : length sounds ≤ 16777216
  pub as_many_steps : length sounds ≡ length steps
  pub as_many_velocities : length sounds ≡ length velocities

-- saving's tests of its lists pass exactly where they are so, and their hits are within the rules
pub record ListsWell (len : ℕ) (sounds steps velocities : List ℕ) : Type 0 where
  pub side_by_side : SideBySide sounds steps velocities
  pub fine : HitsFine len (hits_in sounds steps velocities)

abbrev pub CheckExactly : Type 0
CheckExactly = (len : ℕ) (sounds steps velocities : List ℕ)
    → (check_hits len sounds steps velocities ≡ Ok tt) ↔ ListsWell len sounds steps velocities

-- 22 is answered exactly where the lists are side by side, every sound is at most 127 and some velocity is outside its range, whatever the
-- order of the hits and their steps
pub record VelocityOut (sounds steps velocities : List ℕ) : Type 0 where
  pub side_by_side : SideBySide sounds steps velocities
  pub sounds_low : (s : ℕ) → s ∈ sounds → s ≤ 127
  pub velocity : ℕ
  pub there : velocity ∈ velocities
  pub outside : VelocityFits velocity → ⊥

abbrev pub VelocityExactly : Type 0
VelocityExactly = (len : ℕ) (sounds steps velocities : List ℕ)
    → (check_hits len sounds steps velocities ≡ Err velocity_range) ↔ VelocityOut sounds steps velocities

-- ---- the list of bars is a map: a bar that was added is found under its id, one that was taken out is not, every other id is as before

abbrev pub Added : Type 0
Added = (bars : List Bar) (b : Bar) (id : ℕ) → lookup bars b.id ≡ None
    → lookup (insert b bars) id ≡ cond (eqb b.id id) (Some b) (lookup bars id)

abbrev pub TakenOut : Type 0
TakenOut = (bars : List Bar) (gone id : ℕ) → lookup (without gone bars) id ≡ cond (eqb gone id) None (lookup bars id)

-- ids go on rising

abbrev pub ids : List Bar → List ℕ
ids bars = map (λ b. b.id) bars

abbrev pub AddedRises : Type 0
AddedRises = (bars : List Bar) (b : Bar) → lookup bars b.id ≡ None → Rising (ids bars) → Rising (ids (insert b bars))

abbrev pub TakenOutRises : Type 0
TakenOutRises = (bars : List Bar) (id : ℕ) → Rising (ids bars) → Rising (ids (without id bars))

-- ---- room: a bar within the rules is saved exactly when its id is free and the numbers allow it, whatever was saved and erased before

abbrev pub SavesExactly : Type 0
SavesExactly = (bars : List Bar) (id len : ℕ) (sounds steps velocities : List ℕ) → ListsWell len sounds steps velocities
    → ((after : List Bar) × (save bars id len sounds steps velocities ≡ Ok after))
    ↔ ((lookup bars id ≡ None) × (length bars < 256) × (hits_in_all bars + length sounds ≤ 8192))

-- 19 is answered exactly where all other tests pass and the numbers of bars and hits held do not allow the bar
abbrev pub FullExactly : Type 0
FullExactly = (bars : List Bar) (id len : ℕ) (sounds steps velocities : List ℕ)
    → (save bars id len sounds steps velocities ≡ Err pad_full)
    ↔ ((lookup bars id ≡ None) × ListsWell len sounds steps velocities
    × ((256 ≤ length bars) ⊎ (8192 < hits_in_all bars + length sounds)))

-- the room of an erased bar serves the next: one bar less, and its hits less
abbrev pub RoomGivenBack : Type 0
RoomGivenBack = (bars : List Bar) (id : ℕ) (b : Bar) → Rising (ids bars) → lookup bars id ≡ Some b
    → (suc (length (without id bars)) ≡ length bars) × (length b.hits + hits_in_all (without id bars) ≡ hits_in_all bars)

-- ---- of each hit what is written depends on sound and step only

abbrev pub HitsAlike : (hits others : List Hit) → Type 0
HitsAlike [] [] = Unit {0}
HitsAlike [] (k ∷ ks) = ⊥
HitsAlike (h ∷ hs) [] = ⊥
HitsAlike (h ∷ hs) (k ∷ ks) = (h.sound ≡ k.sound) × (h.step ≡ k.step) × HitsAlike hs ks

-- two maps that differ in velocities alone
abbrev pub BarsAlike : (bars others : List Bar) → Type 0
BarsAlike [] [] = Unit {0}
BarsAlike [] (c ∷ cs) = ⊥
BarsAlike (b ∷ bs) [] = ⊥
BarsAlike (b ∷ bs) (c ∷ cs) = (b.id ≡ c.id) × (b.len ≡ c.len) × HitsAlike b.hits c.hits × BarsAlike bs cs

-- they are written alike, refusals too
abbrev pub VelocityUnwritten : Type 0
VelocityUnwritten = (bars others : List Bar) → BarsAlike bars others → (text ends : List ℕ) (room : ℕ)
    → write_out bars text ends room ≡ write_out others text ends room
