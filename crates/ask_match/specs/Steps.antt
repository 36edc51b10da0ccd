-- The rules over cursors: `cs j` is the cursor of the name with index j (or of the different name with index j).
use Rattle.std.specs.Prelude.{ℕ, ◌+◌, ◌^◌, ◌≤◌, ◌<◌, ◌≡◌, Bool, true, false, List, ◌↔◌, length, get_or}
use Rattle.read_cursors.specs.declared.positions.Positions.{Positions}
use Rattle.common.specs.Elements.{◌∈◌, Rising}
use Rattle.read_cursors.specs.Held.{seek_in}
use Rattle.read_cursors.specs.Steps.{positions_from, SoughtPosition}
use Rattle.rules.specs.Words.{within}
use Rattle.ask_match.specs.declared.pass.Moved.{Moved}

-- the cursors of a table, by index; past its end there are none
abbrev pub positions_in : (cursors : List Positions) → ℕ → Positions
positions_in cursors k = get_or cursors k (record { at = 0; remaining = 0; pos = record { 0 = 0 } })

-- the positions of the cursor with index j
abbrev pub at_place : (bytes : List ℕ) (cs : ℕ → Positions) (j : ℕ) → List ℕ
at_place bytes cs j = positions_from bytes (cs j)

pub record Passed (bytes : List ℕ) (target : ℕ) (c : Positions) (r : Moved) : Type 0 where
  pub holds : positions_from bytes r.to ≡ seek_in (λ (p : ℕ). p) target (positions_from bytes c)
  pub reached : 0 < r.to.remaining → target ≤ r.to.pos.0
  pub count : r.passed + length (positions_from bytes r.to) ≡ length (positions_from bytes c)
  pub few : length (positions_from bytes c) < 2 ^ 32

-- ---- one cursor of a table changed

pub record Changed {A : Type 0} (i : ℕ) (c : A) (old new : ℕ → A) : Type 0 where
  pub here : new i ≡ c
  pub other : (j : ℕ) → (j ≡ i → ⊥) → new j ≡ old j

pub record SoughtIn (bytes : List ℕ) (target i : ℕ) (old new : ℕ → Positions) (r : Positions) : Type 0 where
  pub sought : SoughtPosition bytes target (old i) r
  pub stored : Changed i r old new

pub record PassedIn (bytes : List ℕ) (target i : ℕ) (old new : ℕ → Positions) (r : Moved) : Type 0 where
  pub passed : Passed bytes target (old i) r
  pub stored : Changed i r.to old new

-- three tables that have at least n elements
pub record WindowsFit (n : ℕ) (cursors first : List Positions) (seen : List ℕ) : Type 0 where
  pub right : n ≤ length cursors
  pub left : n ≤ length first
  pub in_seen : n ≤ length seen

-- the first n cursors copied, and as many counts zero
pub record WindowsOpen (n : ℕ) (old new : ℕ → Positions) (seen : List ℕ) : Type 0 where
  pub copied : (j : ℕ) → j < n → new j ≡ old j
  pub none_seen : (j : ℕ) → j < n → get_or seen j 0 ≡ 0

-- ---- some start that every name takes

abbrev pub Fits : (n : ℕ) → (takes : ℕ → ℕ → Type 0) → (start : ℕ) → Type 0
Fits n takes start = (j : ℕ) → j < n → takes j start

pub record Found (n : ℕ) (takes : ℕ → ℕ → Type 0) (r : Bool) : Type 0 where
  pub yes : r ≡ true → (start : ℕ) × Fits n takes start
  pub no : r ≡ false → (start : ℕ) → Fits n takes start → ⊥

-- the number of starts that every name takes: of a list that has just these, each once, it is the length (there is one where n is above 0)
pub record FoundSoOften (n : ℕ) (takes : ℕ → ℕ → Type 0) (r : ℕ) : Type 0 where
  pub number : (xs : List ℕ) → Rising xs → ((start : ℕ) → (start ∈ xs) ↔ Fits n takes start) → r ≡ length xs

-- phrase: start + j is a position of name j
abbrev pub stands : (bytes : List ℕ) (cs : ℕ → Positions) → ℕ → ℕ → Type 0
stands bytes cs j start = (start + j) ∈ at_place bytes cs j

-- unordered: the window from start on holds name j as often as it is named
abbrev pub shows : (bytes : List ℕ) (window : ℕ) (wanted : List ℕ) (cs : ℕ → Positions) → ℕ → ℕ → Type 0
shows bytes window wanted cs j start = get_or wanted j 0 ≤ within start window (at_place bytes cs j)

-- ---- a chain

abbrev pub among : (bytes : List ℕ) (cs : ℕ → Positions) → ℕ → ℕ → Type 0
among bytes cs j p = p ∈ at_place bytes cs j

-- one position of each name, strictly rising, none more than the window above the first
pub record Chain (n window : ℕ) (has : ℕ → ℕ → Type 0) (p : ℕ → ℕ) : Type 0 where
  pub on : (j : ℕ) → j < n → has j (p j)
  pub up : (j : ℕ) → j + 1 < n → p j < p (j + 1)
  pub near : (j : ℕ) → j < n → p j ≤ p 0 + window

pub record Chained (n window : ℕ) (has : ℕ → ℕ → Type 0) (r : Bool) : Type 0 where
  pub yes : r ≡ true → (p : ℕ → ℕ) × Chain n window has p
  pub no : r ≡ false → (p : ℕ → ℕ) → Chain n window has p → ⊥

-- where a chain starts
pub record Begun (i start pos r : ℕ) : Type 0 where
  pub first : i ≡ 0 → r ≡ pos
  pub later : 0 < i → r ≡ start
