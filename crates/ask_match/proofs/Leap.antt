-- A leap to the least start that every name takes. `init j s`: name j takes the start s. `cur` is what the cursors still show of it.
-- Assumes nothing.
use Prim.Native.Nat.{ℕ, ◌+◌, ◌≤◌, ◌<◌}
use mathlib.Core.Path.{◌≡◌, sym}
use mathlib.Core.Bool.{Bool, true, false}
use native.Mathlib.Omega.{arith}
use borrow.Author.Count.{below_more}
use Rattle.common.proofs.Loops.{true_false}
use Rattle.ask_match.specs.Steps.{Fits, Found}

-- no start below this one fits; from it on the cursors show all; the names before i take it
pub record Leap (n : ℕ) (init cur : ℕ → ℕ → Type 0) (start i : ℕ) : Type 0 where
  pub keeps : (j s : ℕ) → start ≤ s → init j s → cur j s
  pub gains : (j s : ℕ) → start ≤ s → cur j s → init j s
  pub least : (s : ℕ) → Fits n init s → start ≤ s
  pub done : (j : ℕ) → j < i → cur j start

-- two views that show the same from start on
pub record Same (start : ℕ) (cur next : ℕ → ℕ → Type 0) : Type 0 where
  pub on : (j s : ℕ) → start ≤ s → cur j s → next j s
  pub back : (j s : ℕ) → start ≤ s → next j s → cur j s

pub leap_start : {n : ℕ} {init : ℕ → ℕ → Type 0} → Leap n init init 0 0
leap_start = record { keeps = λ j s h m. m; gains = λ j s h m. m; least = λ s f. omega arith; done = λ j h. absurd (omega arith) }

module _ {n : ℕ} {init cur : ℕ → ℕ → Type 0} {start i : ℕ} (l : Leap n init cur start i) where
  leap_end : n ≤ i → Fits n init start
  leap_end h = λ j k. l.gains j start (omega arith) (l.done j (omega arith))

  pub found_some : n ≤ i → Found n init true
  found_some h = record { yes = λ e. (start, leap_end h); no = λ e. true_false e }

  pub found_none : i < n → ((s : ℕ) → start ≤ s → cur i s → ⊥) → Found n init false
  found_none h none = record {
    yes = λ e. true_false (sym e);
    no = λ e s f. let g = l.least s f in none s g (l.keeps i s g (f i h));
  }

  module _ {next : ℕ → ℕ → Type 0} (same : Same start cur next) where
    pub leap_ok : next i start → Leap n init next start (i + 1)
    leap_ok t = record {
      keeps = λ j s h m. same.on j s h (l.keeps j s h m);
      gains = λ j s h m. l.gains j s h (same.back j s h m);
      least = l.least;
      done = below_more (λ j. next j start) i (λ j h. same.on j start (omega arith) (l.done j h)) t;
    }

    pub leap_over : {more : ℕ} → i < n → start ≤ more → ((s : ℕ) → start ≤ s → next i s → more ≤ s) → Leap n init next more 0
    leap_over {more} h up over = record {
      keeps = λ j s k m. let g : start ≤ s = omega arith in same.on j s g (l.keeps j s g m);
      gains = λ j s k m. let g : start ≤ s = omega arith in l.gains j s g (same.back j s g m);
      least = λ s f. let g = l.least s f in over s g (same.on i s g (l.keeps i s g (f i h)));
      done = λ j k. absurd (omega arith);
    }

-- only what the n names take counts
pub found_alike : {n : ℕ} {takes others : ℕ → ℕ → Type 0} {r : Bool} → ((j : ℕ) → j < n → (s : ℕ) → takes j s ≡ others j s)
    → Found n takes r → Found n others r
found_alike same f = record {
  yes = λ e. let y = f.yes e in (y.0, λ j h. rw (← same j h y.0) (y.1 j h));
  no = λ e s fits. f.no e s (λ j h. rw (same j h s) (fits j h));
}
