-- The starts that every name takes, counted: so many are found, and the leap goes on from a floor above the last.
-- Assumes nothing.
use Prim.Native.Nat.{ℕ, ◌+◌, ◌≤◌, ◌<◌}
use mathlib.Core.Path.{◌≡◌, ap, subst}
use mathlib.Core.List.{List}
use mathlib.Core.Logic.{◌↔◌}
use native.Mathlib.Omega.{arith}
use native.Mathlib.Nat.{add-zero}
use lib.ListN.{length}
use Rattle.common.specs.Elements.{◌∈◌, Rising}
use Rattle.read_cursors.specs.declared.positions.Positions.{Positions}
use Rattle.read_cursors.specs.Steps.{positions_from}
use Rattle.read_cursors.proofs.Rising.{from_few}
use Rattle.ask_match.specs.Steps.{Fits, FoundSoOften, stands}
use Rattle.ask_match.proofs.Members.{from_rising}
use Rattle.ask_match.proofs.Leap.{Leap, Same, leap_ok, leap_over}
use Rattle.common.proofs.ToCome.{to_come, come_all, come_none, come_next, part_fewer}

-- what a name takes from a floor on
abbrev From : ℕ → (ℕ → ℕ → Type 0) → ℕ → ℕ → Type 0
From floor init j s = (floor ≤ s) × init j s

-- the list of all starts
pub record Lists (n : ℕ) (init : ℕ → ℕ → Type 0) (xs : List ℕ) : Type 0 where
  pub rising : Rising xs
  pub just : (s : ℕ) → (s ∈ xs) ↔ Fits n init s

-- the starts below the floor are counted, and from it on the leap goes as for the first
pub record Counting (n : ℕ) (init cur : ℕ → ℕ → Type 0) (count start i : ℕ) : Type 0 where
  pub floor : ℕ
  pub low : floor ≤ start
  pub leap : Leap n (From floor init) cur start i
  pub tally : (xs : List ℕ) → Lists n init xs → count + length (to_come xs floor) ≡ length xs

pub count_start : {n : ℕ} {init : ℕ → ℕ → Type 0} → Counting n init init 0 0 0
count_start = record {
  floor = 0;
  low = omega arith;
  leap = record {
    keeps = λ j s h m. m.1;
    gains = λ j s h m. (h, m);
    least = λ s f. omega arith;
    done = λ j h. absurd (omega arith);
  };
  tally = λ xs l. omega (arith, ap length (come_all xs));
}

module _ {n : ℕ} {init cur : ℕ → ℕ → Type 0} {count start i : ℕ} (c : Counting n init cur count start i) where
  module _ {next : ℕ → ℕ → Type 0} (same : Same start cur next) where
    pub count_ok : next i start → Counting n init next count start (i + 1)
    count_ok t = record { floor = c.floor; low = c.low; leap = leap_ok c.leap same t; tally = c.tally }

    pub count_over : {more : ℕ} → i < n → start ≤ more → ((s : ℕ) → start ≤ s → next i s → more ≤ s) → Counting n init next count more 0
    count_over h up over = record {
      floor = c.floor;
      low = omega (arith, c.low);
      leap = leap_over c.leap same h up over;
      tally = c.tally;
    }

  -- every name takes the start
  pub count_hit : 0 < n → n ≤ i → Counting n init cur (count + 1) (start + 1) 0
  count_hit some h =
      let fits : Fits n init start = λ j k. (c.leap.gains j start (omega arith) (c.leap.done j (omega arith))).1 in
      record {
        floor = start + 1;
        low = omega arith;
        leap = record {
          keeps = λ j s k m. c.leap.keeps j s (omega arith) (omega (arith, c.low), m.1);
          gains = λ j s k m. (k, (c.leap.gains j s (omega arith) m).1);
          least = λ s f. (f 0 some).0;
          done = λ j k. absurd (omega arith);
        };
        tally = λ xs l.
            omega (
              arith,
              c.tally xs l,
              ap length (come_next xs l.rising c.floor start c.low ((l.just start).1 fits)
                  (λ d m k. c.leap.least d (λ j g. (k, (l.just d).0 m j g)))),
            );
      }

  -- a name takes no more
  pub count_end : i < n → ((s : ℕ) → start ≤ s → cur i s → ⊥) → FoundSoOften n init count
  count_end h none = record {
    number = λ xs up just.
        let l : Lists n init xs = record { rising = up; just = just } in
        omega (
          arith,
          c.tally xs l,
          ap length (come_none xs c.floor (λ d m k.
              let g = c.leap.least d (λ j q. (k, (just d).0 m j q)) in
              none d g (c.leap.keeps i d g (k, (just d).0 m i h)))),
        );
  }

-- as many are counted as the first name has positions
module _ (bytes : List ℕ) (cs : ℕ → Positions) {cur : ℕ → ℕ → Type 0} {n count start i : ℕ}
    (c : Counting n (stands bytes cs) cur count start i) where
  pub count_full : 0 < n → (cs 0).remaining ≤ count → FoundSoOften n (stands bytes cs) count
  count_full some full = record {
    number = λ xs up just.
        let first = cs 0 in
        omega (
          arith,
          c.tally xs (record { rising = up; just = just }),
          from_few bytes first.remaining first.at first.pos.0,
          part_fewer xs (positions_from bytes first) up (from_rising bytes first)
              (λ d m. subst (λ (x : ℕ). x ∈ positions_from bytes first) (add-zero d) ((just d).0 m 0 some)),
        );
  }
