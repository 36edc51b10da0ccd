-- Tables of counts: what they hold at most; and the counting pass a turn at a time.
-- Assumes nothing.
use Rattle.std.specs.Prelude.{Err, Ok}
use mathlib.Core.Path.{◌≡◌, refl, ap, subst}
use mathlib.Core.Bool.{Bool, true, false, cond}
use mathlib.Core.List.{List, [], ◌∷◌}
use Rattle.std.proofs.lemmas.Bool.Decides.{nat_tests}
use Prim.Native.Nat.{ℕ, max, zero, suc, ◌+◌, ◌-◌, ◌*◌, ◌/◌, ◌≤◌, ◌<◌}
use native.Mathlib.Nat.{div-lt_iff_lt-mul}
use native.Mathlib.Omega.{arith}
use lib.Dec.{eqb}
use lib.ListN.{get_or, set}
use Rattle.segment.specs.declared.refusal.Refusal.{Refusal}
use Rattle.segment.specs.Results.{Answer}
use Rattle.midi_read.specs.declared.track.Hit.{Hit}
use Rattle.midi_read.specs.Files.{Grid, step_of, bar_of, first_event}
use Rattle.midi_read.specs.Walks.{walk}
use Rattle.midi_bars.specs.Bars.{greater}
use Rattle.midi_count.specs.Tallies.{Tallies, fresh, opens, raised, tally}
use Rattle.midi_count.specs.Promise.{zeros, Low, tallies, bars_answer, TablesLeft, Counts, Noted}

pub set_low : (l : List ℕ) (i v j m : ℕ) → get_or l j 0 ≤ m → v ≤ m → get_or (set l i v) j 0 ≤ m
set_low [] i v j m h k = h
set_low (x ∷ l) zero v zero m h k = k
set_low (x ∷ l) zero v (suc j) m h k = h
set_low (x ∷ l) (suc i) v zero m h k = h
set_low (x ∷ l) (suc i) v (suc j) m h k = set_low l i v j m h k

pub fresh_le : (last step : ℕ) → fresh last step ≤ 1
fresh_le last step = go (eqb last (step + 1))
  where
    go : (b : Bool) → cond b 0 1 ≤ 1
    go true = omega arith
    go false = omega arith

pub opens_le : (last step steps : ℕ) → opens last step steps ≤ 1
opens_le last step steps = go (eqb last 0) (eqb ((last - 1) / steps) (step / steps))
  where
    go : (a b : Bool) → cond a 1 (cond b 0 1) ≤ 1
    go true b = omega arith
    go false true = omega arith
    go false false = omega arith

pub raised_low : (l : List ℕ) (i by m n : ℕ) → Low m l → by ≤ 1 → m + 1 ≤ n → Low n (raised l i by)
raised_low l i by m n h k up =
    record { holds = λ j. set_low l i (get_or l i 0 + by) j n (omega (arith, h.holds j)) (omega (arith, h.holds i)) }

pub up_to : {l : List ℕ} {m : ℕ} (n : ℕ) → Low m l → m ≤ n → Low n l
up_to n h k = record { holds = λ i. omega (arith, h.holds i) }

-- a hit noted: the tables hold one more at most, and are those that the definition makes
module _ {note step steps : ℕ} {l p q l' p' q' : List ℕ} (w : Noted note step steps l p q l' p' q') {m : ℕ} (n : ℕ) (up : m + 1 ≤ n) where
  pub postings_low : Low m p → Low n p'
  postings_low h = rw w.postings_left (raised_low p note _ m n h (opens_le (get_or l note 0) step steps) up)

  pub positions_low : Low m q → Low n q'
  positions_low h = rw w.positions_left (raised_low q note _ m n h (fresh_le (get_or l note 0) step) up)

pub noted_state : (g : Grid) (h : Hit) (b : ℕ) {b' : ℕ} {l p q l' p' q' : List ℕ} → Noted h.note (step_of g h) g.steps l p q l' p' q'
    → b' ≡ greater b (bar_of g h + 1) → tallies b' l' p' q' ≡ tally g (tallies b l p q) h
noted_state g h b w e = rw (w.last_left, w.postings_left, w.positions_left, e)

pub max_greater : (a b : ℕ) → max a b ≡ greater a b
max_greater a b = grind (arith, nat_tests)

-- a step of a bar that is near
pub near_step : (x steps : ℕ) → 1 ≤ steps → steps ≤ 64 → x / steps ≤ 65535 → x ≤ 4194304
near_step x steps h k l =
    let below : x < 65536 * steps = (div-lt_iff_lt-mul {k = steps} {x = x} {y = 65536} h).0 (omega arith) in
    omega arith

-- ---- the ways out

module _ (g : Grid) (file last postings positions : List ℕ) where
  pub stops : {x : Refusal} (l p q : List ℕ) → Err x ≡ walk (tally g) g file first_event (tallies 0 last postings positions)
      → Counts g file last postings positions (Err x) l p q
  stops l p q e = record { reply = ap bars_answer e; left = subst (λ (w : Answer Tallies). TablesLeft w l p q) e tt }

  pub finishes : (b : ℕ) (l p q : List ℕ) → Ok (tallies b l p q) ≡ walk (tally g) g file first_event (tallies 0 last postings positions)
      → Counts g file last postings positions (Ok b) l p q
  finishes b l p q e = record { reply = ap bars_answer e; left = subst (λ (w : Answer Tallies). TablesLeft w l p q) e (refl, refl, refl) }

-- ---- empty tables

pub zeros_at : (n i : ℕ) → get_or (zeros n) i 0 ≡ 0
zeros_at zero i = refl
zeros_at (suc n) zero = refl
zeros_at (suc n) (suc i) = zeros_at n i

pub zeros_low : (n : ℕ) → Low 0 (zeros n)
zeros_low n = record { holds = λ i. omega (arith, zeros_at n i) }
