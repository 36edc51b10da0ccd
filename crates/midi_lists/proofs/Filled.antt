-- The loops that store the lists, a turn at a time.
-- Assumes nothing.
use mathlib.Core.Path.{◌≡◌, refl, ap, ◌∙◌}
use mathlib.Core.List.{List, [], ◌∷◌, ◌++◌, map, append-nil}
use Prim.Native.Nat.{ℕ, suc, ◌+◌, ◌-◌, ◌*◌, ◌/◌, ◌%◌, ◌≤◌, ◌<◌}
use native.Mathlib.Nat.{zero-add}
use native.Mathlib.Numerals.{add-one}
use native.Mathlib.Omega.{arith}
use lib.ListN.{length, drop, get_or, set}
use lib.Seq.{sets}
use Rattle.common.specs.Lists.{total}
use Rattle.common.specs.Stores.{Stored}
use Rattle.common.proofs.Loops.{drop_step, drop_end}
use Rattle.calls.proofs.Filling.{ToStore, front_start, part_room, part_next, next_stored, still_long, all_stored, at_front}
use Rattle.midi_bars.specs.Bars.{rising_from, name_of}
use Rattle.midi_bars.proofs.Ranges.{range_length}
use Rattle.midi_count.specs.Tallies.{starts_from}
use Rattle.midi_count.specs.Promise.{Low}
use Rattle.midi_lists.specs.Heads.{fours}
use Rattle.midi_lists.specs.Promise.{Begins}
use Rattle.midi_lists.proofs.Heard.{rising_step, rising_end, fours_length}

-- of values that are being stored into a buffer of their length: those that are left, and the length, which stays
pub record Filling (all entry left : List ℕ) (next : ℕ) (out : List ℕ) : Type 0 where
  pub long : length out ≡ length entry
  pub storing : ToStore all 0 entry left next out

pub filling_start : {all entry left : List ℕ} → left ≡ all → length all ≡ length entry → Filling all entry left 0 entry
filling_start e h = record { long = refl; storing = front_start e (omega arith) }

module _ {all entry left out : List ℕ} {next : ℕ} (f : Filling all entry left next out) where
  -- the next run of values
  module _ (part more : List ℕ) (e : left ≡ part ++ more) where
    pub filling_room : next + length part ≤ length out
    filling_room = part_room f.storing part more e

    pub filling_part : {out' : List ℕ} {next' : ℕ} → Stored part next out next' out' → Filling all entry more next' out'
    filling_part s = let t = part_next f.storing part more e s in record { long = still_long t; storing = t }

  -- the next value
  pub filling_next : {v : ℕ} {more : List ℕ} → left ≡ v ∷ more → Filling all entry more (next + 1) (set out next v)
  filling_next e = let t = next_stored f.storing e in record { long = still_long t; storing = t }

  -- none are to be stored in this turn
  pub filling_past : {more : List ℕ} → left ≡ more → Filling all entry more next out
  filling_past e = record { long = f.long; storing = rw e at f.storing }

  -- where two ways meet
  pub filling_met : {out' : List ℕ} {next' : ℕ} → out' ≡ out → next' ≡ next → Filling all entry left next' out'
  filling_met e h = rw (e, h) f

  -- none are left: the buffer holds them alone
  pub filling_end : left ≡ [] → length all ≡ length entry → out ≡ all
  filling_end e h =
      at_front (omega arith) (all_stored f.storing e) ∙ ap (λ (r : List ℕ). all ++ r) (drop_end entry (length all) (omega arith))
      ∙ append-nil all

-- ---- ids, ends: what is left behind i of n

none_yet : (n : ℕ) → n - 0 ≡ n
none_yet n = omega arith

pub ids_start : (l : List ℕ) → Filling (rising_from 0 (length l)) l (rising_from 0 (length l - 0)) 0 l
ids_start l = filling_start (ap (rising_from 0) (none_yet (length l))) (range_length 0 (length l))

abbrev pub fours_from : (n i : ℕ) → List ℕ
fours_from n i = map (λ k. 4 * k) (rising_from (i + 1) (n - i))

pub fours_start : (l : List ℕ) → Filling (fours (length l)) l (fours_from (length l) 0) 0 l
fours_start l = filling_start (ap (λ (k : ℕ). map (λ n. 4 * n) (rising_from 1 k)) (none_yet (length l))) (fours_length (length l))

pub fours_step : (n i : ℕ) → i < n → fours_from n i ≡ 4 * (i + 1) ∷ fours_from n (i + 1)
fours_step n i h = ap (map (λ k. 4 * k)) (rising_step (i + 1) n i h)

pub fours_end : (n i : ℕ) → n ≤ i → fours_from n i ≡ []
fours_end n i h = ap (map (λ k. 4 * k)) (rising_end (i + 1) n i h)

-- ---- running sums

starts_length : (at : ℕ) (l : List ℕ) → length (starts_from at l) ≡ length l
starts_length at [] = refl
starts_length at (c ∷ cs) = ap suc (starts_length (at + c) cs)

-- of a loop over a table: the sum so far and that of the rest are the whole, and the starts of the rest are left
pub record Summing (table entry : List ℕ) (at note : ℕ) (starts : List ℕ) : Type 0 where
  pub low : at ≤ 16777216 * note
  pub sum : at + total (drop note table) ≡ total table
  pub storing : Filling (starts_from 0 table) entry (starts_from at (drop note table)) note starts

pub summing_start : (table entry : List ℕ) → length table ≡ length entry → Summing table entry 0 0 entry
summing_start table entry h = record {
  low = omega arith;
  sum = zero-add (total table);
  storing = filling_start refl (starts_length 0 table ∙ h);
}

module _ {table entry starts : List ℕ} {at note : ℕ} (s : Summing table entry at note starts) where
  module _ (h : note < length table) where
    summing_left : starts_from at (drop note table) ≡ at ∷ starts_from (at + get_or table note 0) (drop (note + 1) table)
    summing_left = ap (starts_from at) (drop_step table note 0 h)

    pub summing_next : Low 16777216 table → Summing table entry (at + get_or table note 0) (note + 1) (set starts note at)
    summing_next low = record {
      low = omega (arith, s.low, low.holds note);
      sum = omega (arith, s.sum, ap total (drop_step table note 0 h));
      storing = filling_next s.storing summing_left;
    }

  pub summing_end : length table ≤ note → length table ≡ length entry → Begins table at starts
  summing_end h e =
      let none = drop_end table note h in
      record {
        all = omega (arith, s.sum, ap total none);
        starts = filling_end s.storing (ap (starts_from at) none) (starts_length 0 table ∙ e);
      }

-- ---- a name

pub name_stored : (l : List ℕ) (at note : ℕ)
    → set (set (set (set l at 110) (at + 1) (48 + note / 100)) (at + 2) (48 + note / 10 % 10)) (at + 3) (48 + note % 10)
    ≡ sets l at (name_of note)
name_stored l at note =
    let two : at + 2 ≡ suc (suc at) = omega arith in
    let three : at + 3 ≡ suc (suc (suc at)) = omega arith in
    rw (add-one at, two, three)
