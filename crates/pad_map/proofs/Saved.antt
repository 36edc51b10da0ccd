-- Saving: its tests of the lists are the rules for hits; a bar within the rules is saved exactly where its id is free and there is room.
-- Assumes nothing.
use Rattle.std.specs.Prelude.{None, Ok, Option, Some}
use mathlib.Core.Path.{◌≡◌, refl, sym, ◌∙◌}
use mathlib.Core.Bool.{Bool, true, not, ◌&&◌}
use mathlib.Core.List.{List, [], ◌∷◌}
use Prim.Native.Nat.{ℕ, ◌+◌, ◌≤◌, ◌<◌}
use native.Mathlib.Omega.{arith}
use lib.Dec.{ltb, leb, eqb}
use lib.ListN.{length}
use borrow.Author.Tests.{ltb-true, leb-true, eqb-true, lt-ltb, le-leb, eq-eqb}
use Rattle.common.proofs.Loops.{true_false, and_left, and_right}
use Rattle.common.specs.Lists.{paired}
use Rattle.common.proofs.Pairs.{paired_count}
use Rattle.segment.proofs.Binds.{bind_gives, ok_same}
use Rattle.segment.proofs.Accepted.{check_gives}
use Rattle.segment.proofs.Inversions.{last_gives}
use Rattle.pad_map.specs.declared.Key.{Key}
use Rattle.pad_map.specs.Bars.{Bar, hit, key, with_velocity, bar, hits_in, lookup, insert, hits_in_all}
use Rattle.pad_map.specs.Rules.{comes_after, velocity_fits, hit_fine, hits_fine, all_up_to, all_audible, hits_rise, all_below, check_hits}
use Rattle.pad_map.specs.Acts.{is_some, save}
use Rattle.pad_map.specs.Claims.{SideBySide, ListsWell, CheckExactly, SavesExactly}
use Rattle.pad_map.proofs.Ordered.{fine_exactly}

-- ---- each test over all hits, or hit by hit

record Passes (len : ℕ) (previous : Option Key) (ss ts vs : List ℕ) : Type 0 where
  pub sounds : all_up_to 127 ss ≡ true
  pub velocities : all_audible vs ≡ true
  pub rising : hits_rise previous ss ts ≡ true
  pub steps : all_below len ts ≡ true

lists_fine : (len : ℕ) (previous : Option Key) (ss ts vs : List ℕ) → Passes len previous ss ts vs
    → hits_fine len previous (hits_in ss ts vs) ≡ true
unfolding hits_fine hit_fine all_up_to all_audible hits_rise all_below
lists_fine len previous [] ts vs p = refl
lists_fine len previous (s ∷ ss) [] vs p = refl
lists_fine len previous (s ∷ ss) (t ∷ ts) [] p = refl
lists_fine len previous (s ∷ ss) (t ∷ ts) (v ∷ vs) p =
    let low = and_left (leb s 127) (all_up_to 127 ss) p.sounds in
    let audible = and_left (velocity_fits v) (all_audible vs) p.velocities in
    let after = and_left (comes_after previous (key s t)) (hits_rise (Some (key s t)) ss ts) p.rising in
    let below = and_left (ltb t len) (all_below len ts) p.steps in
    rw (low, audible, after, below)
    (lists_fine len (Some (key s t)) ss ts vs
    (record {
      sounds = and_right (leb s 127) (all_up_to 127 ss) p.sounds;
      velocities = and_right (velocity_fits v) (all_audible vs) p.velocities;
      rising = and_right (comes_after previous (key s t)) (hits_rise (Some (key s t)) ss ts) p.rising;
      steps = and_right (ltb t len) (all_below len ts) p.steps;
    }))

fine_lists : (len : ℕ) (previous : Option Key) (ss ts vs : List ℕ) → length ss ≡ length ts → length ss ≡ length vs
    → hits_fine len previous (hits_in ss ts vs) ≡ true
    → Passes len previous ss ts vs
unfolding hits_fine hit_fine all_up_to all_audible hits_rise all_below
fine_lists len previous [] [] [] l m e = record { sounds = refl; velocities = refl; rising = refl; steps = refl }
fine_lists len previous [] [] (v ∷ vs) l m e = absurd (omega arith)
fine_lists len previous [] (t ∷ ts) vs l m e = absurd (omega arith)
fine_lists len previous (s ∷ ss) [] vs l m e = absurd (omega arith)
fine_lists len previous (s ∷ ss) (t ∷ ts) [] l m e = absurd (omega arith)
fine_lists len previous (s ∷ ss) (t ∷ ts) (v ∷ vs) l m e =
    let k = key s t in
    let others = hits_fine len (Some k) (hits_in ss ts vs) in
    let here = and_left (hit_fine len previous (hit s t v)) others e in
    let later = fine_lists len (Some k) ss ts vs (omega arith) (omega arith) (and_right (hit_fine len previous (hit s t v)) others e) in
    let low = and_left (leb s 127) (velocity_fits v && (comes_after previous k && ltb t len)) here in
    let rest = and_right (leb s 127) (velocity_fits v && (comes_after previous k && ltb t len)) here in
    let audible = and_left (velocity_fits v) (comes_after previous k && ltb t len) rest in
    let placed = and_right (velocity_fits v) (comes_after previous k && ltb t len) rest in
    let after = and_left (comes_after previous k) (ltb t len) placed in
    let below = and_right (comes_after previous k) (ltb t len) placed in
    record {
      sounds = rw low later.sounds;
      velocities = rw audible later.velocities;
      rising = rw after later.rising;
      steps = rw below later.steps;
    }

module _ (ss ts vs : List ℕ) where
  abbrev pub small_test : Bool
  small_test = leb (length ss) 16777216 && (leb (length ts) 16777216 && leb (length vs) 16777216)

  abbrev pub even_test : Bool
  even_test = eqb (length ss) (length ts) && eqb (length ss) (length vs)

  pub side_gives : small_test ≡ true → even_test ≡ true → SideBySide ss ts vs
  side_gives small even = record {
    small = leb-true (length ss) 16777216 (and_left (leb (length ss) 16777216) _ small);
    as_many_steps = eqb-true (length ss) (length ts) (and_left (eqb (length ss) (length ts)) (eqb (length ss) (length vs)) even);
    as_many_velocities = eqb-true (length ss) (length vs) (and_right (eqb (length ss) (length ts)) (eqb (length ss) (length vs)) even);
  }

  pub small_from : SideBySide ss ts vs → small_test ≡ true
  small_from w =
      let s = w.small in
      let t = w.as_many_steps in
      let v = w.as_many_velocities in
      rw (
        le-leb (length ss) 16777216 s,
        le-leb (length ts) 16777216 (omega arith),
        le-leb (length vs) 16777216 (omega arith),
      )

  -- as many hits as sounds
  pub hits_count : SideBySide ss ts vs → length (hits_in ss ts vs) ≡ length ss
  hits_count w =
      let keys = paired_count key ss ts w.as_many_steps in
      paired_count with_velocity (paired key ss ts) vs (keys ∙ w.as_many_velocities) ∙ keys

  pub even_from : SideBySide ss ts vs → even_test ≡ true
  even_from w = rw (eq-eqb (length ss) (length ts) w.as_many_steps, eq-eqb (length ss) (length vs) w.as_many_velocities)

module _ (len : ℕ) (ss ts vs : List ℕ) where
  checked_gives : check_hits len ss ts vs ≡ Ok tt → ListsWell len ss ts vs
  unfolding check_hits
  checked_gives e =
      let (small, a) = check_gives (small_test ss ts vs) _ _ e in
      let (even, b) = check_gives (even_test ss ts vs) _ _ a in
      let (low, c) = check_gives (all_up_to 127 ss) _ _ b in
      let (audible, d) = check_gives (all_audible vs) _ _ c in
      let (rise, f) = check_gives (hits_rise None ss ts) _ _ d in
      record {
        side_by_side = side_gives ss ts vs small even;
        fine =
            (fine_exactly len (hits_in ss ts vs)).0
            (lists_fine len None ss ts vs
            (record { sounds = low; velocities = audible; rising = rise; steps = last_gives (all_below len ts) _ f }));
      }

  checked_from : ListsWell len ss ts vs → check_hits len ss ts vs ≡ Ok tt
  unfolding check_hits
  checked_from w =
      let l = w.side_by_side in
      let p = fine_lists len None ss ts vs l.as_many_steps l.as_many_velocities ((fine_exactly len (hits_in ss ts vs)).1 w.fine) in
      rw (small_from ss ts vs l, even_from ss ts vs l, p.sounds, p.velocities, p.rising, p.steps)

pub check_exactly : CheckExactly
check_exactly len ss ts vs = (checked_gives len ss ts vs, checked_from len ss ts vs)

-- ---- saving

pub absent : (o : Option Bar) → not (is_some o) ≡ true → o ≡ None
absent None e = refl
absent (Some b) e = true_false (sym e)

-- what a save that was accepted says
pub record Accepted (bars : List Bar) (id len : ℕ) (ss ts vs : List ℕ) (after : List Bar) : Type 0 where
  pub free : lookup bars id ≡ None
  pub lists : ListsWell len ss ts vs
  pub few_bars : length bars < 256
  pub few_hits : hits_in_all bars + length ss ≤ 8192
  pub is : after ≡ insert (bar id len (hits_in ss ts vs)) bars

module _ (bars : List Bar) (id len : ℕ) (ss ts vs : List ℕ) where
  pub save_gives : (after : List Bar) → save bars id len ss ts vs ≡ Ok after → Accepted bars id len ss ts vs after
  unfolding save
  save_gives after e =
      let (none_held, a) = check_gives (not (is_some (lookup bars id))) _ _ e in
      let (u, passed, b) = bind_gives (check_hits len ss ts vs) _ a in
      let (room, c) = check_gives (ltb (length bars) 256 && leb (hits_in_all bars + length ss) 8192) _ _ b in
      record {
        free = absent (lookup bars id) none_held;
        lists = checked_gives len ss ts vs passed;
        few_bars = ltb-true (length bars) 256 (and_left (ltb (length bars) 256) _ room);
        few_hits = leb-true (hits_in_all bars + length ss) 8192 (and_right (ltb (length bars) 256) _ room);
        is = sym (ok_same c);
      }

  save_from : ListsWell len ss ts vs → lookup bars id ≡ None → length bars < 256 → hits_in_all bars + length ss ≤ 8192
      → save bars id len ss ts vs ≡ Ok (insert (bar id len (hits_in ss ts vs)) bars)
  unfolding save
  save_from w f m h =
      rw (f, checked_from len ss ts vs w, lt-ltb (length bars) 256 m, le-leb (hits_in_all bars + length ss) 8192 h)

pub saves_exactly : SavesExactly
saves_exactly bars id len ss ts vs w = (
  λ (after, e). let a = save_gives bars id len ss ts vs after e in (a.free, a.few_bars, a.few_hits),
  λ (f, m, h). (insert (bar id len (hits_in ss ts vs)) bars, save_from bars id len ss ts vs w f m h),
)
