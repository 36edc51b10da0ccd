-- The names taken, after each name: their shape, and how many names and whether an absent one were taken.
-- Assumes nothing.
use Rattle.std.specs.Prelude.{None, Option, Some}
use mathlib.Core.Path.{◌≡◌, refl, sym, ap, ◌∙◌}
use mathlib.Core.Bool.{Bool, true, false}
use mathlib.Core.List.{List, [], ◌∷◌, ◌++◌}
use mathlib.Core.Logic.{◌⊎◌, inl, inr, ⊎_elim, ◌↔◌}
use Prim.Native.Nat.{ℕ, zero, suc, ◌+◌, ◌≤◌, ◌<◌}
use native.Mathlib.Omega.{arith}
use lib.Dec.{eqb}
use lib.ListN.{length, get_or, set, replicate, length-set, length-replicate}
use Rattle.common.proofs.Loops.{true_false}
use Rattle.read_terms.specs.declared.find.TermList.{TermList}
use Rattle.ask_names.specs.Steps.{no_list, no_slots, slot_for, counted_in, with_found, resolved, Founds, none_left, one_more, Room}
use Rattle.common.specs.Elements.{◌∈◌}
use Rattle.ask_names.specs.declared.slots.Names.{Names}
use Rattle.ask_names.proofs.SlotTurns.{slot_range}

-- ---- one name more

-- the number of a list's term
abbrev pub slot_in : Names → TermList → ℕ
slot_in s l = slot_for s.different s.list l.entry

pub slot_inside : (s : Names) → Room s → (l : TermList) → slot_in s l < 128
slot_inside s room l = omega (arith, slot_range s.different 0 s.list l.entry)

module _ (s : Names) where
  pub with_places : (f : Option TermList) → (with_found s f).taken ≡ s.taken + 1
  with_places (Some l) = step (eqb (slot_in s l) s.different)
    where
      step : (t : Bool) → (counted_in t s (slot_in s l) l).taken ≡ s.taken + 1
      step true = refl
      step false = refl
  with_places None = refl

  with_list_absent : (l : TermList) → (with_found s (Some l)).absent ≡ s.absent
  with_list_absent l = step (eqb (slot_in s l) s.different)
    where
      step : (t : Bool) → (counted_in t s (slot_in s l) l).absent ≡ s.absent
      step true = refl
      step false = refl

  absent_stays : (f : Option TermList) → s.absent ≡ true → (with_found s f).absent ≡ true
  absent_stays (Some l) e = with_list_absent l ∙ e
  absent_stays None e = refl

-- ---- the shape

-- what there is room by, also once there is none left
pub record SlotsSound (s : Names) : Type 0 where
  pub few : s.different ≤ s.taken
  pub counts : (k : ℕ) → get_or s.wanted k 0 ≤ s.taken
  pub slot_long : length s.slot ≡ 128
  pub list_long : length s.list ≡ 128
  pub wanted_long : length s.wanted ≡ 128

pub sound_room : {s : Names} → SlotsSound s → s.taken < 128 → Room s
sound_room w h = record {
  place = h;
  few = w.few;
  counts = w.counts;
}

pub zeros : (n k : ℕ) → ◌≡◌ {A = ℕ} (get_or (replicate n 0) k 0) 0
zeros zero k = refl
zeros (suc n) zero = refl
zeros (suc n) (suc k) = zeros n k

pub sound_none : SlotsSound no_slots
sound_none = record {
  few = omega arith;
  counts = λ k. omega (arith, zeros 128 k);
  slot_long = length-replicate {A = ℕ} 128 0;
  list_long = length-replicate 128 no_list;
  wanted_long = length-replicate {A = ℕ} 128 0;
}

-- one count goes up
counted_up : (xs : List ℕ) (k b : ℕ) → ((j : ℕ) → get_or xs j 0 ≤ b) → (j : ℕ) → get_or (set xs k (get_or xs k 0 + 1)) j 0 ≤ b + 1
counted_up [] k b h j = omega arith
counted_up (x ∷ xs) zero b h zero = omega (arith, h 0)
counted_up (x ∷ xs) zero b h (suc j) = omega (arith, h (suc j))
counted_up (x ∷ xs) (suc k) b h zero = omega (arith, h 0)
counted_up (x ∷ xs) (suc k) b h (suc j) = counted_up xs k b (λ i. h (suc i)) j

pub placed_sound : (s : Names) → SlotsSound s → (t : Bool) (k : ℕ) (l : TermList) → SlotsSound (counted_in t s k l)
placed_sound s w true k l = record {
  few = omega arith;
  counts = counted_up s.wanted k s.taken w.counts;
  slot_long = simp length-set w.slot_long;
  list_long = simp length-set w.list_long;
  wanted_long = simp length-set w.wanted_long;
}
placed_sound s w false k l = record {
  few = omega arith;
  counts = counted_up s.wanted k s.taken w.counts;
  slot_long = simp length-set w.slot_long;
  list_long = w.list_long;
  wanted_long = simp length-set w.wanted_long;
}

pub sound_with : (s : Names) → SlotsSound s → (f : Option TermList) → SlotsSound (with_found s f)
sound_with s w (Some l) = placed_sound s w (eqb (slot_in s l) s.different) (slot_in s l) l
sound_with s w None = record {
  few = omega arith;
  counts = λ k. omega (arith, w.counts k);
  slot_long = w.slot_long;
  list_long = w.list_long;
  wanted_long = w.wanted_long;
}

-- ---- names one after the other

pub resolved_sound : (s : Names) → SlotsSound s → (fs : List (Option TermList)) → SlotsSound (resolved s fs)
unfolding resolved
resolved_sound s w [] = w
resolved_sound s w (f ∷ fs) = resolved_sound (with_found s f) (sound_with s w f) fs

pub resolved_places : (s : Names) (fs : List (Option TermList)) → (resolved s fs).taken ≡ s.taken + length fs
unfolding resolved
resolved_places s [] = omega arith
resolved_places s (f ∷ fs) = omega (arith, resolved_places (with_found s f) fs, with_places s f)

absent_gives : (s : Names) (fs : List (Option TermList)) → (resolved s fs).absent ≡ true → (s.absent ≡ true) ⊎ (None ∈ fs)
unfolding resolved
absent_gives s [] e = inl e
absent_gives s (Some l ∷ fs) e =
    ⊎_elim (λ (a : (with_found s (Some l)).absent ≡ true). inl (sym (with_list_absent s l) ∙ a)) (λ m. inr (inr m))
    (absent_gives (with_found s (Some l)) fs e)
absent_gives s (None ∷ fs) e = inr (inl refl)

absent_from : (s : Names) (fs : List (Option TermList)) → (s.absent ≡ true) ⊎ (None ∈ fs) → (resolved s fs).absent ≡ true
unfolding resolved
absent_from s [] (inl e) = e
absent_from s [] (inr m) = absurd m
absent_from s (f ∷ fs) (inl e) = absent_from (with_found s f) fs (inl (absent_stays s f e))
absent_from s (f ∷ fs) (inr (inl q)) = absent_from (with_found s f) fs (inl (rw (← q)))
absent_from s (f ∷ fs) (inr (inr m)) = absent_from (with_found s f) fs (inr m)

pub resolved_absent : (fs : List (Option TermList)) → ((resolved no_slots fs).absent ≡ true) ↔ (None ∈ fs)
resolved_absent fs =
    (λ e. ⊎_elim (λ (z : false ≡ true). true_false (sym z)) (λ m. m) (absent_gives no_slots fs e), λ m. absent_from no_slots fs (inr m))

pub resolved_room : (fs : List (Option TermList)) → length fs < 128 → Room (resolved no_slots fs)
resolved_room fs h = sound_room (resolved_sound no_slots sound_none fs) (omega (arith, resolved_places no_slots fs))

-- one more at the end
pub resolved_more : (s : Names) (fs : List (Option TermList)) (f : Option TermList)
    → resolved s (fs ++ (f ∷ [])) ≡ with_found (resolved s fs) f
unfolding resolved
resolved_more s [] f = refl
resolved_more s (g ∷ fs) f = resolved_more (with_found s g) fs f

module _ {R : List ℕ → Option TermList → Type 0} where
  pub founds_more : {ns : List (List ℕ)} {fs : List (Option TermList)} {n : List ℕ} {f : Option TermList} → Founds R ns fs → R n f
      → Founds R (ns ++ (n ∷ [])) (fs ++ (f ∷ []))
  founds_more none_left r = one_more r none_left
  founds_more (one_more q w) r = one_more q (founds_more w r)

  pub founds_length : {ns : List (List ℕ)} {fs : List (Option TermList)} → Founds R ns fs → length fs ≡ length ns
  founds_length none_left = refl
  founds_length (one_more q w) = ap suc (founds_length w)
