-- Names resolved in an open segment, one after the other: what find_term answers tells names apart.
-- Assumes nothing.
use Rattle.std.specs.Prelude.{None, Option, Some}
use Rattle.read_terms.specs.declared.find.TermList.{TermList}
use mathlib.Core.Path.{◌≡◌, refl, sym, ap, ◌∙◌}
use mathlib.Core.Bool.{true}
use mathlib.Core.List.{List, [], ◌∷◌, ◌++◌, append-nil, append_assoc}
use mathlib.Core.Logic.{⊎_elim}
use Prim.Native.Nat.{ℕ, ◌≤◌, ◌<◌}
use native.Mathlib.Omega.{arith}
use lib.ListN.{length, length-append}
use Rattle.common.proofs.Loops.{true_false, lt_or_ge}
use Rattle.read_open.specs.declared.header.Layout.{Layout}
use Rattle.segment.specs.Names.{precedes}
use Rattle.read_open.specs.Steps.{Sorted, name_at}
use Rattle.segment.proofs.Strings.{precedes_irreflexive}
use Rattle.read_terms.specs.Steps.{TermIsFound}
use Rattle.read_open.specs.Opened.{OpenedAs}
use Rattle.ask_names.specs.declared.slots.Names.{Names}
use Rattle.ask_names.specs.Steps.{no_slots, with_found, resolved, none_left, Room, NamesResolved}
use Rattle.ask_names.proofs.SlotsHold.{resolved_room, resolved_more, founds_more, founds_length}
use Rattle.ask_names.proofs.SlotsNamed.{ToldApart, Holding, holding_all}

-- ---- one name after the other

module _ {bytes : List ℕ} {at : Layout} where
  pub names_none : {s : Names} → s ≡ no_slots → NamesResolved bytes at [] s
  unfolding resolved
  names_none e = record { founds = []; each = none_left; slots = e }

  module _ {ns : List (List ℕ)} {s : Names} (r : NamesResolved bytes at ns s) where
    pub names_room : length ns < 128 → Room s
    names_room h = rw r.slots (resolved_room r.founds (omega (arith, founds_length r.each)))

    pub names_more : (n : List ℕ) (f : Option TermList) {t : Names} → TermIsFound bytes at n f → t ≡ with_found s f
        → NamesResolved bytes at (ns ++ (n ∷ [])) t
    names_more n f q e = record {
      founds = r.founds ++ (f ∷ []);
      each = founds_more r.each q;
      slots = e ∙ ap (λ s. with_found s f) r.slots ∙ sym (resolved_more no_slots r.founds f);
    }

-- the names taken so far are resolved, and so many are left of the whole
pub record Partly (bytes : List ℕ) (at : Layout) (whole left : List (List ℕ)) (s : Names) : Type 0 where
  pub taken : List (List ℕ)
  pub resolved : NamesResolved bytes at taken s
  pub all : taken ++ left ≡ whole

module _ {bytes : List ℕ} {at : Layout} {whole : List (List ℕ)} where
  pub partly_none : {s : Names} → s ≡ no_slots → Partly bytes at whole whole s
  partly_none e = record { taken = []; resolved = names_none e; all = refl }

  pub partly_room : {n : List ℕ} {left : List (List ℕ)} {s : Names} → Partly bytes at whole (n ∷ left) s → length whole ≤ 128 → Room s
  partly_room {n} {left} p few =
      names_room p.resolved (omega (arith, ap length p.all, length-append p.taken (n ∷ left)))

  pub partly_more : {n : List ℕ} {left : List (List ℕ)} {s t : Names} → Partly bytes at whole (n ∷ left) s
      → (f : Option TermList) → TermIsFound bytes at n f → t ≡ with_found s f → Partly bytes at whole left t
  partly_more {n} {left} p f q e = record {
    taken = p.taken ++ (n ∷ []);
    resolved = names_more p.resolved n f q e;
    all = append_assoc p.taken (n ∷ []) left ∙ p.all;
  }

  pub partly_all : {s : Names} → Partly bytes at whole [] s → NamesResolved bytes at whole s
  partly_all p = rw (← p.all, append-nil) p.resolved

-- ---- names told apart

-- in a sorted directory a name has one entry
one_place : {dir names : List ℕ} {count : ℕ} → Sorted dir names count → (i j : ℕ) → i < count → j < count
    → name_at dir names i ≡ name_at dir names j → i ≡ j
one_place {dir} {names} sorted i j h k e =
    ⊎_elim (λ (l : i < j). apart i j (sorted.rising i j l k) e)
    (λ (l : j ≤ i). ⊎_elim (λ (g : j < i). apart j i (sorted.rising j i g h) (sym e)) (λ (g : i ≤ j). omega arith) (lt_or_ge j i))
    (lt_or_ge i j)
  where
    apart : (k m : ℕ) → precedes (name_at dir names k) (name_at dir names m) ≡ true → name_at dir names k ≡ name_at dir names m → i ≡ j
    apart k m p q = true_false (sym (rw q at p) ∙ precedes_irreflexive (name_at dir names m))

pub told : {bytes : List ℕ} {at : Layout} → OpenedAs bytes at → ToldApart (TermIsFound bytes at)
told (s, is) = record {
  alike = λ a b l k r q. (
    λ e. one_place is.sorted l.entry k.entry r.3 q.3 (r.1 ∙ e ∙ sym q.1),
    λ e. sym r.1 ∙ ap (name_at _ _) e ∙ q.1,
  );
  absent = λ a l r q. let z : Some _ ≡ None = sym (r.2 s is) ∙ q s is in let e : ◌≡◌ {A = ℕ} 0 1 = cc in omega arith;
}

pub names_held : {bytes : List ℕ} {at : Layout} → OpenedAs bytes at → {ns : List (List ℕ)} {s : Names}
    → NamesResolved bytes at ns s → length ns ≤ 128 → Holding (TermIsFound bytes at) ns s
names_held is r few = rw r.slots (holding_all (told is) r.each few)
