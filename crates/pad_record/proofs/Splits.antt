-- An offset parts the bars into those before it and those behind.
-- Assumes nothing.
use Rattle.std.specs.Prelude.{Err, Ok, Option, Result, Some}
use mathlib.Core.Path.{◌≡◌, refl, sym, ap, ◌∙◌}
use mathlib.Core.Bool.{true}
use mathlib.Core.List.{List, [], ◌∷◌, ◌++◌}
use mathlib.Core.Logic.{◌⊎◌, inl, inr}
use Prim.Native.Nat.{ℕ, ◌+◌, ◌-◌, ◌*◌, ◌≤◌, ◌<◌}
use native.Mathlib.Omega.{arith}
use lib.ListN.{length}
use Rattle.common.proofs.Loops.{lt_or_ge}
use Rattle.common.proofs.OneMore.{equal_or_not}
use Rattle.pad_map.specs.Bars.{Bar, lookup, insert, without}
use Rattle.pad_map.proofs.Lookups.{lookup_here, lookup_later}
use Rattle.pad_map.proofs.Mapped.{without_here, without_later, without_absent, insert_nil, insert_later, insert_here}
use Rattle.pad_words.specs.Words.{size}
use Rattle.pad_words.specs.Whole.{bars_fine}
use Rattle.pad_words.specs.Steps.{place_from}
use Rattle.pad_words.proofs.Wholes.{fine_cons}
use Rattle.pad_words.proofs.Found.{held_free, place_past, place_at, place_before, none_below}

place_nil : (at id : ℕ) → place_from at [] id ≡ Err at
unfolding place_from
place_nil at id = refl

-- ---- a bar that is held

pub record HeldSplit (at : ℕ) (bars : List Bar) (id p : ℕ) : Type 0 where
  pub before : List Bar
  pub one : Bar
  pub behind : List Bar
  pub parts : bars ≡ before ++ (one ∷ behind)
  pub offset : p ≡ at + size before
  pub rest : without id bars ≡ before ++ behind
  pub look : lookup bars id ≡ Some one

pub held_split : (at : ℕ) (previous : Option ℕ) (remaining : ℕ) (bars : List Bar) (id : ℕ) {p : ℕ}
    → bars_fine previous remaining bars ≡ true → place_from at bars id ≡ Ok p → HeldSplit at bars id p
held_split at previous remaining [] id f q = held_free (sym q ∙ place_nil at id)
held_split at previous remaining (c ∷ cs) id {p} f q =
    go (lt_or_ge c.id id) (equal_or_not c.id id)
    (held_split (at + (3 + 2 * length c.hits)) (Some c.id) (remaining - length c.hits) cs id fine)
  where
    fine : bars_fine (Some c.id) (remaining - length c.hits) cs ≡ true
    fine = (fine_cons previous remaining c cs f).rest

    go : (c.id < id) ⊎ (id ≤ c.id) → (c.id ≡ id) ⊎ (c.id ≡ id → ⊥)
        → (place_from (at + (3 + 2 * length c.hits)) cs id ≡ Ok p → HeldSplit (at + (3 + 2 * length c.hits)) cs id p)
        → HeldSplit at (c ∷ cs) id p
    go (inl h) x r =
        let s = r (sym (place_past at c cs id h) ∙ q) in
        record {
          before = c ∷ s.before;
          one = s.one;
          behind = s.behind;
          parts = ap (λ (l : List Bar). c ∷ l) s.parts;
          offset = omega (arith, s.offset);
          rest = without_later c cs id (λ y. omega arith) ∙ ap (λ (l : List Bar). c ∷ l) s.rest;
          look = lookup_later c cs id (λ y. omega arith) ∙ s.look;
        }
    go (inr h) (inl y) r =
        let z : ◌≡◌ {A = Result ℕ ℕ} (Ok at) (Ok p) = sym (place_at at c cs id y) ∙ q in
        let e : at ≡ p = cc in
        let n = none_below c.id (remaining - length c.hits) cs id fine (omega arith) in
        record {
          before = [];
          one = c;
          behind = cs;
          parts = refl;
          offset = omega (arith, e);
          rest = without_here c cs id y ∙ without_absent cs id n;
          look = lookup_here c cs id y;
        }
    go (inr h) (inr y) r = held_free (sym q ∙ place_before at c cs id h y)

-- ---- a free offset

pub record FreeSplit (at : ℕ) (bars : List Bar) (b : Bar) (p : ℕ) : Type 0 where
  pub before : List Bar
  pub behind : List Bar
  pub parts : bars ≡ before ++ behind
  pub offset : p ≡ at + size before
  pub added : insert b bars ≡ before ++ (b ∷ behind)

free_here : (at : ℕ) (bars : List Bar) (b : Bar) {p : ℕ} → ◌≡◌ {A = Result ℕ ℕ} (Err at) (Err p) → insert b bars ≡ b ∷ bars
    → FreeSplit at bars b p
free_here at bars b {p} z i =
    let e : at ≡ p = cc in
    record { before = []; behind = bars; parts = refl; offset = omega (arith, e); added = i }

pub free_split : (at : ℕ) (bars : List Bar) (b : Bar) {p : ℕ} → place_from at bars b.id ≡ Err p → FreeSplit at bars b p
free_split at [] b q = free_here at [] b (sym (place_nil at b.id) ∙ q) (insert_nil b)
free_split at (c ∷ cs) b {p} q =
    go (lt_or_ge c.id b.id) (equal_or_not c.id b.id) (free_split (at + (3 + 2 * length c.hits)) cs b)
  where
    go : (c.id < b.id) ⊎ (b.id ≤ c.id) → (c.id ≡ b.id) ⊎ (c.id ≡ b.id → ⊥)
        → (place_from (at + (3 + 2 * length c.hits)) cs b.id ≡ Err p → FreeSplit (at + (3 + 2 * length c.hits)) cs b p)
        → FreeSplit at (c ∷ cs) b p
    go (inl h) x r =
        let s = r (sym (place_past at c cs b.id h) ∙ q) in
        record {
          before = c ∷ s.before;
          behind = s.behind;
          parts = ap (λ (l : List Bar). c ∷ l) s.parts;
          offset = omega (arith, s.offset);
          added = insert_later b c cs h ∙ ap (λ (l : List Bar). c ∷ l) s.added;
        }
    go (inr h) (inl y) r = held_free (sym (place_at at c cs b.id y) ∙ q)
    go (inr h) (inr y) r = free_here at (c ∷ cs) b (sym (place_before at c cs b.id h y) ∙ q) (insert_here b c cs h)
