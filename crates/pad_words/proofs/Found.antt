-- What stands at an offset that was found, and that nothing else has the id.
-- Assumes nothing.
use Rattle.std.specs.Prelude.{Err, None, Ok, Option, Result, Some}
use mathlib.Core.Path.{◌≡◌, refl, sym, ◌∙◌}
use mathlib.Core.Bool.{true}
use mathlib.Core.List.{List, [], ◌∷◌}
use mathlib.Core.Logic.{◌⊎◌, inl, inr}
use Prim.Native.Nat.{ℕ, zero, suc, ◌+◌, ◌-◌, ◌*◌, ◌≤◌, ◌<◌}
use native.Mathlib.Omega.{arith}
use lib.ListN.{length, drop, get_or}
use borrow.Author.Tests.{ltb-true, lt-ltb, le-ltb, eq-eqb, ne_eqb}
use Rattle.common.proofs.Loops.{lt_or_ge}
use Rattle.common.proofs.OneMore.{equal_or_not}
use Rattle.pad_map.specs.Bars.{Bar, lookup}
use Rattle.pad_map.specs.Rules.{hits_fine}
use Rattle.pad_map.proofs.Lookups.{lookup_here, lookup_later}
use Rattle.pad_words.specs.Words.{size, hits_of, bars_of, held}
use Rattle.pad_words.specs.Whole.{bars_fine, whole}
use Rattle.pad_words.specs.Steps.{place_from}
use Rattle.pad_words.proofs.Steps.{hits_many, bar_at, bars_cons}
use Rattle.pad_words.proofs.Wholes.{fine_cons, whole_parts, inside}

pub held_free : {A : Type 0} {p q : ℕ} → ◌≡◌ {A = Result ℕ ℕ} (Ok p) (Err q) → A
held_free e = let w : ◌≡◌ {A = ℕ} 0 1 = cc in absurd (omega arith)

none_some : {A B : Type 0} {x : A} → None ≡ Some x → B
none_some e = let w : ◌≡◌ {A = ℕ} 0 1 = cc in absurd (omega arith)

-- the offset, a bar at a time
module _ (at : ℕ) (b : Bar) (bs : List Bar) (id : ℕ) where
  pub place_past : b.id < id → place_from at (b ∷ bs) id ≡ place_from (at + (3 + 2 * length b.hits)) bs id
  unfolding place_from
  place_past h = rw (lt-ltb b.id id h)

  pub place_at : b.id ≡ id → place_from at (b ∷ bs) id ≡ Ok at
  unfolding place_from
  place_at e = rw (le-ltb b.id id (omega arith), eq-eqb b.id id e)

  pub place_before : id ≤ b.id → (b.id ≡ id → ⊥) → place_from at (b ∷ bs) id ≡ Err at
  unfolding place_from
  place_before h n = rw (le-ltb b.id id h, ne_eqb b.id id n)

-- all later ids are higher
pub none_below : (p remaining : ℕ) (bars : List Bar) (id : ℕ) → bars_fine (Some p) remaining bars ≡ true → id ≤ p → lookup bars id ≡ None
unfolding lookup
none_below p remaining [] id e h = refl
none_below p remaining (b ∷ bs) id e h =
    let f = fine_cons (Some p) remaining b bs e in
    let up = ltb-true p b.id f.up in
    lookup_later b bs id (λ q. omega arith) ∙ none_below b.id (remaining - length b.hits) bs id f.rest (omega arith)

-- a free place: the id is not held
pub free_none : (at : ℕ) (previous : Option ℕ) (remaining : ℕ) (bars : List Bar) (id : ℕ) {p : ℕ} → bars_fine previous remaining bars ≡ true
    → place_from at bars id ≡ Err p → lookup bars id ≡ None
unfolding lookup
free_none at previous remaining [] id e q = refl
free_none at previous remaining (b ∷ bs) id {p} e q =
    go (lt_or_ge b.id id) (equal_or_not b.id id)
    (free_none (at + (3 + 2 * length b.hits)) (Some b.id) (remaining - length b.hits) bs id rest)
  where
    rest : bars_fine (Some b.id) (remaining - length b.hits) bs ≡ true
    rest = (fine_cons previous remaining b bs e).rest

    go : (b.id < id) ⊎ (id ≤ b.id) → (b.id ≡ id) ⊎ (b.id ≡ id → ⊥)
        → (place_from (at + (3 + 2 * length b.hits)) bs id ≡ Err p → lookup bs id ≡ None) → lookup (b ∷ bs) id ≡ None
    go (inl h) x r = lookup_later b bs id (λ y. omega arith) ∙ r (sym (place_past at b bs id h) ∙ q)
    go (inr h) (inl y) r = held_free (sym (place_at at b bs id y) ∙ q)
    go (inr h) (inr n) r = lookup_later b bs id n ∙ none_below b.id (remaining - length b.hits) bs id rest h

-- an offset where the bar begins
pub record Found_at (at n : ℕ) (ws : List ℕ) (id p : ℕ) : Type 0 where
  pub is : lookup (bars_of n (drop at ws)) id ≡ Some (bar_at ws p)
  pub room : p + (3 + 2 * get_or ws (p + 2) 0) ≤ at + size (bars_of n (drop at ws))

place_none : (at id : ℕ) (ws : List ℕ) → place_from at (bars_of 0 ws) id ≡ Err at
unfolding place_from bars_of
place_none at id ws = refl

module _ (n at : ℕ) (ws : List ℕ) (id : ℕ) {p : ℕ} (q : place_from at (bars_of (suc n) (drop at ws)) id ≡ Ok p) where
  q' : place_from at (bar_at ws at ∷ bars_of n (drop (at + (3 + 2 * get_or ws (at + 2) 0)) ws)) id ≡ Ok p
  q' = rw (bars_cons n ws at) at q

  many : length (hits_of (get_or ws (at + 2) 0) (drop (at + 3) ws)) ≡ get_or ws (at + 2) 0
  many = hits_many (get_or ws (at + 2) 0) (drop (at + 3) ws)

  found_later : get_or ws at 0 < id
      → (place_from (at + (3 + 2 * get_or ws (at + 2) 0)) (bars_of n (drop (at + (3 + 2 * get_or ws (at + 2) 0)) ws)) id ≡ Ok p
      → Found_at (at + (3 + 2 * get_or ws (at + 2) 0)) n ws id p)
      → Found_at at (suc n) ws id p
  found_later h r =
      let e = rw many at (place_past at (bar_at ws at) (bars_of n (drop (at + (3 + 2 * get_or ws (at + 2) 0)) ws)) id h) in
      let f = r (sym e ∙ q') in
      record {
        is = rw (bars_cons n ws at) (lookup_later (bar_at ws at) _ id (λ y. omega arith) ∙ f.is);
        room = rw (bars_cons n ws at) (omega (arith, many, f.room));
      }

  found_here : get_or ws at 0 ≡ id → Found_at at (suc n) ws id p
  found_here y =
      let z : Ok at ≡ Ok p = sym (place_at at (bar_at ws at) _ id y) ∙ q' in
      let e : at ≡ p = cc in
      rw (← e)
      (record {
        is = rw (bars_cons n ws at) (lookup_here (bar_at ws at) _ id y);
        room = rw (bars_cons n ws at) (omega (arith, many));
      })

  found_not : id ≤ get_or ws at 0 → (get_or ws at 0 ≡ id → ⊥) → Found_at at (suc n) ws id p
  found_not h y = held_free (sym q' ∙ place_before at (bar_at ws at) _ id h y)

pub found_at : (n at : ℕ) (ws : List ℕ) (id : ℕ) {p : ℕ} → place_from at (bars_of n (drop at ws)) id ≡ Ok p → Found_at at n ws id p
found_at zero at ws id q = held_free (sym q ∙ place_none at id (drop at ws))
found_at (suc n) at ws id {p} q =
    go (lt_or_ge (get_or ws at 0) id) (equal_or_not (get_or ws at 0) id) (found_at n (at + (3 + 2 * get_or ws (at + 2) 0)) ws id)
  where
    go : (get_or ws at 0 < id) ⊎ (id ≤ get_or ws at 0) → (get_or ws at 0 ≡ id) ⊎ (get_or ws at 0 ≡ id → ⊥)
        → (place_from (at + (3 + 2 * get_or ws (at + 2) 0)) (bars_of n (drop (at + (3 + 2 * get_or ws (at + 2) 0)) ws)) id ≡ Ok p
        → Found_at (at + (3 + 2 * get_or ws (at + 2) 0)) n ws id p)
        → Found_at at (suc n) ws id p
    go (inl h) x r = found_later n at ws id q h r
    go (inr h) (inl y) r = found_here n at ws id q y
    go (inr h) (inr y) r = found_not n at ws id q h y

-- the hits of a bar that is held are fine
pub lookup_fine : (previous : Option ℕ) (remaining : ℕ) (bars : List Bar) (id : ℕ) {b : Bar} → bars_fine previous remaining bars ≡ true
    → lookup bars id ≡ Some b → hits_fine b.len None b.hits ≡ true
unfolding lookup
lookup_fine previous remaining [] id f e = none_some e
lookup_fine previous remaining (c ∷ cs) id {b} f e =
    go (equal_or_not c.id id)
    (lookup_fine (Some c.id) (remaining - length c.hits) cs id (fine_cons previous remaining c cs f).rest)
  where
    go : (c.id ≡ id) ⊎ (c.id ≡ id → ⊥) → (lookup cs id ≡ Some b → hits_fine b.len None b.hits ≡ true)
        → hits_fine b.len None b.hits ≡ true
    go (inl y) r =
        let z : Some c ≡ Some b = sym (lookup_here c cs id y) ∙ e in
        let w : c ≡ b = cc in
        rw w at (fine_cons previous remaining c cs f).fine
    go (inr n) r = r (sym (lookup_later c cs id n) ∙ e)

-- ---- in words that are a pad

module _ (pad : List ℕ) (id : ℕ) (w : whole pad ≡ true) where
  pub not_held : {p : ℕ} → place_from 2 (held pad) id ≡ Err p → lookup (held pad) id ≡ None
  not_held q = free_none 2 None (get_or pad 1 0) (held pad) id (whole_parts pad w).fine q

  module _ {p : ℕ} (q : place_from 2 (held pad) id ≡ Ok p) where
    found : Found_at 2 (get_or pad 0 0) pad id p
    unfolding held
    found = found_at (get_or pad 0 0) 2 pad id q

    pub looked : lookup (held pad) id ≡ Some (bar_at pad p)
    unfolding held
    looked = found.is

    pub found_room : p + (3 + 2 * get_or pad (p + 2) 0) ≤ length pad
    unfolding held
    found_room = omega (arith, found.room, (inside pad w).room)

    pub found_fine : hits_fine (get_or pad (p + 1) 0) None (hits_of (get_or pad (p + 2) 0) (drop (p + 3) pad)) ≡ true
    found_fine = lookup_fine None (get_or pad 1 0) (held pad) id (whole_parts pad w).fine looked
