-- The list of bars is a map: what is added is found, what is taken out is not, all else stays; and its ids go on rising.
-- Assumes nothing.
use Rattle.std.specs.Prelude.{None, Some}
use mathlib.Core.Path.{◌≡◌, refl, sym, ap, ◌∙◌}
use mathlib.Core.Bool.{Bool, true, false, cond}
use mathlib.Core.List.{List, [], ◌∷◌}
use mathlib.Core.Logic.{◌⊎◌, inl, inr}
use Prim.Native.Nat.{ℕ, suc, ◌+◌, ◌≤◌, ◌<◌}
use native.Mathlib.Omega.{arith}
use lib.Dec.{eqb}
use lib.ListN.{length}
use borrow.Author.Tests.{lt-ltb, le-ltb, eq-eqb, ne_eqb}
use Rattle.common.specs.Elements.{◌∈◌, Rising}
use Rattle.common.proofs.Elements.{rising_tail, rising_above, map_from}
use Rattle.common.proofs.Membership.{map_gives}
use Rattle.common.proofs.Rising.{rising_cons}
use Rattle.common.proofs.Loops.{lt_or_ge}
use Rattle.common.proofs.OneMore.{equal_or_not}
use Rattle.pad_map.specs.Bars.{Bar, lookup, insert, without, hits_in_all}
use Rattle.pad_map.specs.Claims.{ids, Added, TakenOut, AddedRises, TakenOutRises}
use Rattle.pad_map.proofs.Lookups.{lookup_here, lookup_later}

pub some_none : {A B : Type 0} {x : A} → Some x ≡ None → B
some_none e = let w : ◌≡◌ {A = ℕ} 0 1 = cc in absurd (omega arith)

-- ---- a bar at a time

module _ (c : Bar) (cs : List Bar) (id : ℕ) where
  lookup_cons : lookup (c ∷ cs) id ≡ cond (eqb c.id id) (Some c) (lookup cs id)
  unfolding lookup
  lookup_cons = refl

  pub without_here : c.id ≡ id → without id (c ∷ cs) ≡ without id cs
  unfolding without
  without_here e = rw (eq-eqb c.id id e)

  pub without_later : (c.id ≡ id → ⊥) → without id (c ∷ cs) ≡ c ∷ without id cs
  unfolding without
  without_later n = rw (ne_eqb c.id id n)

pub insert_nil : (b : Bar) → insert b [] ≡ b ∷ []
unfolding insert
insert_nil b = refl

module _ (b c : Bar) (cs : List Bar) where
  pub insert_later : c.id < b.id → insert b (c ∷ cs) ≡ c ∷ insert b cs
  unfolding insert
  insert_later h = rw (lt-ltb c.id b.id h)

  pub insert_here : b.id ≤ c.id → insert b (c ∷ cs) ≡ b ∷ (c ∷ cs)
  unfolding insert
  insert_here h = rw (le-ltb c.id b.id h)

-- ---- what is found

pub added : Added
added [] b id n = ap (λ (l : List Bar). lookup l id) (insert_nil b) ∙ lookup_cons b [] id
added (c ∷ cs) b id n = go (lt_or_ge c.id b.id) (equal_or_not c.id id) (added cs b id)
  where
    go : (c.id < b.id) ⊎ (b.id ≤ c.id) → (c.id ≡ id) ⊎ (c.id ≡ id → ⊥)
        → (lookup cs b.id ≡ None → lookup (insert b cs) id ≡ cond (eqb b.id id) (Some b) (lookup cs id))
        → lookup (insert b (c ∷ cs)) id ≡ cond (eqb b.id id) (Some b) (lookup (c ∷ cs) id)
    go (inl h) (inl y) r =
        rw (insert_later b c cs h, lookup_here c (insert b cs) id y, lookup_here c cs id y, ne_eqb b.id id (λ z. omega arith))
    go (inl h) (inr y) r =
        rw (insert_later b c cs h, lookup_later c (insert b cs) id y, lookup_later c cs id y)
        (r (sym (lookup_later c cs b.id (λ z. omega arith)) ∙ n))
    go (inr h) x r = ap (λ (l : List Bar). lookup l id) (insert_here b c cs h) ∙ lookup_cons b (c ∷ cs) id

nothing_out : (gone id : ℕ) (t : Bool) → lookup (without gone []) id ≡ cond t None (lookup [] id)
unfolding without lookup
nothing_out gone id true = refl
nothing_out gone id false = refl

pub taken_out : TakenOut
taken_out [] gone id = nothing_out gone id (eqb gone id)
taken_out (c ∷ cs) gone id = go (equal_or_not c.id gone) (equal_or_not c.id id) (equal_or_not gone id) (taken_out cs gone id)
  where
    go : (c.id ≡ gone) ⊎ (c.id ≡ gone → ⊥) → (c.id ≡ id) ⊎ (c.id ≡ id → ⊥) → (gone ≡ id) ⊎ (gone ≡ id → ⊥)
        → lookup (without gone cs) id ≡ cond (eqb gone id) None (lookup cs id)
        → lookup (without gone (c ∷ cs)) id ≡ cond (eqb gone id) None (lookup (c ∷ cs) id)
    go (inl y) x (inl z) r = rw (without_here c cs gone y, eq-eqb gone id z) (rw (eq-eqb gone id z) at r)
    go (inl y) x (inr z) r =
        rw (without_here c cs gone y, ne_eqb gone id z, lookup_later c cs id (λ q. z (sym y ∙ q))) (rw (ne_eqb gone id z) at r)
    go (inr y) (inl x) z r =
        rw (without_later c cs gone y, lookup_here c (without gone cs) id x, lookup_here c cs id x, ne_eqb gone id (λ q. y (x ∙ sym q)))
    go (inr y) (inr x) z r = rw (without_later c cs gone y, lookup_later c (without gone cs) id x, lookup_later c cs id x) r

-- ---- which bars there are, and how many

pub insert_gives : (b : Bar) (bars : List Bar) (x : Bar) → x ∈ insert b bars → (x ≡ b) ⊎ (x ∈ bars)
insert_gives b [] x m = rw (insert_nil b) at m
insert_gives b (c ∷ cs) x m = go (lt_or_ge c.id b.id) (insert_gives b cs x)
  where
    later : (x ≡ b) ⊎ (x ∈ cs) → (x ≡ b) ⊎ (x ∈ (c ∷ cs))
    later (inl e) = inl e
    later (inr k) = inr (inr k)

    first : x ∈ (c ∷ insert b cs) → (x ∈ insert b cs → (x ≡ b) ⊎ (x ∈ cs)) → (x ≡ b) ⊎ (x ∈ (c ∷ cs))
    first (inl e) r = inr (inl e)
    first (inr k) r = later (r k)

    go : (c.id < b.id) ⊎ (b.id ≤ c.id) → (x ∈ insert b cs → (x ≡ b) ⊎ (x ∈ cs)) → (x ≡ b) ⊎ (x ∈ (c ∷ cs))
    go (inl h) r = first (rw (insert_later b c cs h) at m) r
    go (inr h) r = rw (insert_here b c cs h) at m

pub without_gives : (id : ℕ) (bars : List Bar) (x : Bar) → x ∈ without id bars → x ∈ bars
unfolding without
without_gives id [] x m = m
without_gives id (c ∷ cs) x m = go (equal_or_not c.id id) (without_gives id cs x)
  where
    first : x ∈ (c ∷ without id cs) → (x ∈ without id cs → x ∈ cs) → x ∈ (c ∷ cs)
    first (inl e) r = inl e
    first (inr k) r = inr (r k)

    go : (c.id ≡ id) ⊎ (c.id ≡ id → ⊥) → (x ∈ without id cs → x ∈ cs) → x ∈ (c ∷ cs)
    go (inl y) r = inr (r (rw (without_here c cs id y) at m))
    go (inr n) r = first (rw (without_later c cs id n) at m) r

pub insert_counts : (b : Bar) (bars : List Bar)
    → (length (insert b bars) ≡ suc (length bars)) × (hits_in_all (insert b bars) ≡ length b.hits + hits_in_all bars)
insert_counts b [] = (ap length (insert_nil b), ap hits_in_all (insert_nil b))
insert_counts b (c ∷ cs) = go (lt_or_ge c.id b.id) (insert_counts b cs)
  where
    go : (c.id < b.id) ⊎ (b.id ≤ c.id)
        → (length (insert b cs) ≡ suc (length cs)) × (hits_in_all (insert b cs) ≡ length b.hits + hits_in_all cs)
        → (length (insert b (c ∷ cs)) ≡ suc (suc (length cs)))
        × (hits_in_all (insert b (c ∷ cs)) ≡ length b.hits + (length c.hits + hits_in_all cs))
    go (inl h) (m, n) = rw (insert_later b c cs h) (ap suc m, omega arith)
    go (inr h) r = rw (insert_here b c cs h) (refl, refl)

pub without_fewer : (id : ℕ) (bars : List Bar)
    → (length (without id bars) ≤ length bars) × (hits_in_all (without id bars) ≤ hits_in_all bars)
unfolding without
without_fewer id [] = (omega arith, omega arith)
without_fewer id (c ∷ cs) = go (equal_or_not c.id id) (without_fewer id cs)
  where
    go : (c.id ≡ id) ⊎ (c.id ≡ id → ⊥) → (length (without id cs) ≤ length cs) × (hits_in_all (without id cs) ≤ hits_in_all cs)
        → (length (without id (c ∷ cs)) ≤ suc (length cs)) × (hits_in_all (without id (c ∷ cs)) ≤ length c.hits + hits_in_all cs)
    go (inl y) (m, n) = rw (without_here c cs id y) (omega arith, omega arith)
    go (inr k) (m, n) = rw (without_later c cs id k) (omega arith, omega arith)

-- nothing has the id: nothing is taken out
pub without_absent : (bars : List Bar) (id : ℕ) → lookup bars id ≡ None → without id bars ≡ bars
unfolding without
without_absent [] id e = refl
without_absent (c ∷ cs) id e = go (equal_or_not c.id id) (without_absent cs id)
  where
    go : (c.id ≡ id) ⊎ (c.id ≡ id → ⊥) → (lookup cs id ≡ None → without id cs ≡ cs) → without id (c ∷ cs) ≡ c ∷ cs
    go (inl y) r = some_none (sym (lookup_here c cs id y) ∙ e)
    go (inr n) r = without_later c cs id n ∙ ap (λ (l : List Bar). c ∷ l) (r (sym (lookup_later c cs id n) ∙ e))

-- ---- ids rise

-- where all ids are above p, so are those after a bar was added above p, or taken out
insert_above : (b : Bar) (bars : List Bar) (p : ℕ) → p < b.id → ((i : ℕ) → i ∈ ids bars → p < i) → (i : ℕ) → i ∈ ids (insert b bars)
    → p < i
insert_above b bars p h f i m =
    let (x, k, e) = map_gives (λ b. b.id) (insert b bars) i m in
    go x e (insert_gives b bars x k)
  where
    go : (x : Bar) → i ≡ x.id → (x ≡ b) ⊎ (x ∈ bars) → p < i
    go x e (inl y) = rw (e ∙ ap (λ (c : Bar). c.id) y) h
    go x e (inr k) = rw e (f x.id (map_from (λ b. b.id) bars x k))

without_above : (id : ℕ) (bars : List Bar) (p : ℕ) → ((i : ℕ) → i ∈ ids bars → p < i) → (i : ℕ) → i ∈ ids (without id bars) → p < i
without_above id bars p f i m =
    let (x, k, e) = map_gives (λ b. b.id) (without id bars) i m in
    rw e (f x.id (map_from (λ b. b.id) bars x (without_gives id bars x k)))

pub added_rises : AddedRises
added_rises [] b n r = rw (insert_nil b) tt
added_rises (c ∷ cs) b n r = go (lt_or_ge c.id b.id) (equal_or_not c.id b.id) (added_rises cs b)
  where
    go : (c.id < b.id) ⊎ (b.id ≤ c.id) → (c.id ≡ b.id) ⊎ (c.id ≡ b.id → ⊥)
        → (lookup cs b.id ≡ None → Rising (ids cs) → Rising (ids (insert b cs)))
        → Rising (ids (insert b (c ∷ cs)))
    go (inl h) x s =
        let later = s (sym (lookup_later c cs b.id (λ y. omega arith)) ∙ n) (rising_tail c.id (ids cs) r) in
        rw (insert_later b c cs h)
        (rising_cons c.id (ids (insert b cs)) (insert_above b cs c.id h (rising_above c.id (ids cs) r)) later)
    go (inr h) (inl y) s = some_none (sym (lookup_here c cs b.id y) ∙ n)
    go (inr h) (inr y) s = rw (insert_here b c cs h) (omega arith, r)

pub taken_out_rises : TakenOutRises
unfolding without
taken_out_rises [] id r = tt
taken_out_rises (c ∷ cs) id r = go (equal_or_not c.id id) (taken_out_rises cs id (rising_tail c.id (ids cs) r))
  where
    go : (c.id ≡ id) ⊎ (c.id ≡ id → ⊥) → Rising (ids (without id cs)) → Rising (ids (without id (c ∷ cs)))
    go (inl y) s = rw (without_here c cs id y) s
    go (inr n) s =
        rw (without_later c cs id n)
        (rising_cons c.id (ids (without id cs)) (without_above id cs c.id (rising_above c.id (ids cs) r)) s)
