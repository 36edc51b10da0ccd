-- What one sound's hits store, without places: where the key of the hits (step or bar) changes, a new element begins, and the last value
-- stored for a key stays.
-- Assumes nothing.
use mathlib.Core.Path.{◌≡◌, refl, sym, ap, ap₂, ◌∙◌}
use mathlib.Core.Bool.{Bool, true, false, cond}
use mathlib.Core.List.{List, [], ◌∷◌, ◌++◌, map}
use Prim.Native.Nat.{ℕ, suc, ◌+◌, ◌-◌, ◌≤◌, ◌<◌}
use native.Mathlib.Omega.{arith}
use lib.Dec.{eqb}
use lib.ListN.{length, get_or, set, take, length-set}
use lib.Seq.{get_or-set_same, take-set-le, take-suc, take_all, append_snoc}
use borrow.Author.Tests.{eqb-true, ne_eqb}
use Rattle.midi_read.specs.declared.track.Hit.{Hit}
use Rattle.midi_read.specs.Files.{Grid}
use Rattle.midi_count.proofs.Runs.{runs}
use Rattle.midi_fill.proofs.Scattered.{One, one, Kind, writes, Inside}

module _ (g : Grid) (kind : Kind g) where
  abbrev idx : One → ℕ
  idx = kind.idx

  abbrev key : Hit → ℕ
  key = kind.key

  abbrev held : One → ℕ
  held = kind.held

  -- what a hit stores
  abbrev value : One → Hit → ℕ
  value s h = kind.val h (one g s h)

  abbrev pub settle : One → ℕ → List Hit → List ℕ
  settle s v [] = v ∷ []
  settle s v (h ∷ hs) =
      cond (eqb (held s) (key h + 1)) (settle (one g s h) (value s h) hs) (v ∷ settle (one g s h) (value s h) hs)

  abbrev later : One → Hit → List Hit → List ℕ
  later s h hs = settle (one g s h) (value s h) hs

  pub settle_length : (s : One) (v : ℕ) (hs : List Hit) → length (settle s v hs) ≡ 1 + length (runs (held s) (map key hs))
  settle_length s v [] = refl
  settle_length s v (h ∷ hs) = step (eqb (held s) (key h + 1)) refl (settle_length (one g s h) (value s h) hs)
    where
      step : (b : Bool) → eqb (held s) (key h + 1) ≡ b
          → length (later s h hs) ≡ 1 + length (runs (held (one g s h)) (map key hs))
          → length (cond b (later s h hs) (v ∷ later s h hs))
          ≡ 1 + length (cond b (runs (held s) (map key hs)) (key h ∷ runs (key h + 1) (map key hs)))
      step true e ih = rw (eqb-true (held s) (key h + 1) e, ← kind.holds s h) ih
      step false e ih =
          let ih' : length (later s h hs) ≡ 1 + length (runs (key h + 1) (map key hs)) = rw (kind.holds s h) at ih in
          omega arith

  turn : (s : One) (h : Hit) (b : Bool) → eqb (held s) (key h + 1) ≡ b → idx (one g s h) ≡ idx s + cond b 0 1
  turn s h b e = kind.counts s h ∙ ap (λ (c : Bool). idx s + cond c 0 1) e

  pub writes_settle : (s : One) (v : ℕ) (l : List ℕ) (hs : List Hit) → 1 ≤ idx s → length l ≡ idx s - 1 + length (settle s v hs)
      → get_or l (idx s - 1) 0 ≡ v → writes g kind s l hs ≡ take (idx s - 1) l ++ settle s v hs
  writes_settle s v l [] some long e =
      let whole : suc (idx s - 1) ≡ idx s = omega arith in
      sym (take_all (suc (idx s - 1)) l (omega arith)) ∙ take-suc l (idx s - 1) 0 (omega arith)
      ∙ ap (λ (x : ℕ). take (idx s - 1) l ++ (x ∷ [])) e
  writes_settle s v l (h ∷ hs) some long e =
      step (eqb (held s) (key h + 1)) refl
      (writes_settle (one g s h) (value s h) (set l (idx (one g s h) - 1) (value s h)) hs) long
    where
      step : (b : Bool) → eqb (held s) (key h + 1) ≡ b
          → (1 ≤ idx (one g s h)
          → length (set l (idx (one g s h) - 1) (value s h)) ≡ idx (one g s h) - 1 + length (later s h hs)
          → get_or (set l (idx (one g s h) - 1) (value s h)) (idx (one g s h) - 1) 0 ≡ value s h
          → writes g kind (one g s h) (set l (idx (one g s h) - 1) (value s h)) hs
          ≡ take (idx (one g s h) - 1) (set l (idx (one g s h) - 1) (value s h)) ++ later s h hs)
          → length l ≡ idx s - 1 + length (cond b (later s h hs) (v ∷ later s h hs))
          → writes g kind (one g s h) (set l (idx (one g s h) - 1) (value s h)) hs
          ≡ take (idx s - 1) l ++ cond b (later s h hs) (v ∷ later s h hs)
      step true t ih long =
          let up : idx (one g s h) ≡ idx s + 0 = turn s h true t in
          let at : idx (one g s h) - 1 ≡ idx s - 1 = omega arith in
          let below : idx (one g s h) - 1 < length l = omega (arith, settle_length (one g s h) (value s h) hs) in
          ih (omega arith)
          (length-set l (idx (one g s h) - 1) (value s h) ∙ omega arith)
          (get_or-set_same l (idx (one g s h) - 1) (value s h) 0 below)
          ∙ ap (λ (k : List ℕ). k ++ later s h hs)
          (take-set-le (idx (one g s h) - 1) l (idx (one g s h) - 1) (value s h) (omega arith) ∙ ap (λ (n : ℕ). take n l) at)
      step false t ih long =
          let up : idx (one g s h) ≡ idx s + 1 = turn s h false t in
          let at : idx (one g s h) - 1 ≡ suc (idx s - 1) = omega arith in
          let below : idx (one g s h) - 1 < length l = omega (arith, settle_length (one g s h) (value s h) hs) in
          ih (omega arith)
          (length-set l (idx (one g s h) - 1) (value s h) ∙ omega arith)
          (get_or-set_same l (idx (one g s h) - 1) (value s h) 0 below)
          ∙ ap (λ (k : List ℕ). k ++ later s h hs)
          (take-set-le (idx (one g s h) - 1) l (idx (one g s h) - 1) (value s h) (omega arith) ∙ ap (λ (n : ℕ). take n l) at
          ∙ take-suc l (idx s - 1) 0 (omega arith) ∙ ap (λ (x : ℕ). take (idx s - 1) l ++ (x ∷ [])) e)
          ∙ append_snoc (take (idx s - 1) l) v (later s h hs)

  pub settle_inside : (c : ℕ) (s : One) (v : ℕ) (hs : List Hit) → 1 ≤ idx s → idx s - 1 + length (settle s v hs) ≤ c
      → Inside g kind c s hs
  settle_inside c s v [] some few = tt
  settle_inside c s v (h ∷ hs) some few = step (eqb (held s) (key h + 1)) refl (settle_inside c (one g s h) (value s h) hs) few
    where
      step : (b : Bool) → eqb (held s) (key h + 1) ≡ b
          → (1 ≤ idx (one g s h) → idx (one g s h) - 1 + length (later s h hs) ≤ c → Inside g kind c (one g s h) hs)
          → idx s - 1 + length (cond b (later s h hs) (v ∷ later s h hs)) ≤ c
          → Inside g kind c s (h ∷ hs)
      step true t ih few =
          let up : idx (one g s h) ≡ idx s + 0 = turn s h true t in
          (omega arith, omega (arith, settle_length (one g s h) (value s h) hs), ih (omega arith) (omega arith))
      step false t ih few =
          let up : idx (one g s h) ≡ idx s + 1 = turn s h false t in
          (omega arith, omega (arith, settle_length (one g s h) (value s h) hs), ih (omega arith) (omega arith))

  -- from nothing: `settled` is all that is stored
  abbrev pub settled : One → List Hit → List ℕ
  settled s [] = []
  settled s (h ∷ hs) = later s h hs

  module _ (s : One) (empty : idx s ≡ 0) (none : held s ≡ 0) where
    first : (h : Hit) → idx (one g s h) ≡ 1
    first h =
        let apart : eqb (held s) (key h + 1) ≡ false = ne_eqb (held s) (key h + 1) (λ e. omega arith) in
        turn s h false apart ∙ omega arith

    pub settled_length : (hs : List Hit) → length (settled s hs) ≡ length (runs 0 (map key hs))
    settled_length [] = refl
    settled_length (h ∷ hs) =
        let apart : eqb 0 (key h + 1) ≡ false = ne_eqb 0 (key h + 1) (λ e. omega arith) in
        rw (apart, ← kind.holds s h) (settle_length (one g s h) (value s h) hs ∙ omega arith)

    pub writes_settled : (l : List ℕ) (hs : List Hit) → length l ≡ length (settled s hs) → writes g kind s l hs ≡ settled s hs
    writes_settled [] [] long = refl
    writes_settled (x ∷ l) [] long = absurd (omega arith)
    writes_settled l (h ∷ hs) long =
        let at : idx (one g s h) - 1 ≡ 0 = omega (arith, first h) in
        writes_settle (one g s h) (value s h) (set l (idx (one g s h) - 1) (value s h)) hs (omega (arith, first h))
        (length-set l (idx (one g s h) - 1) (value s h) ∙ omega arith)
        (get_or-set_same l (idx (one g s h) - 1) (value s h) 0 (omega (arith, settle_length (one g s h) (value s h) hs)))
        ∙ ap (λ (n : ℕ). take n (set l (idx (one g s h) - 1) (value s h)) ++ later s h hs) at

    pub settled_inside : (c : ℕ) (hs : List Hit) → length (settled s hs) ≤ c → Inside g kind c s hs
    settled_inside c [] few = tt
    settled_inside c (h ∷ hs) few = (
      omega (arith, first h),
      omega (arith, first h, settle_length (one g s h) (value s h) hs),
      settle_inside c (one g s h) (value s h) hs (omega (arith, first h)) (omega (arith, first h)),
    )

  -- values that the key decides
  module _ (f : ℕ → ℕ) (keyed : (s : One) (h : Hit) → value s h ≡ f (key h)) where
    settle_keyed : (s : One) (k v : ℕ) (hs : List Hit) → held s ≡ k + 1 → v ≡ f k → settle s v hs ≡ map f (k ∷ runs (k + 1) (map key hs))
    settle_keyed s k v [] e is = rw is
    settle_keyed s k v (h ∷ hs) e is =
        step (eqb (k + 1) (key h + 1)) (ap (λ (n : ℕ). eqb n (key h + 1)) e) refl
        (settle_keyed (one g s h) (key h) (value s h) hs (kind.holds s h) (keyed s h))
      where
        step : (b : Bool) → eqb (held s) (key h + 1) ≡ eqb (k + 1) (key h + 1) → eqb (k + 1) (key h + 1) ≡ b
            → later s h hs ≡ map f (key h ∷ runs (key h + 1) (map key hs))
            → cond (eqb (held s) (key h + 1)) (later s h hs) (v ∷ later s h hs)
            ≡ map f (k ∷ cond (eqb (k + 1) (key h + 1)) (runs (k + 1) (map key hs)) (key h ∷ runs (key h + 1) (map key hs)))
        step true same t ih =
            let eq : key h ≡ k = omega (arith, eqb-true (k + 1) (key h + 1) t) in
            rw (same, t) (ih ∙ ap (λ (n : ℕ). map f (n ∷ runs (n + 1) (map key hs))) eq)
        step false same t ih = rw (same, t) (ap₂ ◌∷◌ is ih)

    pub settled_keyed : (s : One) → held s ≡ 0 → (hs : List Hit) → settled s hs ≡ map f (runs 0 (map key hs))
    settled_keyed s none [] = refl
    settled_keyed s none (h ∷ hs) =
        let apart : eqb 0 (key h + 1) ≡ false = ne_eqb 0 (key h + 1) (λ e. omega arith) in
        rw apart (settle_keyed (one g s h) (key h) (value s h) hs (kind.holds s h) (keyed s h))
