-- One sound's position counts: what stays stored for a bar is the number of its steps.
-- Assumes nothing.
use mathlib.Core.Path.{◌≡◌, refl, sym, ap, ap₂, ◌∙◌}
use mathlib.Core.Bool.{Bool, true, false, cond}
use mathlib.Core.List.{List, [], ◌∷◌, map}
use Prim.Native.Nat.{ℕ, suc, ◌+◌, ◌/◌, ◌≤◌, ◌<◌}
use native.Mathlib.Omega.{arith}
use lib.Dec.{eqb}
use lib.ListN.{length}
use borrow.Author.Tests.{eqb-true, eqb-false, eq-eqb, ne_eqb}
use Rattle.common.specs.Members.{kept}
use Rattle.common.proofs.Kept.{kept_none, map_same}
use Rattle.midi_read.specs.declared.track.Hit.{Hit}
use Rattle.midi_read.specs.Files.{Grid, step_of, bar_of}
use Rattle.midi_count.specs.Tallies.{fresh, opens}
use Rattle.midi_fill.specs.Stores.{in_last}
use Rattle.midi_count.proofs.Runs.{runs, Grows, runs_above, div_up}
use Rattle.midi_count.proofs.Sounding.{bar_last, bar_last_of, opens_is}
use Rattle.midi_fill.proofs.Scattered.{One, one, Kind, kept_yes, kept_not}
use Rattle.midi_fill.proofs.Settled.{settle, settled}

-- ---- how the lists are filled

module _ (g : Grid) where
  pub counts_by : (s : One) (h : Hit) → (one g s h).postings ≡ s.postings + fresh (bar_last g.steps s.last) (bar_of g h)
  counts_by s h = ap (λ (n : ℕ). s.postings + n) (opens_is g.steps s.last (step_of g h))

  -- a place for each bar
  abbrev pub by_bar : (Hit → One → ℕ) → Kind g
  by_bar val = record {
    idx = λ s. s.postings;
    val = val;
    key = bar_of g;
    held = λ s. bar_last g.steps s.last;
    counts = counts_by;
    holds = λ s h. bar_last_of g.steps (step_of g h);
  }

  -- a place for each step
  abbrev pub by_step : (Hit → One → ℕ) → Kind g
  by_step val = record {
    idx = λ s. s.positions;
    val = val;
    key = step_of g;
    held = λ s. s.last;
    counts = λ s h. refl;
    holds = λ s h. refl;
  }

  abbrev pub counts_kind : Kind g
  counts_kind = by_bar (λ h s. s.inside)

  abbrev pub loud_kind : Kind g
  loud_kind = by_step (λ h s. s.loud)

-- ---- steps in a bar

module _ (g : Grid) where
  -- how many of the steps are in a bar
  abbrev pub steps_in : List ℕ → ℕ → ℕ
  steps_in xs b = length (kept (λ x. eqb (x / g.steps) b) xs)

  -- the steps and the bars of hits, each once, without the one that was last
  abbrev steps_after : ℕ → List Hit → List ℕ
  steps_after x hs = runs (x + 1) (map (step_of g) hs)

  abbrev bars_after : ℕ → List Hit → List ℕ
  bars_after b hs = runs (b + 1) (map (bar_of g) hs)

  in_here : (x : ℕ) (xs : List ℕ) (b : ℕ) → x / g.steps ≡ b → steps_in (x ∷ xs) b ≡ suc (steps_in xs b)
  in_here x xs b e = ap length (kept_yes (λ x. eqb (x / g.steps) b) x xs (eq-eqb (x / g.steps) b e))

  in_there : (x : ℕ) (xs : List ℕ) (b : ℕ) → (x / g.steps ≡ b → ⊥) → steps_in (x ∷ xs) b ≡ steps_in xs b
  in_there x xs b k = ap length (kept_not (λ x. eqb (x / g.steps) b) x xs (ne_eqb (x / g.steps) b k))

  bars_grow : (x : ℕ) (hs : List Hit) → 1 ≤ g.steps → Grows x (map (step_of g) hs) → Grows (x / g.steps) (map (bar_of g) hs)
  bars_grow x [] a up = tt
  bars_grow x (h ∷ hs) a (at, up) = (div_up x (step_of g h) g.steps a at, bars_grow (step_of g h) hs a up)

  module _ (a_step : 1 ≤ g.steps) where
    in_later : (h : Hit) (hs : List Hit) (r : List ℕ) → Grows (step_of g h) (map (step_of g) hs)
        → map (steps_in (step_of g h ∷ r)) (bars_after (bar_of g h) hs) ≡ map (steps_in r) (bars_after (bar_of g h) hs)
    in_later h hs r up =
        map_same (steps_in (step_of g h ∷ r)) (steps_in r) (bars_after (bar_of g h) hs) (λ b m.
        let above = runs_above (bar_of g h + 1) (bar_of g h) (map (bar_of g) hs) (omega arith) in
        in_there (step_of g h) r b (λ e. omega (arith, above (bars_grow (step_of g h) hs a_step up) b m)))

    in_none : (b y : ℕ) (xs : List ℕ) → b < y / g.steps → Grows y xs → steps_in (runs (y + 1) xs) b ≡ 0
    in_none b y xs l up =
        ap length (kept_none (λ x. eqb (x / g.steps) b) (runs (y + 1) xs) (λ z m.
        let high : y ≤ z = omega (arith, runs_above (y + 1) y xs (omega arith) up z m) in
        ne_eqb (z / g.steps) b (λ e. omega (arith, div_up y z g.steps a_step high))))

    -- what is stored for the bar so far
    inside_is : (s : One) (h : Hit) (x v : ℕ) (a c : Bool) → s.last ≡ x + 1 → s.inside ≡ v → eqb (x / g.steps + 1) (bar_of g h + 1) ≡ a
        → eqb (x + 1) (step_of g h + 1) ≡ c → (one g s h).inside ≡ cond a (v + cond c 0 1) (cond c 0 1)
    inside_is s h x v a c e f t u =
        let bar = ap (bar_last g.steps) e ∙ bar_last_of g.steps x in
        ap₂ (λ (m n : ℕ). in_last m n s.inside)
        (opens_is g.steps s.last (step_of g h) ∙ ap (λ (n : ℕ). fresh n (bar_of g h)) bar ∙ ap (λ (b : Bool). cond b 0 1) t)
        (ap (λ (n : ℕ). fresh n (step_of g h)) e ∙ ap (λ (b : Bool). cond b 0 1) u)
        ∙ ap (in_last (cond a 0 1) (cond c 0 1)) f ∙ last a
      where
        last : (a : Bool) → in_last (cond a 0 1) (cond c 0 1) v ≡ cond a (v + cond c 0 1) (cond c 0 1)
        last true = refl
        last false = refl

    settle_count : (s : One) (x v : ℕ) (hs : List Hit) → s.last ≡ x + 1 → s.inside ≡ v → Grows x (map (step_of g) hs)
        → settle g (counts_kind g) s v hs
        ≡ (v + steps_in (steps_after x hs) (x / g.steps)) ∷ map (steps_in (steps_after x hs)) (bars_after (x / g.steps) hs)
    unfolding kept
    settle_count s x v [] e f up = ap (λ (n : ℕ). n ∷ []) (omega arith)
    settle_count s x v (h ∷ hs) e f (at, up) =
        step (settle g (counts_kind g) (one g s h) (one g s h).inside hs) (eqb (bar_last g.steps s.last) (bar_of g h + 1))
        (eqb (x / g.steps + 1) (bar_of g h + 1)) (eqb (x + 1) (step_of g h + 1))
        (eqb (x / g.steps + 1) (bar_of g h + 1)) (eqb (x + 1) (step_of g h + 1))
        (ap (λ (n : ℕ). eqb n (bar_of g h + 1)) (ap (bar_last g.steps) e ∙ bar_last_of g.steps x)) refl refl refl refl
        (settle_count (one g s h) (step_of g h) (one g s h).inside hs refl refl up)
      where
        step : (later : List ℕ) (p q k a c : Bool) → p ≡ a → q ≡ a → k ≡ c
            → eqb (x / g.steps + 1) (bar_of g h + 1) ≡ q → eqb (x + 1) (step_of g h + 1) ≡ k
            → let r = steps_after (step_of g h) hs in
            later ≡ ((one g s h).inside + steps_in r (bar_of g h)) ∷ map (steps_in r) (bars_after (bar_of g h) hs)
            → let r' = cond k (steps_after x hs) (step_of g h ∷ r) in
            cond p later (v ∷ later)
            ≡ (v + steps_in r' (x / g.steps))
            ∷ map (steps_in r') (cond q (bars_after (x / g.steps) hs) (bar_of g h ∷ bars_after (bar_of g h) hs))
        step later p q k true true i j m t u ih =
            let is : step_of g h ≡ x = omega (arith, eqb-true (x + 1) (step_of g h + 1) (u ∙ m)) in
            let w : (one g s h).inside ≡ v = inside_is s h x v true true e f (t ∙ j) (u ∙ m) ∙ omega arith in
            let r = steps_after (step_of g h) hs in
            rw (i, j, m) (ih
            ∙ ap (λ (n : ℕ). (n + steps_in r (bar_of g h)) ∷ map (steps_in r) (bars_after (bar_of g h) hs)) w
            ∙ ap (λ (n : ℕ).
            (v + steps_in (steps_after n hs) (n / g.steps)) ∷ map (steps_in (steps_after n hs)) (bars_after (n / g.steps) hs)) is)
        step later p q k true false i j m t u ih =
            let is : bar_of g h ≡ x / g.steps = omega (arith, eqb-true (x / g.steps + 1) (bar_of g h + 1) (t ∙ j)) in
            let w : (one g s h).inside ≡ v + 1 = inside_is s h x v true false e f (t ∙ j) (u ∙ m) in
            let r = steps_after (step_of g h) hs in
            let first : (one g s h).inside + steps_in r (bar_of g h) ≡ v + steps_in (step_of g h ∷ r) (bar_of g h) =
            omega (arith, in_here (step_of g h) r (bar_of g h) refl, w) in
            rw (i, j, m) (ih
            ∙ ap₂ ◌∷◌ (first ∙ ap (λ (n : ℕ). v + steps_in (step_of g h ∷ r) n) is)
            (sym (in_later h hs r up) ∙ ap (λ (n : ℕ). map (steps_in (step_of g h ∷ r)) (bars_after n hs)) is))
        step later p q k false true i j m t u ih =
            let is : step_of g h ≡ x = omega (arith, eqb-true (x + 1) (step_of g h + 1) (u ∙ m)) in
            let same_bar : bar_of g h ≡ x / g.steps = ap (λ (n : ℕ). n / g.steps) is in
            absurd (eqb-false (x / g.steps + 1) (bar_of g h + 1) (t ∙ j) (omega arith))
        step later p q k false false i j m t u ih =
            let apart : x / g.steps + 1 ≡ bar_of g h + 1 → ⊥ = eqb-false (x / g.steps + 1) (bar_of g h + 1) (t ∙ j) in
            let below : x / g.steps < bar_of g h = omega (arith, apart, div_up x (step_of g h) g.steps a_step at) in
            let w : (one g s h).inside ≡ 1 = inside_is s h x v false false e f (t ∙ j) (u ∙ m) in
            let r = steps_after (step_of g h) hs in
            let none = in_none (x / g.steps) (step_of g h) (map (step_of g) hs) below up in
            let head : v ≡ v + steps_in (step_of g h ∷ r) (x / g.steps) =
            omega (arith, in_there (step_of g h) r (x / g.steps) (λ e. omega arith), none) in
            let next : (one g s h).inside + steps_in r (bar_of g h) ≡ steps_in (step_of g h ∷ r) (bar_of g h) =
            omega (arith, in_here (step_of g h) r (bar_of g h) refl, w) in
            rw m (rw (i, j) (ap₂ ◌∷◌ head (ih ∙ ap₂ ◌∷◌ next (sym (in_later h hs r up)))))

    pub settled_count : (s : One) (hs : List Hit) → s.last ≡ 0 → Grows 0 (map (step_of g) hs)
        → settled g (counts_kind g) s hs ≡ map (steps_in (runs 0 (map (step_of g) hs))) (runs 0 (map (bar_of g) hs))
    settled_count s [] e up = refl
    settled_count s (h ∷ hs) e (at, up) =
        let new : eqb 0 (step_of g h + 1) ≡ false = ne_eqb 0 (step_of g h + 1) (λ e. omega arith) in
        let other : eqb 0 (bar_of g h + 1) ≡ false = ne_eqb 0 (bar_of g h + 1) (λ e. omega arith) in
        let r = steps_after (step_of g h) hs in
        let w : (one g s h).inside ≡ 1 =
        ap₂ (λ (m n : ℕ). in_last m n s.inside) (ap (λ (n : ℕ). opens n (step_of g h) g.steps) e)
        (ap (λ (n : ℕ). fresh n (step_of g h)) e ∙ ap (λ (b : Bool). cond b 0 1) new) in
        let next : (one g s h).inside + steps_in r (bar_of g h) ≡ steps_in (step_of g h ∷ r) (bar_of g h) =
        omega (arith, in_here (step_of g h) r (bar_of g h) refl, w) in
        rw (new, other)
        (settle_count (one g s h) (step_of g h) (one g s h).inside hs refl refl up ∙ ap₂ ◌∷◌ next (sym (in_later h hs r up)))
