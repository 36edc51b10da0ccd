-- One sound's velocities: what stays stored for a step is the greatest velocity of the hits on it.
-- Assumes nothing.
use mathlib.Core.Path.{◌≡◌, refl, sym, ap, ap₂, ◌∙◌}
use mathlib.Core.Bool.{Bool, true, false, cond, ◌&&◌}
use mathlib.Core.List.{List, [], ◌∷◌, map, map-map}
use mathlib.Core.Logic.{inl, inr}
use Prim.Native.Nat.{ℕ, ◌+◌, ◌*◌, ◌≤◌, ◌<◌}
use native.Mathlib.Omega.{arith}
use lib.Dec.{eqb}
use borrow.Author.Tests.{eqb-true, eqb-false, eq-eqb, ne_eqb}
use Rattle.common.specs.Elements.{◌∈◌}
use Rattle.common.specs.Members.{kept}
use Rattle.common.specs.Lists.{joined}
use Rattle.common.proofs.Kept.{kept_none, kept_same, map_same}
use Rattle.midi_read.specs.declared.track.Hit.{Hit}
use Rattle.midi_read.specs.Files.{Grid, step_of, bar_of, position_of}
use Rattle.midi_bars.specs.Bars.{greater, of_sound, on_position, positions_of}
use Rattle.midi_bars.specs.Loudness.{greatest, loudest}
use Rattle.midi_bars.proofs.Nested.{map_joined}
use Rattle.midi_bars.proofs.Struck.{position_below}
use Rattle.midi_bars.proofs.Words.{step_is, parted}
use Rattle.midi_bars.proofs.Loud.{greater_sum}
use Rattle.midi_count.specs.Tallies.{fresh}
use Rattle.midi_count.proofs.Runs.{runs, Grows, runs_above}
use Rattle.midi_count.proofs.Sounding.{steps_of}
use Rattle.midi_fill.specs.Stores.{loud_last}
use Rattle.midi_fill.proofs.Scattered.{One, one, kept_yes, kept_not}
use Rattle.midi_fill.proofs.Settled.{settle, settled}
use Rattle.midi_fill.proofs.Valued.{loud_kind}

greater_twice : (a b c : ℕ) → greater (greater a b) c ≡ greater a (greater b c)
greater_twice a b c =
    rw (greater_sum (greater a b) c, greater_sum a (greater b c), greater_sum a b, greater_sum b c) (omega arith)

greater_none : (a : ℕ) → greater a 0 ≡ a
greater_none a = greater_sum a 0 ∙ omega arith

module _ (g : Grid) where
  -- of these hits, the loudest on a step
  abbrev pub loud_on : List Hit → ℕ → ℕ
  loud_on hs x = greatest (map (λ h. h.velocity) (kept (λ h. eqb (step_of g h) x) hs))

  abbrev later : ℕ → List Hit → List ℕ
  later x hs = runs (x + 1) (map (step_of g) hs)

  on_here : (h : Hit) (hs : List Hit) (x : ℕ) → step_of g h ≡ x → loud_on (h ∷ hs) x ≡ greater h.velocity (loud_on hs x)
  unfolding greatest
  on_here h hs x e =
      ap (λ (l : List Hit). greatest (map (λ h. h.velocity) l))
      (kept_yes (λ h. eqb (step_of g h) x) h hs (eq-eqb (step_of g h) x e))

  on_there : (h : Hit) (hs : List Hit) (x : ℕ) → (step_of g h ≡ x → ⊥) → loud_on (h ∷ hs) x ≡ loud_on hs x
  on_there h hs x k =
      ap (λ (l : List Hit). greatest (map (λ h. h.velocity) l))
      (kept_not (λ h. eqb (step_of g h) x) h hs (ne_eqb (step_of g h) x k))

  -- no later hit is on an earlier step
  above : (low : ℕ) (hs : List Hit) → Grows low (map (step_of g) hs) → (h : Hit) → h ∈ hs → low ≤ step_of g h
  above low [] up h m = absurd m
  above low (k ∷ hs) (at, up) h (inl e) = omega (arith, ap (step_of g) e)
  above low (k ∷ hs) (at, up) h (inr m) = omega (arith, above (step_of g k) hs up h m)

  on_none : (x low : ℕ) (hs : List Hit) → x < low → Grows low (map (step_of g) hs) → loud_on hs x ≡ 0
  unfolding greatest
  on_none x low hs l up =
      ap (λ (l : List Hit). greatest (map (λ h. h.velocity) l))
      (kept_none (λ h. eqb (step_of g h) x) hs (λ h m. ne_eqb (step_of g h) x (λ e. omega (arith, above low hs up h m))))

  on_later : (h : Hit) (hs : List Hit) → Grows (step_of g h) (map (step_of g) hs)
      → map (loud_on (h ∷ hs)) (later (step_of g h) hs) ≡ map (loud_on hs) (later (step_of g h) hs)
  on_later h hs up =
      map_same (loud_on (h ∷ hs)) (loud_on hs) (later (step_of g h) hs) (λ x m.
      on_there h hs x (λ e. omega (arith, runs_above (step_of g h + 1) (step_of g h) (map (step_of g) hs) (omega arith) up x m)))

  -- a hit that begins its step
  from_hit : (h : Hit) (hs : List Hit) → Grows (step_of g h) (map (step_of g) hs)
      → greater h.velocity (loud_on hs (step_of g h)) ∷ map (loud_on hs) (later (step_of g h) hs)
      ≡ map (loud_on (h ∷ hs)) (step_of g h ∷ later (step_of g h) hs)
  from_hit h hs up = ap₂ ◌∷◌ (sym (on_here h hs (step_of g h) refl)) (sym (on_later h hs up))

  loud_is : (s : One) (h : Hit) (x v : ℕ) (c : Bool) → s.last ≡ x + 1 → s.loud ≡ v → eqb (x + 1) (step_of g h + 1) ≡ c
      → (one g s h).loud ≡ cond c (greater v h.velocity) h.velocity
  loud_is s h x v c e f u =
      ap₂ (λ (m n : ℕ). loud_last m n h.velocity) (ap (λ (n : ℕ). fresh n (step_of g h)) e ∙ ap (λ (b : Bool). cond b 0 1) u) f ∙ last c
    where
      last : (c : Bool) → loud_last (cond c 0 1) v h.velocity ≡ cond c (greater v h.velocity) h.velocity
      last true = refl
      last false = refl

  settle_loud : (s : One) (x v : ℕ) (hs : List Hit) → s.last ≡ x + 1 → s.loud ≡ v → Grows x (map (step_of g) hs)
      → settle g (loud_kind g) s v hs ≡ greater v (loud_on hs x) ∷ map (loud_on hs) (later x hs)
  unfolding kept greatest
  settle_loud s x v [] e f up = ap (λ (n : ℕ). n ∷ []) (sym (greater_none v))
  settle_loud s x v (h ∷ hs) e f (at, up) =
      step (settle g (loud_kind g) (one g s h) (one g s h).loud hs) (eqb s.last (step_of g h + 1)) (eqb (x + 1) (step_of g h + 1))
      (ap (λ (n : ℕ). eqb n (step_of g h + 1)) e) refl
      (settle_loud (one g s h) (step_of g h) (one g s h).loud hs refl refl up)
    where
      step : (rest : List ℕ) (p c : Bool) → p ≡ c → eqb (x + 1) (step_of g h + 1) ≡ c
          → rest ≡ greater (one g s h).loud (loud_on hs (step_of g h)) ∷ map (loud_on hs) (later (step_of g h) hs)
          → cond p rest (v ∷ rest)
          ≡ greater v (loud_on (h ∷ hs) x) ∷ map (loud_on (h ∷ hs)) (cond c (later x hs) (step_of g h ∷ later (step_of g h) hs))
      step rest p true i u ih =
          let is : step_of g h ≡ x = omega (arith, eqb-true (x + 1) (step_of g h + 1) u) in
          rw i (ih
          ∙ ap (λ (n : ℕ). greater n (loud_on hs (step_of g h)) ∷ map (loud_on hs) (later (step_of g h) hs)) (loud_is s h x v true e f u)
          ∙ ap₂ ◌∷◌ (greater_twice v h.velocity (loud_on hs (step_of g h)) ∙ ap (greater v) (sym (on_here h hs (step_of g h) refl)))
          (sym (on_later h hs up))
          ∙ ap (λ (n : ℕ). greater v (loud_on (h ∷ hs) n) ∷ map (loud_on (h ∷ hs)) (later n hs)) is)
      step rest p false i u ih =
          let apart : x + 1 ≡ step_of g h + 1 → ⊥ = eqb-false (x + 1) (step_of g h + 1) u in
          let below : x < step_of g h = omega (arith, apart) in
          let none = on_there h hs x (λ e. omega arith) ∙ on_none x (step_of g h) hs below up in
          rw i (ap₂ ◌∷◌ (sym (ap (greater v) none ∙ greater_none v)) (ih
          ∙ ap (λ (n : ℕ). greater n (loud_on hs (step_of g h)) ∷ map (loud_on hs) (later (step_of g h) hs)) (loud_is s h x v false e f u)
          ∙ from_hit h hs up))

  pub settled_loud : (s : One) (hs : List Hit) → s.last ≡ 0 → Grows 0 (map (step_of g) hs)
      → settled g (loud_kind g) s hs ≡ map (loud_on hs) (runs 0 (map (step_of g) hs))
  settled_loud s [] e up = refl
  settled_loud s (h ∷ hs) e (at, up) =
      let new : eqb 0 (step_of g h + 1) ≡ false = ne_eqb 0 (step_of g h + 1) (λ e. omega arith) in
      let w : (one g s h).loud ≡ h.velocity =
      ap (λ (n : ℕ). loud_last n s.loud h.velocity)
      (ap (λ (n : ℕ). fresh n (step_of g h)) e ∙ ap (λ (b : Bool). cond b 0 1) new) in
      rw new
      (settle_loud (one g s h) (step_of g h) (one g s h).loud hs refl refl up
      ∙ ap (λ (n : ℕ). greater n (loud_on hs (step_of g h)) ∷ map (loud_on hs) (later (step_of g h) hs)) w ∙ from_hit h hs up)

-- ---- the steps of the definition

kept_twice : {A : Type 0} (f k : A → Bool) (xs : List A) → kept k (kept f xs) ≡ kept (λ x. f x && k x) xs
unfolding kept
kept_twice f k [] = refl
kept_twice f k (x ∷ xs) = step (f x) (kept_twice f k xs)
  where
    step : (b : Bool) → kept k (kept f xs) ≡ kept (λ x. f x && k x) xs
        → kept k (cond b (x ∷ kept f xs) (kept f xs))
        ≡ cond (b && k x) (x ∷ kept (λ x. f x && k x) xs) (kept (λ x. f x && k x) xs)
    step true ih = ap (λ l. cond (k x) (x ∷ l) l) ih
    step false ih = ih

same_test : (s x y z : Bool) → (x ≡ true → (y ≡ true) × (z ≡ true)) → (y ≡ true → z ≡ true → x ≡ true) → (s && x) ≡ ((s && y) && z)
same_test false x y z to from = refl
same_test true true y z to from = let (e, f) = to refl in rw (e, f)
same_test true false true true to from = from refl refl
same_test true false true false to from = refl
same_test true false false z to from = refl

module _ (g : Grid) (n b p : ℕ) (inside : p < g.steps) where
  -- a hit's step tells its bar and its position
  on_step : (h : Hit) → (of_sound n h && eqb (step_of g h) (b * g.steps + p)) ≡ on_position g n b p h
  on_step h = same_test (of_sound n h) (eqb (step_of g h) (b * g.steps + p)) (eqb (bar_of g h) b) (eqb (position_of g h) p) to from
    where
      to : eqb (step_of g h) (b * g.steps + p) ≡ true → (eqb (bar_of g h) b ≡ true) × (eqb (position_of g h) p ≡ true)
      to e =
          let whole : step_of g h ≡ g.steps * b + p = omega (arith, eqb-true (step_of g h) (b * g.steps + p) e) in
          let (bar, on) = parted g.steps (step_of g h) b p inside whole in
          (eq-eqb (bar_of g h) b bar, eq-eqb (position_of g h) p on)

      from : eqb (bar_of g h) b ≡ true → eqb (position_of g h) p ≡ true → eqb (step_of g h) (b * g.steps + p) ≡ true
      from e f =
          let whole = step_is g.steps (step_of g h) b p (eqb-true (bar_of g h) b e) (eqb-true (position_of g h) p f) in
          eq-eqb (step_of g h) (b * g.steps + p) (omega arith)

module _ (g : Grid) (hs : List Hit) (n : ℕ) where
  loudest_is : (b p : ℕ) → p < g.steps → loud_on g (kept (of_sound n) hs) (b * g.steps + p) ≡ loudest g hs n b p
  loudest_is b p inside =
      ap (λ (l : List Hit). greatest (map (λ h. h.velocity) l))
      (kept_twice (of_sound n) (λ h. eqb (step_of g h) (b * g.steps + p)) hs
      ∙ kept_same _ (on_position g n b p) hs (λ h m. on_step g n b p inside h))

  pub own_loudest : (bs : List ℕ)
      → map (loud_on g (kept (of_sound n) hs)) (joined (map (steps_of g hs n) bs))
      ≡ joined (map (λ b. map (loudest g hs n b) (positions_of g hs n b)) bs)
  own_loudest bs =
      let own = loud_on g (kept (of_sound n) hs) in
      map_joined own (steps_of g hs n) bs
      ∙ ap joined (map_same _ (λ b. map (loudest g hs n b) (positions_of g hs n b)) bs (λ b m.
      map-map own (λ p. b * g.steps + p) (positions_of g hs n b)
      ∙ map_same _ (loudest g hs n b) (positions_of g hs n b) (λ p k. loudest_is b p (position_below g hs n b p k))))
