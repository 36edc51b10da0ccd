-- The rules for hits as tests are the rules in words: the order of two hits, and a bar's hits.
-- Assumes nothing.
use Rattle.std.specs.Prelude.{None, Option, Some}
use mathlib.Core.Path.{◌≡◌, refl}
use mathlib.Core.Bool.{true, ◌&&◌}
use mathlib.Core.List.{List, [], ◌∷◌}
use mathlib.Core.Logic.{inl, inr, ⊎_elim}
use Prim.Native.Nat.{ℕ, ◌≤◌, ◌<◌}
use lib.Dec.{eqb, ltb, leb}
use borrow.Author.Tests.{ltb-true, leb-true, eqb-true, lt-ltb, le-leb, eq-eqb}
use Rattle.common.specs.Elements.{◌∈◌}
use Rattle.common.proofs.Elements.{each}
use Rattle.common.proofs.Loops.{and_left, and_right}
use Rattle.common.proofs.Membership.{or_cases, or_right}
use Rattle.pad_map.specs.declared.Key.{Key}
use Rattle.pad_map.specs.Bars.{Hit, key_of, with_velocity}
use Rattle.pad_map.specs.Rules.{ComesBefore, HitsRising, VelocityFits, before, comes_after, velocity_fits, hit_fine, hits_fine}
use Rattle.pad_map.specs.Claims.{OrderExactly, FineExactly}

-- ---- the order of two hits

order_gives : (a b : Hit) → before (key_of a) (key_of b) ≡ true → ComesBefore a b
unfolding before
order_gives a b t =
    let lower = ltb a.sound b.sound in
    let same = eqb a.sound b.sound in
    let earlier = ltb a.step b.step in
    ⊎_elim
    (λ t. inl (ltb-true a.sound b.sound t))
    (λ t. inr (eqb-true a.sound b.sound (and_left same earlier t), ltb-true a.step b.step (and_right same earlier t)))
    (or_cases lower (same && earlier) t)

order_from : (a b : Hit) → ComesBefore a b → before (key_of a) (key_of b) ≡ true
unfolding before
order_from a b (inl h) = rw (lt-ltb a.sound b.sound h)
order_from a b (inr h) =
    or_right (ltb a.sound b.sound) _ (rw (eq-eqb a.sound b.sound h.0, lt-ltb a.step b.step h.1))

pub order_exactly : OrderExactly
order_exactly a b = (order_gives a b, order_from a b)

-- ---- hits that rise after what stood before them, whose velocity does not matter

abbrev pub HitsAfter : Option Key → List Hit → Type 0
HitsAfter None hs = HitsRising hs
HitsAfter (Some k) hs = HitsRising (with_velocity k 0 ∷ hs)

after_none : (previous : Option Key) → HitsAfter previous []
after_none None = tt
after_none (Some k) = tt

headed : (h : Hit) (hs : List Hit) → HitsAfter (Some (key_of h)) hs → HitsRising (h ∷ hs)
headed h [] r = tt
headed h (k ∷ ks) r = r

behind : (h : Hit) (hs : List Hit) → HitsRising (h ∷ hs) → HitsAfter (Some (key_of h)) hs
behind h [] r = tt
behind h (k ∷ ks) r = r

after_cons : (previous : Option Key) (h : Hit) (hs : List Hit) → comes_after previous (key_of h) ≡ true → HitsAfter (Some (key_of h)) hs
    → HitsAfter previous (h ∷ hs)
after_cons None h hs t r = headed h hs r
after_cons (Some k) h hs t r = (order_gives (with_velocity k 0) h t, headed h hs r)

after_head : (previous : Option Key) (h : Hit) (hs : List Hit) → HitsAfter previous (h ∷ hs) → comes_after previous (key_of h) ≡ true
after_head None h hs r = refl
after_head (Some k) h hs r = order_from (with_velocity k 0) h r.0

after_tail : (previous : Option Key) (h : Hit) (hs : List Hit) → HitsAfter previous (h ∷ hs) → HitsAfter (Some (key_of h)) hs
after_tail None h hs r = behind h hs r
after_tail (Some k) h hs r = behind h hs r.1

-- ---- a velocity

pub fits_gives : (v : ℕ) → velocity_fits v ≡ true → VelocityFits v
fits_gives v t = (leb-true 1 v (and_left (leb 1 v) (leb v 127) t), leb-true v 127 (and_right (leb 1 v) (leb v 127) t))

pub fits_from : (v : ℕ) → VelocityFits v → velocity_fits v ≡ true
fits_from v (some_loud, low) = rw (le-leb 1 v some_loud, le-leb v 127 low)

-- ---- a bar's hits

-- within the rules behind a hit before them
pub record FineAfter (len : ℕ) (previous : Option Key) (hits : List Hit) : Type 0 where
  pub sounds : (h : Hit) → h ∈ hits → h.sound ≤ 127
  pub velocities : (h : Hit) → h ∈ hits → VelocityFits h.velocity
  pub rising : HitsAfter previous hits
  pub steps : (h : Hit) → h ∈ hits → h.step < len

module _ (len : ℕ) where
  pub fine_gives : (previous : Option Key) (hits : List Hit) → hits_fine len previous hits ≡ true → FineAfter len previous hits
  unfolding hits_fine hit_fine
  fine_gives previous [] t =
      record { sounds = λ h m. absurd m; velocities = λ h m. absurd m; rising = after_none previous; steps = λ h m. absurd m }
  fine_gives previous (h ∷ hs) t =
      let k = key_of h in
      let here = and_left (hit_fine len previous h) (hits_fine len (Some k) hs) t in
      let later = fine_gives (Some k) hs (and_right (hit_fine len previous h) (hits_fine len (Some k) hs) t) in
      let low = leb-true h.sound 127 (and_left (leb h.sound 127) _ here) in
      let audible = and_right (leb h.sound 127) (velocity_fits h.velocity && (comes_after previous k && ltb h.step len)) here in
      let others = and_right (velocity_fits h.velocity) (comes_after previous k && ltb h.step len) audible in
      record {
        sounds = each (λ (k : Hit). k.sound ≤ 127) h hs low later.sounds;
        velocities =
            each (λ (k : Hit). VelocityFits k.velocity) h hs
            (fits_gives h.velocity (and_left (velocity_fits h.velocity) _ audible)) later.velocities;
        rising = after_cons previous h hs (and_left (comes_after previous k) (ltb h.step len) others) later.rising;
        steps =
            each (λ (k : Hit). k.step < len) h hs
            (ltb-true h.step len (and_right (comes_after previous k) (ltb h.step len) others)) later.steps;
      }

  pub fine_from : (previous : Option Key) (hits : List Hit) → FineAfter len previous hits → hits_fine len previous hits ≡ true
  unfolding hits_fine hit_fine
  fine_from previous [] f = refl
  fine_from previous (h ∷ hs) f =
      let later = fine_from (Some (key_of h)) hs (record {
        sounds = λ k m. f.sounds k (inr m);
        velocities = λ k m. f.velocities k (inr m);
        rising = after_tail previous h hs f.rising;
        steps = λ k m. f.steps k (inr m);
      }) in
      let (some_loud, not_above) = f.velocities h (inl refl) in
      rw (
        le-leb h.sound 127 (f.sounds h (inl refl)),
        le-leb 1 h.velocity some_loud,
        le-leb h.velocity 127 not_above,
        after_head previous h hs f.rising,
        lt-ltb h.step len (f.steps h (inl refl)),
      )
      later

pub fine_exactly : FineExactly
fine_exactly len hits = (
  λ t.
      let f = fine_gives len None hits t in
      record { sounds = f.sounds; velocities = f.velocities; rising = f.rising; steps = f.steps },
  λ f. fine_from len None hits (record { sounds = f.sounds; velocities = f.velocities; rising = f.rising; steps = f.steps }),
)
