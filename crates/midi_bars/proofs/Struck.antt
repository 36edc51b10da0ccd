-- The lists' sounds, bars and positions are those of the hits.
-- Assumes nothing.
use mathlib.Core.Path.{◌≡◌, refl, sym, ap, ◌∙◌}
use mathlib.Core.Bool.{Bool, true, false, cond}
use mathlib.Core.List.{List, [], ◌∷◌, map}
use mathlib.Core.Logic.{inl, inr, ◌↔◌}
use Prim.Native.Nat.{ℕ, suc, ◌≤◌, ◌<◌}
use native.Mathlib.Nat.{mod-lt}
use native.Mathlib.Omega.{arith}
use lib.Dec.{eqb, ltb}
use borrow.Author.Tests.{eqb-true, eq-eqb, ltb-true, ltb-false}
use Rattle.common.proofs.Loops.{and_left, and_right}
use Rattle.common.specs.Elements.{◌∈◌, Rising}
use Rattle.segment.specs.Records.{Document, Term, Posting}
use Rattle.segment.specs.Metadata.{document}
use Rattle.common.proofs.Elements.{map_from}
use Rattle.common.specs.Members.{some_of}
use Rattle.common.proofs.Membership.{some_gives, some_from, kept_gives, kept_from, map_gives}
use Rattle.midi_read.specs.declared.track.Hit.{Hit}
use Rattle.midi_read.specs.Files.{Grid, bar_of, position_of, step_of}
use Rattle.midi_bars.specs.Bars.{rising_from, name_of, of_sound, in_bar, on_position, bar_count}
use Rattle.midi_bars.specs.Bars.{sounds_of, bars_of, positions_of, posting_of, term_of, given_of, lists_of}
use Rattle.midi_bars.specs.Claims.{Struck, Listed, HitsHeld, StandsFor}
use Rattle.calls.proofs.Unflat.{given_back}
use Rattle.midi_bars.proofs.Ranges.{range_gives, range_from, kept_rising}
use Rattle.midi_bars.proofs.Named.{name_one}

pub stands_for : StandsFor
unfolding lists_of
stands_for g hs = given_back (given_of g hs)

-- ---- tests

module _ (g : Grid) where
  in_bar_true : (n b : ℕ) (h : Hit) → h.note ≡ n → bar_of g h ≡ b → in_bar g n b h ≡ true
  in_bar_true n b h e f = rw (eq-eqb h.note n e, eq-eqb (bar_of g h) b f)

  pub on_true : (n b p : ℕ) (h : Hit) → h.note ≡ n → bar_of g h ≡ b → position_of g h ≡ p → on_position g n b p h ≡ true
  on_true n b p h e f k = rw (eq-eqb h.note n e, eq-eqb (bar_of g h) b f, eq-eqb (position_of g h) p k)

  pub bar_gives : (n b : ℕ) (h : Hit) → in_bar g n b h ≡ true → (h.note ≡ n) × (bar_of g h ≡ b)
  bar_gives n b h t =
      (eqb-true _ _ (and_left (of_sound n h) (eqb (bar_of g h) b) t), eqb-true _ _ (and_right (of_sound n h) (eqb (bar_of g h) b) t))

  pub on_gives : (n b p : ℕ) (h : Hit) → on_position g n b p h ≡ true → (h.note ≡ n) × (bar_of g h ≡ b) × (position_of g h ≡ p)
  on_gives n b p h t =
      let (e, f) = bar_gives n b h (and_left (in_bar g n b h) (eqb (position_of g h) p) t) in
      (e, f, eqb-true _ _ (and_right (in_bar g n b h) (eqb (position_of g h) p) t))

  -- ---- bars

  pub bar_below : (hs : List Hit) (h : Hit) → h ∈ hs → bar_of g h < bar_count g hs
  unfolding bar_count
  bar_below [] h m = absurd m
  bar_below (k ∷ hs) h (inl e) = step (ltb (suc (bar_of g k)) (bar_count g hs)) refl
    where
      is : bar_of g h ≡ bar_of g k
      is = ap (bar_of g) e

      step : (b : Bool) → ltb (suc (bar_of g k)) (bar_count g hs) ≡ b → bar_of g h < cond b (bar_count g hs) (suc (bar_of g k))
      step true t = omega (arith, is, ltb-true (suc (bar_of g k)) (bar_count g hs) t)
      step false t = omega (arith, is)
  bar_below (k ∷ hs) h (inr m) = step (ltb (suc (bar_of g k)) (bar_count g hs)) refl (bar_below hs h m)
    where
      step : (b : Bool) → ltb (suc (bar_of g k)) (bar_count g hs) ≡ b → bar_of g h < bar_count g hs
          → bar_of g h < cond b (bar_count g hs) (suc (bar_of g k))
      step true t ih = ih
      step false t ih = omega (arith, ltb-false (suc (bar_of g k)) (bar_count g hs) t)

  pub bar_some : (hs : List Hit) (b : ℕ) → b < bar_count g hs → (h : Hit) × (h ∈ hs) × (b ≤ bar_of g h)
  unfolding bar_count
  bar_some [] b l = absurd (omega arith)
  bar_some (k ∷ hs) b l = step (ltb (suc (bar_of g k)) (bar_count g hs)) l (bar_some hs b)
    where
      step : (t : Bool) → b < cond t (bar_count g hs) (suc (bar_of g k)) → (b < bar_count g hs → (h : Hit) × (h ∈ hs) × (b ≤ bar_of g h))
          → (h : Hit) × (h ∈ (k ∷ hs)) × (b ≤ bar_of g h)
      step true l ih = let (h, m, le) = ih l in (h, inr m, le)
      step false l ih = (k, inl refl, omega arith)

-- ---- members

module _ (g : Grid) (hs : List Hit) where
  pub sounds_gives : (n : ℕ) → n ∈ sounds_of g hs → n < 128
  unfolding sounds_of
  sounds_gives n m = omega (arith, range_gives 0 128 n (kept_gives _ _ n m).0)

  pub position_gives : (n b p : ℕ) → p ∈ positions_of g hs n b → Struck g hs n b p
  unfolding positions_of
  position_gives n b p m =
      let (h, there, t) = some_gives (on_position g n b p) hs (kept_gives _ (rising_from 0 g.steps) p m).1 in
      let (e, f, k) = on_gives g n b p h t in
      record { hit = h; there = there; sound = e; in_bar = f; on = k }

  pub position_below : (n b p : ℕ) → p ∈ positions_of g hs n b → p < g.steps
  unfolding positions_of
  position_below n b p m = omega (arith, range_gives 0 g.steps p (kept_gives _ _ p m).0)

  pub positions_rise : (n b : ℕ) → Rising (positions_of g hs n b)
  unfolding positions_of
  positions_rise n b = kept_rising _ 0 g.steps

  pub bars_rise : (n : ℕ) → Rising (bars_of g hs n)
  unfolding bars_of
  bars_rise n = kept_rising _ 0 (bar_count g hs)

  pub bar_struck : (n b : ℕ) → b ∈ bars_of g hs n → (p : ℕ) × Struck g hs n b p
  unfolding bars_of
  bar_struck n b m =
      let (h, there, t) = some_gives (in_bar g n b) hs (kept_gives _ (rising_from 0 (bar_count g hs)) b m).1 in
      let (e, f) = bar_gives g n b h t in
      (position_of g h, record { hit = h; there = there; sound = e; in_bar = f; on = refl })

  module _ (a_step : 1 ≤ g.steps) (n b p : ℕ) (s : Struck g hs n b p) where
    pub position_from : p ∈ positions_of g hs n b
    unfolding positions_of
    position_from =
        kept_from (λ p. some_of (on_position g n b p) hs) (rising_from 0 g.steps) p
        (range_from 0 g.steps p (omega arith) (omega (arith, mod-lt (step_of g s.hit) a_step, s.on)))
        (some_from (on_position g n b p) hs s.hit s.there (on_true g n b p s.hit s.sound s.in_bar s.on))

    pub bar_from : b ∈ bars_of g hs n
    unfolding bars_of
    bar_from =
        kept_from (λ b. some_of (in_bar g n b) hs) (rising_from 0 (bar_count g hs)) b
        (range_from 0 (bar_count g hs) b (omega arith) (omega (arith, bar_below g hs s.hit s.there, s.in_bar)))
        (some_from (in_bar g n b) hs s.hit s.there (in_bar_true g n b s.hit s.sound s.in_bar))

    pub sound_from : n < 128 → n ∈ sounds_of g hs
    unfolding sounds_of
    sound_from h =
        kept_from (λ n. some_of (of_sound n) hs) (rising_from 0 128) n (range_from 0 128 n (omega arith) (omega arith))
        (some_from (of_sound n) hs s.hit s.there (eq-eqb _ _ s.sound))

-- ---- the lists

module _ (g : Grid) (hs : List Hit) where
  listed_from : 1 ≤ g.steps → (n b p : ℕ) → n < 128 → Struck g hs n b p → Listed (given_of g hs) (name_of n) b p
  unfolding given_of
  listed_from a n b p h s = record {
    term = term_of g hs n;
    posting = posting_of g hs n b;
    handed_in = map_from (term_of g hs) (sounds_of g hs) n (sound_from g hs a n b p s h);
    named = refl;
    under = map_from (posting_of g hs n) (bars_of g hs n) b (bar_from g hs a n b p s);
    of = refl;
    on = position_from g hs a n b p s;
  }

  listed_gives : (name : List ℕ) (b p : ℕ) → Listed (given_of g hs) name b p
      → (n : ℕ) × (n < 128) × (name ≡ name_of n) × Struck g hs n b p
  unfolding given_of
  listed_gives name b p l =
      let (n, among, is) = map_gives (term_of g hs) (sounds_of g hs) l.term l.handed_in in
      let under : l.posting ∈ map (posting_of g hs n) (bars_of g hs n) = rw is at l.under in
      let (b', _, is') = map_gives (posting_of g hs n) (bars_of g hs n) l.posting under in
      let same_bar : b' ≡ b = sym (ap (λ (q : Posting). q.doc) is') ∙ l.of in
      let on : p ∈ positions_of g hs n b' = rw is' at l.on in (
        n,
        sounds_gives g hs n among,
        sym l.named ∙ ap (λ (t : Term). t.name) is,
        rw same_bar at (position_gives g hs n b' p on),
      )

  -- one name, one note
  listed_of : (n b p : ℕ) → Listed (given_of g hs) (name_of n) b p → Struck g hs n b p
  listed_of n b p l =
      let (m, _, e, s) = listed_gives (name_of n) b p l in
      let is : m ≡ n = sym (name_one n m e) in
      rw is at s

  bars_are : (b : ℕ) → (b ∈ map (λ d. d.id) (given_of g hs).documents) ↔ ((h : Hit) × (h ∈ hs) × (b ≤ bar_of g h))
  unfolding given_of
  bars_are b = (to, from)
    where
      to : b ∈ map (λ d. d.id) (given_of g hs).documents → (h : Hit) × (h ∈ hs) × (b ≤ bar_of g h)
      to m =
          let (d, k, e) = map_gives (λ (d : Document). d.id) (given_of g hs).documents b m in
          let (b', j, f) = map_gives (λ b. document b g.steps) (rising_from 0 (bar_count g hs)) d k in
          let is : b ≡ b' = e ∙ ap (λ (d : Document). d.id) f in
          bar_some g hs b (omega (arith, range_gives 0 (bar_count g hs) b' j))

      from : (h : Hit) × (h ∈ hs) × (b ≤ bar_of g h) → b ∈ map (λ d. d.id) (given_of g hs).documents
      from (h, m, l) =
          map_from (λ (d : Document). d.id) (given_of g hs).documents _
          (map_from _ (rising_from 0 (bar_count g hs)) b
          (range_from 0 (bar_count g hs) b (omega arith) (omega (arith, bar_below g hs h m))))

pub hits_held : HitsHeld
hits_held g hs fine = record {
  kept = λ n b p h. rw (stands_for g hs) (listed_from g hs fine.a_step n b p h, listed_of g hs n b p);
  only = λ name b p l. listed_gives g hs name b p (rw (stands_for g hs) at l);
  bars = λ b. rw (stands_for g hs) (bars_are g hs b);
}
