-- The filling pass comes to the lists: posting ids, position counts, positions and velocities.
-- Assumes nothing.
use mathlib.Core.Path.{◌≡◌, refl, sym, ap, ap₂, subst, ◌∙◌}
use mathlib.Core.Bool.{Bool, true, false, cond}
use mathlib.Core.List.{List, [], ◌∷◌, ◌++◌, map, map-append, map-map}
use Prim.Native.Nat.{ℕ, ◌+◌, ◌*◌, ◌/◌, ◌%◌, ◌≤◌, ◌<◌}
use native.Mathlib.Omega.{arith}
use lib.Dec.{eqb}
use lib.ListN.{length, get_or, length-set, length-map}
use borrow.Author.Tests.{eqb-true, eq-eqb}
use Rattle.common.proofs.Loops.{true_false, and_left}
use Rattle.common.specs.Elements.{◌∈◌, Rising}
use Rattle.segment.specs.Records.{Posting, Term}
use Rattle.common.specs.Members.{some_of, kept}
use Rattle.common.proofs.Membership.{some_gives, some_from, kept_gives, kept_from}
use Rattle.common.proofs.Kept.{kept_none, map_same}
use Rattle.common.proofs.Rising.{kept_rises, rising_unique}
use Rattle.calls.specs.Given.{laid_flat}
use Rattle.common.specs.Lists.{total, joined}
use Rattle.midi_read.specs.declared.track.Hit.{Hit}
use Rattle.midi_read.specs.Files.{Grid, step_of, bar_of, position_of}
use Rattle.midi_read.specs.Claims.{NeverFall}
use Rattle.midi_read.specs.Walks.{over}
use Rattle.midi_bars.specs.Bars.{rising_from, of_sound, in_bar, bar_count}
use Rattle.midi_bars.specs.Bars.{sounds_of, bars_of, positions_of, posting_of, term_of, given_of, lists_of}
use Rattle.midi_bars.specs.Loudness.{loudest, velocities_of}
use Rattle.midi_bars.specs.Claims.{HitsFine}
use Rattle.midi_count.specs.Tallies.{Tallies, tally, starts_from}
use Rattle.midi_count.specs.Promise.{zeros, tallies}
use Rattle.midi_count.specs.Claims.{counted, CountsRight}
use Rattle.midi_fill.specs.Stores.{Buffers, buffers, put}
use Rattle.midi_fill.specs.Claims.{FillingRight}
use Rattle.calls.proofs.Unflat.{total_joined}
use Rattle.midi_bars.proofs.Nested.{map_joined, joined_twice, parts_give, parts_from}
use Rattle.midi_bars.proofs.Struck.{positions_rise, bars_rise}
use Rattle.midi_bars.proofs.Loud.{velocities_many}
use Rattle.midi_count.proofs.Tallying.{zeros_at}
use Rattle.midi_count.proofs.Runs.{runs, Grows, shifted_rise, parts_rise}
use Rattle.midi_count.proofs.Sounding.{bar_last, zeros_length, counting_right}
use Rattle.midi_count.proofs.Sounding.{bars_run, steps_run, steps_length, steps_grow, steps_of, step_on, step_in}
use Rattle.midi_fill.proofs.Scattered.{tables, Long}
use Rattle.midi_fill.proofs.Settled.{settled_keyed}
use Rattle.midi_fill.proofs.Valued.{by_bar, by_step, counts_kind, loud_kind, steps_in, settled_count}
use Rattle.midi_fill.proofs.Loudest.{loud_on, settled_loud, own_loudest}
use Rattle.midi_fill.proofs.Joining.{total_of, filled}

-- ---- lists of lists

joined_kept : {A B : Type 0} (t : A → Bool) (f : A → List B) → ((x : A) → t x ≡ false → f x ≡ []) → (xs : List A)
    → joined (map f (kept t xs)) ≡ joined (map f xs)
unfolding kept
joined_kept t f none [] = refl
joined_kept t f none (x ∷ xs) = step (t x) refl (joined_kept t f none xs)
  where
    step : (b : Bool) → t x ≡ b → joined (map f (kept t xs)) ≡ joined (map f xs)
        → joined (map f (cond b (x ∷ kept t xs) (kept t xs))) ≡ f x ++ joined (map f xs)
    step true e ih = ap (λ l. f x ++ l) ih
    step false e ih = ih ∙ sym (ap (λ l. l ++ joined (map f xs)) (none x e))

-- ---- the lists of the definition, by sounds

module _ (g : Grid) (hs : List Hit) where
  some_false : (f : Hit → Bool) → ((h : Hit) → h ∈ hs → f h ≡ true → ⊥) → some_of f hs ≡ false
  some_false f no_one = step (some_of f hs) refl
    where
      step : (b : Bool) → some_of f hs ≡ b → b ≡ false
      step true e = let (h, m, t) = some_gives f hs e in absurd (no_one h m t)
      step false e = refl

  no_bars : (n : ℕ) → some_of (of_sound n) hs ≡ false → bars_of g hs n ≡ []
  unfolding bars_of
  no_bars n silent =
      kept_none (λ b. some_of (in_bar g n b) hs) (rising_from 0 (bar_count g hs)) (λ b m.
      some_false (in_bar g n b) (λ h k t.
      true_false (sym (some_from (of_sound n) hs h k (and_left (of_sound n h) (eqb (bar_of g h) b) t)) ∙ silent)))

  -- over all notes instead of those that sound
  by_sounds : {A : Type 0} (f : ℕ → List ℕ → List A) → ((n : ℕ) → f n [] ≡ [])
      → joined (map (λ n. f n (bars_of g hs n)) (sounds_of g hs)) ≡ joined (map (λ n. f n (bars_of g hs n)) (rising_from 0 128))
  unfolding sounds_of
  by_sounds f none =
      joined_kept (λ n. some_of (of_sound n) hs) (λ n. f n (bars_of g hs n)) (λ n e. ap (f n) (no_bars n e) ∙ none n) (rising_from 0 128)

  postings_by : {A : Type 0} (f : Posting → A) (ns : List ℕ)
      → map f (joined (map (λ (t : Term). t.postings) (map (term_of g hs) ns)))
      ≡ joined (map (λ n. map (λ b. f (posting_of g hs n b)) (bars_of g hs n)) ns)
  postings_by f [] = refl
  postings_by f (n ∷ ns) =
      map-append f (map (posting_of g hs n) (bars_of g hs n)) (joined (map (λ (t : Term). t.postings) (map (term_of g hs) ns)))
      ∙ ap₂ ◌++◌ (map-map f (posting_of g hs n) (bars_of g hs n)) (postings_by f ns)

  pub ids_by : (lists_of g hs).posting_ids ≡ joined (map (λ n. map (λ b. b) (bars_of g hs n)) (rising_from 0 128))
  unfolding lists_of laid_flat given_of
  ids_by = postings_by (λ p. p.doc) (sounds_of g hs) ∙ by_sounds (λ n bs. map (λ b. b) bs) (λ n. refl)

  pub counts_are : (lists_of g hs).position_counts
      ≡ joined (map (λ n. map (λ b. length (positions_of g hs n b)) (bars_of g hs n)) (rising_from 0 128))
  unfolding lists_of laid_flat given_of
  counts_are =
      postings_by (λ p. length p.positions) (sounds_of g hs)
      ∙ by_sounds (λ n bs. map (λ b. length (positions_of g hs n b)) bs) (λ n. refl)

  pub positions_by : (lists_of g hs).positions
      ≡ joined (map (λ n. joined (map (positions_of g hs n) (bars_of g hs n))) (rising_from 0 128))
  unfolding lists_of laid_flat given_of
  positions_by =
      ap joined (postings_by (λ p. p.positions) (sounds_of g hs))
      ∙ joined_twice (λ n. map (positions_of g hs n) (bars_of g hs n)) (sounds_of g hs)
      ∙ by_sounds (λ n bs. joined (map (positions_of g hs n) bs)) (λ n. refl)

  velocities_by : velocities_of g hs
      ≡ joined (map (λ n. joined (map (λ b. map (loudest g hs n b) (positions_of g hs n b)) (bars_of g hs n))) (rising_from 0 128))
  unfolding velocities_of
  velocities_by = by_sounds (λ n bs. joined (map (λ b. map (loudest g hs n b) (positions_of g hs n b)) bs)) (λ n. refl)

-- ---- one sound

module _ (g : Grid) (hs : List Hit) (n : ℕ) (some_ticks : 1 ≤ g.ticks) (a_step : 1 ≤ g.steps) (in_order : NeverFall 0 hs) where
  abbrev own : List Hit
  own = kept (of_sound n) hs

  abbrev bars : List ℕ
  bars = bars_of g hs n

  abbrev steps : List ℕ
  steps = joined (map (steps_of g hs n) bars)

  own_positions : map (λ x. x % g.steps) (runs 0 (map (step_of g) own)) ≡ joined (map (positions_of g hs n) bars)
  own_positions =
      ap (map (λ x. x % g.steps)) (steps_run g hs n some_ticks a_step in_order)
      ∙ map_joined (λ x. x % g.steps) (steps_of g hs n) bars
      ∙ ap joined (map_same (λ b. map (λ x. x % g.steps) (steps_of g hs n b)) (positions_of g hs n) bars (λ b m. step_on g hs n b))

  -- the steps of one bar
  bar_steps : (b : ℕ) → b ∈ bars → kept (λ x. eqb (x / g.steps) b) steps ≡ steps_of g hs n b
  bar_steps b m =
      rising_unique _ _
      (kept_rises (λ x. eqb (x / g.steps) b) steps
      (parts_rise g.steps a_step (steps_of g hs n) one_rises (step_in g hs n) bars (bars_rise g hs n)))
      (one_rises b)
      (λ x k.
      let (j, t) = kept_gives (λ x. eqb (x / g.steps) b) steps x k in
      let (c, _, i) = parts_give (steps_of g hs n) bars x j in
      let is : c ≡ b = sym (step_in g hs n c x i) ∙ eqb-true (x / g.steps) b t in
      subst (λ (d : ℕ). x ∈ steps_of g hs n d) is i)
      (λ x k.
      kept_from (λ x. eqb (x / g.steps) b) steps x (parts_from (steps_of g hs n) bars b x m k)
      (eq-eqb (x / g.steps) b (step_in g hs n b x k)))
    where
      one_rises : (b : ℕ) → Rising (steps_of g hs n b)
      one_rises b = shifted_rise (b * g.steps) (positions_of g hs n b) (positions_rise g hs n b)

  own_counts : map (steps_in g (runs 0 (map (step_of g) own))) (runs 0 (map (bar_of g) own))
      ≡ map (λ b. length (positions_of g hs n b)) bars
  own_counts =
      ap₂ (λ (xs bs : List ℕ). map (steps_in g xs) bs) (steps_run g hs n some_ticks a_step in_order)
      (bars_run g hs n some_ticks a_step in_order)
      ∙ map_same (steps_in g steps) (λ b. length (positions_of g hs n b)) bars (λ b m.
      ap length (bar_steps b m) ∙ length-map (positions_of g hs n b) (λ p. b * g.steps + p))

-- ---- all sounds

postings_many : (g : Grid) (t : Tallies) (hs : List Hit) → length (over (tally g) t hs).postings ≡ length t.postings
postings_many g t [] = refl
postings_many g t (h ∷ hs) = postings_many g (tally g t h) hs ∙ length-set t.postings h.note _

positions_many : (g : Grid) (t : Tallies) (hs : List Hit) → length (over (tally g) t hs).positions ≡ length t.positions
positions_many g t [] = refl
positions_many g t (h ∷ hs) = positions_many g (tally g t h) hs ∙ length-set t.positions h.note _

room_of : (cs : List ℕ) (f : ℕ → List ℕ) → length cs ≡ 128 → ((n : ℕ) → n < 128 → get_or cs n 0 ≡ length (f n))
    → length (joined (map f (rising_from 0 128))) ≡ total cs
room_of cs f many each =
    sym (total_of cs 0 f (λ i h. let own : i ≡ 0 + i = omega arith in each i (omega arith) ∙ ap (λ (n : ℕ). length (f n)) own)
    ∙ ap (λ (n : ℕ). length (joined (map f (rising_from 0 n)))) many)

module _ (g : Grid) (hs : List Hit) (a b c d : List ℕ) (some_ticks : 1 ≤ g.ticks) (fine : HitsFine g hs)
    (in_order : NeverFall 0 hs) where
  abbrev at_first : Buffers
  at_first = buffers (zeros 128) (zeros 128) (zeros 128) (zeros 128) (zeros 128) a b c d

  abbrev starts : List ℕ
  starts = starts_from 0 (counted g hs).postings

  abbrev marks : List ℕ
  marks = starts_from 0 (counted g hs).positions

  long : Long at_first
  long = record {
    last = zeros_length 128;
    postings = zeros_length 128;
    positions = zeros_length 128;
    inside = zeros_length 128;
    loud = zeros_length 128;
  }

  low : (h : Hit) → h ∈ hs → h.note < 128
  low h m = (fine.audible h m).note

  pub many_postings : length (counted g hs).postings ≡ 128
  many_postings = postings_many g (tallies 0 (zeros 128) (zeros 128) (zeros 128)) hs ∙ zeros_length 128

  pub many_positions : length (counted g hs).positions ≡ 128
  many_positions = positions_many g (tallies 0 (zeros 128) (zeros 128) (zeros 128)) hs ∙ zeros_length 128

  right : CountsRight g hs
  right = counting_right g hs some_ticks fine in_order

  bars_counted : (n : ℕ) → n < 128 → get_or (counted g hs).postings n 0 ≡ length (runs 0 (map (bar_of g) (kept (of_sound n) hs)))
  bars_counted n h = right.postings n h ∙ ap length (sym (bars_run g hs n some_ticks fine.a_step in_order))

  steps_counted : (n : ℕ) → n < 128 → get_or (counted g hs).positions n 0 ≡ length (runs 0 (map (step_of g) (kept (of_sound n) hs)))
  steps_counted n h = right.positions n h ∙ sym (steps_length g hs n some_ticks fine.a_step in_order)

  no_bar : (n : ℕ) → bar_last g.steps (get_or (zeros 128) n 0) ≡ 0
  no_bar n = ap (bar_last g.steps) (zeros_at 128 n)

  grow : (n : ℕ) → Grows 0 (map (step_of g) (kept (of_sound n) hs))
  grow n = steps_grow g hs n some_ticks fine.a_step in_order

  pub postings_room : length (lists_of g hs).posting_ids ≡ total (counted g hs).postings
  postings_room =
      ap length (ids_by g hs)
      ∙ room_of (counted g hs).postings (λ n. map (λ b. b) (bars_of g hs n)) many_postings (λ n h.
      right.postings n h ∙ sym (length-map (bars_of g hs n) (λ b. b)))

  counts_room : length (lists_of g hs).position_counts ≡ total (counted g hs).postings
  counts_room =
      ap length (counts_are g hs)
      ∙ room_of (counted g hs).postings (λ n. map (λ b. length (positions_of g hs n b)) (bars_of g hs n)) many_postings (λ n h.
      right.postings n h ∙ sym (length-map (bars_of g hs n) (λ b. length (positions_of g hs n b))))

  pub positions_room : length (lists_of g hs).positions ≡ total (counted g hs).positions
  positions_room =
      ap length (positions_by g hs)
      ∙ room_of (counted g hs).positions (λ n. joined (map (positions_of g hs n) (bars_of g hs n))) many_positions (λ n h.
      right.positions n h ∙ total_joined (positions_of g hs n) (bars_of g hs n))

  velocities_room : length (velocities_of g hs) ≡ total (counted g hs).positions
  velocities_room = velocities_many g hs ∙ positions_room

  -- what the pass leaves
  abbrev at_last : Buffers
  at_last = over (put g starts marks) at_first hs

  ids_right : length a ≡ length (lists_of g hs).posting_ids → at_last.ids ≡ (lists_of g hs).posting_ids
  ids_right room =
      let kind = by_bar g (λ h s. bar_of g h) in
      filled g kind starts marks (λ x. x.ids) (counted g hs).postings (λ x h. refl) at_first hs long low many_postings
      (room ∙ postings_room) bars_counted (λ n. zeros_at 128 n) no_bar (λ n. map (λ b. b) (bars_of g hs n)) (λ n h.
      settled_keyed g kind (λ b. b) (λ s h. refl) (tables n at_first) (no_bar n) (kept (of_sound n) hs)
      ∙ ap (map (λ b. b)) (bars_run g hs n some_ticks fine.a_step in_order))
      ∙ sym (ids_by g hs)

  counts_right : length b ≡ length (lists_of g hs).position_counts → at_last.counts ≡ (lists_of g hs).position_counts
  counts_right room =
      filled g (counts_kind g) starts marks (λ x. x.counts) (counted g hs).postings (λ x h. refl) at_first hs long low many_postings
      (room ∙ counts_room) bars_counted (λ n. zeros_at 128 n) no_bar
      (λ n. map (λ b. length (positions_of g hs n b)) (bars_of g hs n)) (λ n h.
      settled_count g fine.a_step (tables n at_first) (kept (of_sound n) hs) (zeros_at 128 n) (grow n)
      ∙ own_counts g hs n some_ticks fine.a_step in_order)
      ∙ sym (counts_are g hs)

  steps_right : length c ≡ length (lists_of g hs).positions → at_last.steps ≡ (lists_of g hs).positions
  steps_right room =
      let kind = by_step g (λ h s. position_of g h) in
      filled g kind starts marks (λ x. x.steps) (counted g hs).positions (λ x h. refl) at_first hs long low many_positions
      (room ∙ positions_room) steps_counted (λ n. zeros_at 128 n) (λ n. zeros_at 128 n)
      (λ n. joined (map (positions_of g hs n) (bars_of g hs n))) (λ n h.
      settled_keyed g kind (λ x. x % g.steps) (λ s h. refl) (tables n at_first) (zeros_at 128 n) (kept (of_sound n) hs)
      ∙ own_positions g hs n some_ticks fine.a_step in_order)
      ∙ sym (positions_by g hs)

  loud_right : length d ≡ length (velocities_of g hs) → at_last.velocities ≡ velocities_of g hs
  loud_right room =
      filled g (loud_kind g) starts marks (λ x. x.velocities) (counted g hs).positions (λ x h. refl) at_first hs long low many_positions
      (room ∙ velocities_room) steps_counted (λ n. zeros_at 128 n) (λ n. zeros_at 128 n)
      (λ n. joined (map (λ b. map (loudest g hs n b) (positions_of g hs n b)) (bars_of g hs n))) (λ n h.
      settled_loud g (tables n at_first) (kept (of_sound n) hs) (zeros_at 128 n) (grow n)
      ∙ ap (map (loud_on g (kept (of_sound n) hs))) (steps_run g hs n some_ticks fine.a_step in_order)
      ∙ own_loudest g hs n (bars_of g hs n))
      ∙ sym (velocities_by g hs)

pub filling_right : FillingRight
filling_right g hs a b c d some_ticks fine in_order la lb lc ld = record {
  posting_ids = ids_right g hs a b c d some_ticks fine in_order la;
  position_counts = counts_right g hs a b c d some_ticks fine in_order lb;
  positions = steps_right g hs a b c d some_ticks fine in_order lc;
  velocities = loud_right g hs a b c d some_ticks fine in_order ld;
}
