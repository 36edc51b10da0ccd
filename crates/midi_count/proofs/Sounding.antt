-- The counting pass comes to the lists: per sound, the bars and the steps of its hits, each once.
-- Assumes nothing.
use mathlib.Core.Path.{◌≡◌, refl, sym, ap, subst, ◌∙◌}
use mathlib.Core.Bool.{Bool, true, false, cond}
use mathlib.Core.List.{List, [], ◌∷◌, map, map-map, map-id}
use Prim.Native.Nat.{ℕ, zero, suc, ◌+◌, ◌-◌, ◌*◌, ◌/◌, ◌%◌, ◌≤◌, ◌<◌}
use native.Mathlib.Nat.{zero-add, div-add-mod'}
use native.Mathlib.Omega.{arith}
use lib.Dec.{eqb}
use lib.ListN.{length, get_or, set, length-set, length-map}
use lib.Seq.{get_or-set_same, get_or-set_other}
use borrow.Author.Tests.{eqb-true, eqb-false, eq-eqb, ne_eqb}
use Rattle.common.specs.Elements.{◌∈◌}
use Rattle.common.proofs.Elements.{map_from}
use Rattle.common.specs.Members.{kept}
use Rattle.common.proofs.Kept.{map_same}
use Rattle.common.proofs.Membership.{kept_gives, kept_from, map_gives}
use Rattle.common.specs.Lists.{total, joined}
use Rattle.midi_read.specs.declared.track.Hit.{Hit}
use Rattle.midi_read.specs.Files.{Grid, step_of, bar_of, position_of}
use Rattle.midi_read.specs.Claims.{NeverFall}
use Rattle.midi_read.specs.Walks.{over}
use Rattle.midi_bars.specs.Bars.{greater, of_sound, bar_count, bars_of, positions_of}
use Rattle.midi_bars.specs.Claims.{Struck}
use Rattle.midi_count.specs.Tallies.{Tallies, fresh, opens, tally}
use Rattle.midi_count.specs.Promise.{zeros, tallies}
use Rattle.midi_count.specs.Claims.{CountingRight}
use Rattle.calls.proofs.Unflat.{total_joined}
use Rattle.midi_bars.proofs.Struck.{position_below, positions_rise, bars_rise, bar_struck, position_gives, position_from, bar_from}
use Rattle.midi_bars.proofs.Nested.{parts_give, parts_from}
use Rattle.midi_bars.proofs.Words.{parted, step_is}
use Rattle.midi_bars.proofs.Loud.{greater_sum}
use Rattle.midi_count.proofs.Tallying.{zeros_at}
use Rattle.midi_count.proofs.Runs.{runs, Grows, runs_are, div_up, shifted_rise, parts_rise}

-- ---- the bars in all

greater_one : (a b c : ℕ) → greater (greater a (b + 1)) c ≡ greater a (greater (suc b) c)
greater_one a b c =
    rw (greater_sum (greater a (b + 1)) c, greater_sum a (greater (suc b) c), greater_sum a (b + 1), greater_sum (suc b) c) (omega arith)

bars_are : (g : Grid) (t : Tallies) (hs : List Hit) → (over (tally g) t hs).bars ≡ greater t.bars (bar_count g hs)
unfolding bar_count
bars_are g t [] = rw (greater_sum t.bars 0) (omega arith)
bars_are g t (h ∷ hs) = bars_are g (tally g t h) hs ∙ greater_one t.bars (bar_of g h) (bar_count g hs)

-- ---- one hit more

fresh_run : (last x : ℕ) (xs : List ℕ) → fresh last x + length (runs (x + 1) xs) ≡ length (runs last (x ∷ xs))
fresh_run last x xs = step (eqb last (x + 1)) refl
  where
    step : (b : Bool) → eqb last (x + 1) ≡ b → cond b 0 1 + length (runs (x + 1) xs) ≡ length (cond b (runs last xs) (x ∷ runs (x + 1) xs))
    step true e = rw (eqb-true last (x + 1) e) (omega arith)
    step false e = omega arith

-- the bar of the last step plus one, 0 where there is none
abbrev pub bar_last : (steps last : ℕ) → ℕ
bar_last steps last = cond (eqb last 0) 0 ((last - 1) / steps + 1)

pub bar_last_of : (steps x : ℕ) → bar_last steps (x + 1) ≡ x / steps + 1
bar_last_of steps x =
    let is : x + 1 - 1 ≡ x = omega arith in
    rw (ne_eqb (x + 1) 0 (λ e. omega arith), is)

pub opens_is : (steps last x : ℕ) → opens last x steps ≡ fresh (bar_last steps last) (x / steps)
opens_is steps last x = step (eqb last 0) (eqb ((last - 1) / steps) (x / steps)) refl
  where
    step : (a b : Bool) → eqb ((last - 1) / steps) (x / steps) ≡ b
        → cond a 1 (cond b 0 1) ≡ fresh (cond a 0 ((last - 1) / steps + 1)) (x / steps)
    step true b e = rw (ne_eqb 0 (x / steps + 1) (λ e. omega arith))
    step false true e = rw (eq-eqb ((last - 1) / steps + 1) (x / steps + 1) (omega (arith, eqb-true ((last - 1) / steps) (x / steps) e)))
    step false false e =
        rw (ne_eqb ((last - 1) / steps + 1) (x / steps + 1) (λ f. eqb-false ((last - 1) / steps) (x / steps) e (omega arith)))

here_fresh : (l p : List ℕ) (i n x : ℕ) (xs : List ℕ) → i ≡ n → n < length l → n < length p
    → get_or (set p i (get_or p i 0 + fresh (get_or l i 0) x)) n 0 + length (runs (get_or (set l i (x + 1)) n 0) xs)
    ≡ get_or p n 0 + length (runs (get_or l n 0) (x ∷ xs))
here_fresh l p i n x xs e h k =
    rw (e, get_or-set_same p n (get_or p n 0 + fresh (get_or l n 0) x) 0 k, get_or-set_same l n (x + 1) 0 h)
    (omega (arith, fresh_run (get_or l n 0) x xs))

here_opens : (steps : ℕ) (l p : List ℕ) (i n x : ℕ) (xs : List ℕ) → i ≡ n → n < length l → n < length p
    → get_or (set p i (get_or p i 0 + opens (get_or l i 0) x steps)) n 0 + length (runs (bar_last steps (get_or (set l i (x + 1)) n 0)) xs)
    ≡ get_or p n 0 + length (runs (bar_last steps (get_or l n 0)) (x / steps ∷ xs))
here_opens steps l p i n x xs e h k =
    rw (
      e,
      get_or-set_same p n (get_or p n 0 + opens (get_or l n 0) x steps) 0 k,
      get_or-set_same l n (x + 1) 0 h,
      bar_last_of steps x,
      opens_is steps (get_or l n 0) x,
    )
    (omega (arith, fresh_run (bar_last steps (get_or l n 0)) (x / steps) xs))

-- ---- one sound's counts

module _ (g : Grid) (n : ℕ) where
  positions_fold : (t : Tallies) (hs : List Hit) → n < length t.last → n < length t.positions
      → get_or (over (tally g) t hs).positions n 0
      ≡ get_or t.positions n 0 + length (runs (get_or t.last n 0) (map (step_of g) (kept (of_sound n) hs)))
  unfolding kept
  positions_fold t [] h k = omega arith
  positions_fold t (x ∷ hs) h k =
      let new = fresh (get_or t.last x.note 0) (step_of g x) in
      positions_fold (tally g t x) hs (rw (length-set t.last x.note (step_of g x + 1)) h)
      (rw (length-set t.positions x.note (get_or t.positions x.note 0 + new)) k)
      ∙ step (eqb x.note n) refl
    where
      step : (b : Bool) → eqb x.note n ≡ b
          → let later = kept (of_sound n) hs in
          get_or (tally g t x).positions n 0 + length (runs (get_or (tally g t x).last n 0) (map (step_of g) later))
          ≡ get_or t.positions n 0 + length (runs (get_or t.last n 0) (map (step_of g) (cond b (x ∷ later) later)))
      step true e =
          here_fresh t.last t.positions x.note n (step_of g x) (map (step_of g) (kept (of_sound n) hs)) (eqb-true _ _ e) h k
      step false e =
          let apart : n ≡ x.note → ⊥ = λ f. eqb-false _ _ e (sym f) in
          let new = fresh (get_or t.last x.note 0) (step_of g x) in
          rw (
            get_or-set_other t.positions x.note n (get_or t.positions x.note 0 + new) 0 apart,
            get_or-set_other t.last x.note n (step_of g x + 1) 0 apart,
          )

  postings_fold : (t : Tallies) (hs : List Hit) → n < length t.last → n < length t.postings
      → get_or (over (tally g) t hs).postings n 0
      ≡ get_or t.postings n 0 + length (runs (bar_last g.steps (get_or t.last n 0)) (map (bar_of g) (kept (of_sound n) hs)))
  unfolding kept
  postings_fold t [] h k = omega arith
  postings_fold t (x ∷ hs) h k =
      let more = opens (get_or t.last x.note 0) (step_of g x) g.steps in
      postings_fold (tally g t x) hs (rw (length-set t.last x.note (step_of g x + 1)) h)
      (rw (length-set t.postings x.note (get_or t.postings x.note 0 + more)) k)
      ∙ step (eqb x.note n) refl
    where
      step : (b : Bool) → eqb x.note n ≡ b
          → let later = kept (of_sound n) hs in
          get_or (tally g t x).postings n 0 + length (runs (bar_last g.steps (get_or (tally g t x).last n 0)) (map (bar_of g) later))
          ≡ get_or t.postings n 0 + length (runs (bar_last g.steps (get_or t.last n 0)) (map (bar_of g) (cond b (x ∷ later) later)))
      step true e =
          here_opens g.steps t.last t.postings x.note n (step_of g x) (map (bar_of g) (kept (of_sound n) hs))
          (eqb-true _ _ e) h k
      step false e =
          let apart : n ≡ x.note → ⊥ = λ f. eqb-false _ _ e (sym f) in
          let more = opens (get_or t.last x.note 0) (step_of g x) g.steps in
          rw (
            get_or-set_other t.postings x.note n (get_or t.postings x.note 0 + more) 0 apart,
            get_or-set_other t.last x.note n (step_of g x + 1) 0 apart,
          )

-- ---- a sound's bars and steps never fall

grows_lower : (low bound : ℕ) (xs : List ℕ) → low ≤ bound → Grows bound xs → Grows low xs
grows_lower low bound [] h up = tt
grows_lower low bound (x ∷ xs) h (at, up) = (omega arith, up)

pub hits_grow : (f : ℕ → ℕ) → ((a b : ℕ) → a ≤ b → f a ≤ f b) → (t : Hit → Bool) (from : ℕ) (hs : List Hit) → NeverFall from hs
    → Grows (f from) (map (λ h. f h.tick) (kept t hs))
unfolding kept
hits_grow f mono t from [] up = tt
hits_grow f mono t from (h ∷ hs) (at, up) = step (t h) (hits_grow f mono t h.tick hs up)
  where
    step : (b : Bool) → Grows (f h.tick) (map (λ h. f h.tick) (kept t hs))
        → Grows (f from) (map (λ h. f h.tick) (cond b (h ∷ kept t hs) (kept t hs)))
    step true ih = (mono from h.tick at, ih)
    step false ih = grows_lower (f from) (f h.tick) (map (λ h. f h.tick) (kept t hs)) (mono from h.tick at) ih

back_again : (k s : ℕ) (xs : List ℕ) → ((x : ℕ) → x ∈ xs → (k + x) % s ≡ x) → map (λ x. x % s) (map (λ x. k + x) xs) ≡ xs
back_again k s xs h = map-map (λ x. x % s) (λ x. k + x) xs ∙ map_same (λ x. (k + x) % s) (λ x. x) xs h ∙ map-id xs

-- ---- the hits of one sound

module _ (g : Grid) (hs : List Hit) (n : ℕ) where
  struck_by : (h : Hit) → h ∈ kept (of_sound n) hs → Struck g hs n (bar_of g h) (position_of g h)
  struck_by h m =
      let (there, t) = kept_gives (of_sound n) hs h m in
      record { hit = h; there = there; sound = eqb-true h.note n t; in_bar = refl; on = refl }

  struck_own : (b p : ℕ) (s : Struck g hs n b p) → s.hit ∈ kept (of_sound n) hs
  struck_own b p s = kept_from (of_sound n) hs s.hit s.there (eq-eqb _ _ s.sound)

  bar_own : (b : ℕ) → b ∈ bars_of g hs n → b ∈ map (bar_of g) (kept (of_sound n) hs)
  bar_own b m =
      let (p, s) = bar_struck g hs n b m in
      rw (← s.in_bar) (map_from (bar_of g) (kept (of_sound n) hs) s.hit (struck_own b p s))

  -- a bar's positions as steps
  abbrev pub steps_of : ℕ → List ℕ
  steps_of b = map (λ p. b * g.steps + p) (positions_of g hs n b)

  step_parted : (b p : ℕ) → p ∈ positions_of g hs n b → ((b * g.steps + p) / g.steps ≡ b) × ((b * g.steps + p) % g.steps ≡ p)
  step_parted b p m = parted g.steps (b * g.steps + p) b p (position_below g hs n b p m) (omega arith)

  pub step_in : (b x : ℕ) → x ∈ steps_of b → x / g.steps ≡ b
  step_in b x m =
      let (p, k, e) = map_gives (λ p. b * g.steps + p) (positions_of g hs n b) x m in
      rw e (step_parted b p k).0

  pub step_on : (b : ℕ) → map (λ x. x % g.steps) (steps_of b) ≡ positions_of g hs n b
  step_on b = back_again (b * g.steps) g.steps (positions_of g hs n b) (λ p m. (step_parted b p m).1)

  step_of_struck : (b p : ℕ) (s : Struck g hs n b p) → b * g.steps + p ≡ step_of g s.hit
  step_of_struck b p s = omega (arith, step_is g.steps (step_of g s.hit) b p s.in_bar s.on)

  step_own : (x : ℕ) → x ∈ joined (map steps_of (bars_of g hs n)) → x ∈ map (step_of g) (kept (of_sound n) hs)
  step_own x m =
      let (b, _, k) = parts_give steps_of (bars_of g hs n) x m in
      let (p, j, e) = map_gives (λ p. b * g.steps + p) (positions_of g hs n b) x k in
      let s = position_gives g hs n b p j in
      subst (λ (y : ℕ). y ∈ map (step_of g) (kept (of_sound n) hs)) (sym (e ∙ step_of_struck b p s))
      (map_from (step_of g) (kept (of_sound n) hs) s.hit (struck_own b p s))

  steps_count : (bs : List ℕ) → total (map (λ b. length (steps_of b)) bs) ≡ total (map (λ b. length (positions_of g hs n b)) bs)
  steps_count [] = refl
  steps_count (b ∷ bs) = rw (length-map (positions_of g hs n b) (λ p. b * g.steps + p), steps_count bs)

  module _ (some_ticks : 1 ≤ g.ticks) (a_step : 1 ≤ g.steps) (in_order : NeverFall 0 hs) where
    pub steps_grow : Grows 0 (map (step_of g) (kept (of_sound n) hs))
    steps_grow =
        grows_lower 0 (0 / g.ticks) (map (step_of g) (kept (of_sound n) hs)) (omega arith)
        (hits_grow (λ t. t / g.ticks) (λ a b l. div_up a b g.ticks some_ticks l) (of_sound n) 0 hs in_order)

    pub bars_grow : Grows 0 (map (bar_of g) (kept (of_sound n) hs))
    bars_grow =
        grows_lower 0 (0 / g.ticks / g.steps) (map (bar_of g) (kept (of_sound n) hs)) (omega arith)
        (hits_grow (λ t. t / g.ticks / g.steps) (λ a b l. div_up _ _ g.steps a_step (div_up a b g.ticks some_ticks l))
        (of_sound n) 0 hs in_order)

    -- the bars of the definition
    pub bars_run : runs 0 (map (bar_of g) (kept (of_sound n) hs)) ≡ bars_of g hs n
    bars_run =
        runs_are (map (bar_of g) (kept (of_sound n) hs)) (bars_of g hs n) bars_grow (bars_rise g hs n) (λ b m.
        let (h, k, e) = map_gives (bar_of g) (kept (of_sound n) hs) b m in
        rw e (bar_from g hs a_step n (bar_of g h) (position_of g h) (struck_by h k))) bar_own

    step_there : (h : Hit) → h ∈ kept (of_sound n) hs → step_of g h ∈ joined (map steps_of (bars_of g hs n))
    step_there h k =
        let s = struck_by h k in
        let whole : bar_of g h * g.steps + position_of g h ≡ step_of g h = div-add-mod' (step_of g h) g.steps in
        parts_from steps_of (bars_of g hs n) (bar_of g h) (step_of g h) (bar_from g hs a_step n _ _ s)
        (subst (λ (x : ℕ). x ∈ steps_of (bar_of g h)) whole
        (map_from (λ p. bar_of g h * g.steps + p) (positions_of g hs n (bar_of g h)) (position_of g h)
        (position_from g hs a_step n _ _ s)))

    step_from : (x : ℕ) → x ∈ map (step_of g) (kept (of_sound n) hs) → x ∈ joined (map steps_of (bars_of g hs n))
    step_from x m =
        let (h, k, e) = map_gives (step_of g) (kept (of_sound n) hs) x m in
        subst (λ (y : ℕ). y ∈ joined (map steps_of (bars_of g hs n))) (sym e) (step_there h k)

    -- the steps of the definition
    pub steps_run : runs 0 (map (step_of g) (kept (of_sound n) hs)) ≡ joined (map steps_of (bars_of g hs n))
    steps_run =
        runs_are (map (step_of g) (kept (of_sound n) hs)) (joined (map steps_of (bars_of g hs n))) steps_grow
        (parts_rise g.steps a_step steps_of (λ b. shifted_rise (b * g.steps) (positions_of g hs n b) (positions_rise g hs n b))
        step_in (bars_of g hs n) (bars_rise g hs n))
        step_from step_own

    pub steps_length : length (runs 0 (map (step_of g) (kept (of_sound n) hs)))
        ≡ total (map (λ b. length (positions_of g hs n b)) (bars_of g hs n))
    steps_length = rw steps_run (sym (total_joined steps_of (bars_of g hs n)) ∙ steps_count (bars_of g hs n))

pub zeros_length : (n : ℕ) → length (zeros n) ≡ n
zeros_length zero = refl
zeros_length (suc n) = ap suc (zeros_length n)

pub counting_right : CountingRight
counting_right g hs some_ticks fine in_order = record {
  bars = bars_are g (tallies 0 (zeros 128) (zeros 128) (zeros 128)) hs ∙ rw (greater_sum 0 (bar_count g hs)) (omega arith);
  postings = λ n h.
      postings_fold g n (tallies 0 (zeros 128) (zeros 128) (zeros 128)) hs (omega (arith, zeros_length 128))
      (omega (arith, zeros_length 128))
      ∙ rw (zeros_at 128 n) (zero-add _ ∙ ap length (bars_run g hs n some_ticks fine.a_step in_order));
  positions = λ n h.
      positions_fold g n (tallies 0 (zeros 128) (zeros 128) (zeros 128)) hs (omega (arith, zeros_length 128))
      (omega (arith, zeros_length 128))
      ∙ rw (zeros_at 128 n) (zero-add _ ∙ steps_length g hs n some_ticks fine.a_step in_order);
}
