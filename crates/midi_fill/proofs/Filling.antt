-- The filling pass a turn at a time. What holds before each event (Standing): what is left to count from here comes to the total that was
-- counted before, so that a sound's count so far, with the new one, is at most its total, and the hit's place lies in the sound's part.
-- Assumes nothing.
use Rattle.std.specs.Prelude.{Err, Ok}
use mathlib.Core.Path.{◌≡◌, refl, sym, subst, ◌∙◌}
use mathlib.Core.Bool.{Bool, true, false}
use mathlib.Core.List.{List}
use mathlib.Core.Logic.{◌⊎◌, inl, inr}
use Prim.Native.Nat.{ℕ, ◌+◌, ◌≤◌, ◌<◌}
use native.Mathlib.Omega.{arith}
use lib.Dec.{eqb}
use lib.ListN.{length, get_or, set, length-set}
use lib.Seq.{get_or-set_same, get_or-set_other}
use borrow.Author.Tests.{eqb-true, eqb-false, eq-eqb, ne_eqb}
use Rattle.segment.specs.declared.refusal.Refusal.{Refusal}
use Rattle.segment.specs.Results.{Answer}
use Rattle.midi_read.specs.declared.track.Hit.{Hit}
use Rattle.midi_read.specs.declared.track.Reader.{Reader}
use Rattle.midi_read.specs.declared.track.Step.TheVariants.{Sounds, Silent, Ends}
use Rattle.midi_read.specs.Files.{Grid, grid, step_of, bar_of, read_event, first_event}
use Rattle.midi_read.specs.Promise.{Within}
use Rattle.midi_read.specs.Walks.{walk}
use Rattle.midi_read.proofs.Walks.{past_hit, past_silent, walk_hit, walk_far, walk_silent, walk_end, walk_open, walk_refused}
use Rattle.midi_bars.specs.Bars.{greater}
use Rattle.midi_count.specs.Tallies.{Tallies, fresh, opens, raised, tally}
use Rattle.midi_count.specs.Promise.{tallies, Low}
use Rattle.midi_fill.specs.Stores.{in_last, Buffers, put}
use Rattle.midi_fill.specs.Promise.{Puttable, Fillable, FilledSo}
use Rattle.midi_count.proofs.Tallying.{set_low, raised_low, fresh_le, opens_le, up_to, near_step}
use Rattle.midi_fill.proofs.Storing.{in_last_le, postings_within, positions_within}

-- ---- what holds before each event

abbrev Begun : (last postings positions : List ℕ) (n : ℕ) → Type 0
Begun l p q n = (get_or l n 0 ≡ 0) ⊎ ((1 ≤ get_or p n 0) × (1 ≤ get_or q n 0))

pub record Standing (file : List ℕ) (g : Grid) (starts marks : List ℕ) (x₀ x : Buffers) (from : Reader) : Type 0 where
  pub within : Within file from
  pub postings_low : Low from.at x.postings
  pub positions_low : Low from.at x.positions
  pub inside_low : Low from.at x.inside
  pub starts_low : Low 16777216 starts
  pub marks_low : Low 16777216 marks
  pub postings_long : length x.postings ≡ 128
  pub positions_long : length x.positions ≡ 128
  pub begun : (n : ℕ) → Begun x.last x.postings x.positions n
  pub bars : ℕ
  pub total : Tallies
  pub counted : walk (tally g) g file from (tallies bars x.last x.postings x.positions) ≡ Ok total
  pub ids_fit : (n : ℕ) → n < 128 → get_or starts n 0 + get_or total.postings n 0 ≤ length x.ids
  pub counts_fit : (n : ℕ) → n < 128 → get_or starts n 0 + get_or total.postings n 0 ≤ length x.counts
  pub steps_fit : (n : ℕ) → n < 128 → get_or marks n 0 + get_or total.positions n 0 ≤ length x.steps
  pub velocities_fit : (n : ℕ) → n < 128 → get_or marks n 0 + get_or total.positions n 0 ≤ length x.velocities
  pub same_ids : length x.ids ≡ length x₀.ids
  pub same_counts : length x.counts ≡ length x₀.counts
  pub same_steps : length x.steps ≡ length x₀.steps
  pub same_velocities : length x.velocities ≡ length x₀.velocities
  pub rest : walk (put g starts marks) g file from x ≡ walk (put g starts marks) g file first_event x₀

pub standing_start : (file : List ℕ) (ticks steps : ℕ) (starts marks : List ℕ) (x : Buffers) → Fillable file ticks steps starts marks x
    → Standing file (grid ticks steps) starts marks x x first_event
standing_start file ticks steps starts marks x f = record {
  within = record { small = f.small; inside = f.headed; tick = omega arith };
  postings_low = up_to 22 f.no_postings (omega arith);
  positions_low = up_to 22 f.no_positions (omega arith);
  inside_low = up_to 22 f.no_inside (omega arith);
  starts_low = f.starts_low;
  marks_low = f.marks_low;
  postings_long = f.postings_long;
  positions_long = f.positions_long;
  begun = λ n. inl (omega (arith, f.no_last.holds n));
  bars = 0;
  total = f.total;
  counted = f.counted;
  ids_fit = f.ids_fit;
  counts_fit = f.counts_fit;
  steps_fit = f.steps_fit;
  velocities_fit = f.velocities_fit;
  same_ids = refl;
  same_counts = refl;
  same_steps = refl;
  same_velocities = refl;
  rest = refl;
}

module _ (file : List ℕ) (g : Grid) (starts marks : List ℕ) (x₀ x : Buffers) (from : Reader)
    (w : Standing file g starts marks x₀ x from) where
  pub standing_silent : {next : Reader} → read_event file from ≡ Ok (Silent next) → Standing file g starts marks x₀ x next
  standing_silent e =
      let m = past_silent file from e in
      record {
        within = record { small = w.within.small; inside = m.inside; tick = omega (arith, m.on, m.rises, w.within.tick) };
        postings_low = up_to _ w.postings_low (omega (arith, m.on));
        positions_low = up_to _ w.positions_low (omega (arith, m.on));
        inside_low = up_to _ w.inside_low (omega (arith, m.on));
        starts_low = w.starts_low;
        marks_low = w.marks_low;
        postings_long = w.postings_long;
        positions_long = w.positions_long;
        begun = w.begun;
        bars = w.bars;
        total = w.total;
        counted = walk_silent (tally g) g file from _ w.counted e;
        ids_fit = w.ids_fit;
        counts_fit = w.counts_fit;
        steps_fit = w.steps_fit;
        velocities_fit = w.velocities_fit;
        same_ids = w.same_ids;
        same_counts = w.same_counts;
        same_steps = w.same_steps;
        same_velocities = w.same_velocities;
        rest = walk_silent (put g starts marks) g file from _ w.rest e;
      }

  -- the ways out

  abbrev whole : Answer Buffers
  whole = walk (put g starts marks) g file first_event x₀

  pub filled_far : {h : Hit} {next : Reader} → read_event file from ≡ Ok (Sounds h next) → 65535 < bar_of g h
      → FilledSo whole x
  filled_far e far = subst (λ (r : Answer Buffers). FilledSo r x) (walk_far (put g starts marks) g file from x w.rest e far) tt

  pub filled_refused : {r : Refusal} → read_event file from ≡ Err r → FilledSo whole x
  filled_refused e = subst (λ (r : Answer Buffers). FilledSo r x) (walk_refused (put g starts marks) g file from x w.rest e) tt

  pub filled_end : {past : ℕ} → read_event file from ≡ Ok (Ends past) → FilledSo whole x
  filled_end {past} e = step (eqb past (length file)) refl
    where
      step : (b : Bool) → eqb past (length file) ≡ b → FilledSo whole x
      step true t =
          subst (λ (r : Answer Buffers). FilledSo r x)
          (walk_end (put g starts marks) g file from x w.rest e (eqb-true past (length file) t)) refl
      step false t =
          subst (λ (r : Answer Buffers). FilledSo r x)
          (walk_open (put g starts marks) g file from x w.rest e (eqb-false past (length file) t)) tt

  module _ {h : Hit} {next : Reader} (e : read_event file from ≡ Ok (Sounds h next)) (near : bar_of g h ≤ 65535) where
    abbrev n : ℕ
    n = h.note

    abbrev more : ℕ
    more = opens (get_or x.last n 0) (step_of g h) g.steps

    abbrev new : ℕ
    new = fresh (get_or x.last n 0) (step_of g h)

    known : n < 128
    known = (past_hit file from e).2.note

    counted_on : walk (tally g) g file next (tally g (tallies w.bars x.last x.postings x.positions) h) ≡ Ok w.total
    counted_on = walk_hit (tally g) g file from _ w.counted e near

    one_posting : 1 ≤ get_or x.postings n 0 + more
    one_posting = step (w.begun n)
      where
        step : Begun x.last x.postings x.positions n → 1 ≤ get_or x.postings n 0 + more
        step (inl z) = rw (eq-eqb (get_or x.last n 0) 0 z) (omega arith)
        step (inr (p, q)) = omega arith

    one_position : 1 ≤ get_or x.positions n 0 + new
    one_position = step (w.begun n)
      where
        step : Begun x.last x.postings x.positions n → 1 ≤ get_or x.positions n 0 + new
        step (inl z) = rw (ne_eqb (get_or x.last n 0) (step_of g h + 1) (λ is. omega (arith, z, is))) (omega arith)
        step (inr (p, q)) = omega arith

    postings_here : get_or (raised x.postings n more) n 0 ≡ get_or x.postings n 0 + more
    postings_here = get_or-set_same x.postings n (get_or x.postings n 0 + more) 0 (omega (arith, known, w.postings_long))

    positions_here : get_or (raised x.positions n new) n 0 ≡ get_or x.positions n 0 + new
    positions_here = get_or-set_same x.positions n (get_or x.positions n 0 + new) 0 (omega (arith, known, w.positions_long))

    posting_in : get_or x.postings n 0 + more ≤ get_or w.total.postings n 0
    posting_in = omega (arith, postings_within g file next _ w.total counted_on n, postings_here)

    position_in : get_or x.positions n 0 + new ≤ get_or w.total.positions n 0
    position_in = omega (arith, positions_within g file next _ w.total counted_on n, positions_here)

    pub puttable : 1 ≤ g.steps → g.steps ≤ 64 → Puttable starts marks n (step_of g h) (bar_of g h) g.steps x
    puttable s few =
        let i = w.within.inside in
        let l = w.within.small in
        record {
          known = known;
          in_bar = record { near = near_step (step_of g h) g.steps s few near; some_steps = s; steps_few = few; bar_is = refl };
          postings_low = up_to _ w.postings_low (omega arith);
          positions_low = up_to _ w.positions_low (omega arith);
          inside_low = up_to _ w.inside_low (omega arith);
          starts_low = w.starts_low;
          marks_low = w.marks_low;
          a_posting = one_posting;
          a_position = one_position;
          ids_fit = omega (arith, posting_in, w.ids_fit n known);
          counts_fit = omega (arith, posting_in, w.counts_fit n known);
          steps_fit = omega (arith, position_in, w.steps_fit n known);
          velocities_fit = omega (arith, position_in, w.velocities_fit n known);
        }

    abbrev BegunOn : ℕ → Type 0
    BegunOn k = Begun (set x.last n (step_of g h + 1)) (raised x.postings n more) (raised x.positions n new) k

    begun_next : (k : ℕ) → BegunOn k
    begun_next k = step (eqb k n) refl
      where
        step : (b : Bool) → eqb k n ≡ b → BegunOn k
        step true t =
            let is : k ≡ n = eqb-true k n t in
            inr (rw is (omega (arith, one_posting, postings_here)), rw is (omega (arith, one_position, positions_here)))
        step false t =
            let apart = eqb-false k n t in
            rw (
              get_or-set_other x.last n k (step_of g h + 1) 0 apart,
              get_or-set_other x.postings n k (get_or x.postings n 0 + more) 0 apart,
              get_or-set_other x.positions n k (get_or x.positions n 0 + new) 0 apart,
            )
            (w.begun k)

    inside_next : (m : ℕ) → from.at + 1 ≤ m → Low m (set x.inside n (in_last more new (get_or x.inside n 0)))
    inside_next m up = record {
      holds = λ k. set_low x.inside n (in_last more new (get_or x.inside n 0)) k m (omega (arith, w.inside_low.holds k))
          (omega (
            arith,
            in_last_le more new (get_or x.inside n 0),
            w.inside_low.holds n,
            fresh_le (get_or x.last n 0) (step_of g h),
          ));
    }

    standing_hit : Standing file g starts marks x₀ (put g starts marks x h) next
    standing_hit =
        let m = (past_hit file from e).0 in
        record {
          within = record { small = w.within.small; inside = m.inside; tick = omega (arith, m.on, m.rises, w.within.tick) };
          postings_low =
              raised_low x.postings n more _ _ w.postings_low (opens_le (get_or x.last n 0) (step_of g h) g.steps)
              (omega (arith, m.on));
          positions_low =
              raised_low x.positions n new _ _ w.positions_low (fresh_le (get_or x.last n 0) (step_of g h))
              (omega (arith, m.on));
          inside_low = inside_next _ (omega (arith, m.on));
          starts_low = w.starts_low;
          marks_low = w.marks_low;
          postings_long = length-set x.postings n _ ∙ w.postings_long;
          positions_long = length-set x.positions n _ ∙ w.positions_long;
          begun = begun_next;
          bars = greater w.bars (bar_of g h + 1);
          total = w.total;
          counted = counted_on;
          ids_fit = λ k l. rw length-set (w.ids_fit k l);
          counts_fit = λ k l. rw length-set (w.counts_fit k l);
          steps_fit = λ k l. rw length-set (w.steps_fit k l);
          velocities_fit = λ k l. rw length-set (w.velocities_fit k l);
          same_ids = length-set x.ids _ _ ∙ w.same_ids;
          same_counts = length-set x.counts _ _ ∙ w.same_counts;
          same_steps = length-set x.steps _ _ ∙ w.same_steps;
          same_velocities = length-set x.velocities _ _ ∙ w.same_velocities;
          rest = walk_hit (put g starts marks) g file from x w.rest e near;
        }

    pub standing_put : (y : Buffers) → y ≡ put g starts marks x h → Standing file g starts marks x₀ y next
    standing_put y is = subst (λ (z : Buffers). Standing file g starts marks x₀ z next) (sym is) standing_hit
