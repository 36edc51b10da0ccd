-- Both passes over a file that is read.
-- Assumes nothing.
use Rattle.std.specs.Prelude.{Ok}
use mathlib.Core.Path.{◌≡◌, sym, ap, ◌∙◌}
use mathlib.Core.Bool.{true, ◌&&◌}
use mathlib.Core.List.{List}
use mathlib.Core.Logic.{◌⊎◌, inl, inr}
use Prim.Native.Nat.{ℕ, ◌+◌, ◌*◌, ◌/◌, ◌%◌, ◌≤◌, ◌<◌}
use native.Mathlib.Nat.{div-add-mod'}
use native.Mathlib.Omega.{arith}
use lib.Dec.{leb, ltb, eqb}
use lib.ListN.{length, take}
use borrow.Author.Tests.{leb-true, ltb-true, eqb-true}
use Rattle.common.proofs.Loops.{lt_or_ge, and_left, and_right}
use Rattle.segment.specs.Refusals.{too_large, midi_file}
use Rattle.segment.specs.Results.{Answer, ◌>>=◌}
use Rattle.segment.specs.Names.{same}
use Rattle.segment.proofs.Accepted.{check_gives}
use Rattle.segment.proofs.Binds.{bind_gives, ok_same}
use Rattle.common.specs.Lists.{total}
use Rattle.midi_read.specs.declared.track.Hit.{Hit}
use Rattle.midi_read.specs.Files.{Grid, grid, division_fits, big_field, header_start, header, heading, chunks, hits, first_event}
use Rattle.midi_read.specs.Walks.{over, walk}
use Rattle.midi_read.proofs.Fine.{read_so}
use Rattle.midi_bars.specs.Bars.{lists_of}
use Rattle.midi_count.specs.Tallies.{tally}
use Rattle.midi_count.specs.Promise.{zeros, tallies}
use Rattle.midi_count.specs.Claims.{counted}
use Rattle.midi_fill.specs.Claims.{placed, begun, PassesRight, Fits}
use Rattle.midi_bars.proofs.Fine.{read_fine, accepted}
use Rattle.midi_bars.proofs.Loud.{velocities_many}
use Rattle.midi_count.proofs.Tallying.{zeros_low}
use Rattle.midi_count.proofs.Sounding.{zeros_length, counting_right}
use Rattle.midi_fill.proofs.Joining.{starts_fit, starts_low}
use Rattle.midi_fill.proofs.Laid.{many_postings, many_positions, postings_room, positions_room, filling_right}

-- a multiple that is not 0 goes in once at least
goes_in : (d q : ℕ) → 0 < d → d % q ≡ 0 → 1 ≤ d / q
goes_in d q some whole = step (lt_or_ge 0 (d / q))
  where
    none : d / q ≡ 0 → d ≡ 0
    none e = sym (div-add-mod' d q) ∙ ap (λ (n : ℕ). n * q + d % q) e ∙ omega arith

    step : (0 < d / q) ⊎ (d / q ≤ 0) → 1 ≤ d / q
    step (inl l) = l
    step (inr l) = absurd (omega (arith, none (omega arith)))

header_ticks : (quarter : ℕ) (file : List ℕ) (ticks : ℕ) → header quarter file ≡ Ok ticks → 1 ≤ ticks
unfolding header
header_ticks quarter file ticks e =
    let (_, e₁) = check_gives (leb 14 (length file)) (midi_file 0) _ e in
    let (_, e₂) = check_gives (same (take 12 file) header_start) (midi_file 0) _ e₁ in
    let (t, e₃) = check_gives (division_fits quarter (big_field 2 12 file)) (midi_file 0) _ e₂ in
    let is : big_field 2 12 file / quarter ≡ ticks = ok_same e₃ in
    let d = big_field 2 12 file in
    let range : ltb 0 d && leb d 32767 ≡ true = and_left (ltb 0 d && leb d 32767) (eqb (d % quarter) 0) t in
    let whole : d % quarter ≡ 0 = eqb-true (d % quarter) 0 (and_right (ltb 0 d && leb d 32767) (eqb (d % quarter) 0) t) in
    omega (arith, is, goes_in d quarter (ltb-true 0 d (and_left (ltb 0 d) (leb d 32767) range)) whole)

pub some_ticks : (steps quarter : ℕ) (file : List ℕ) (g : Grid) → chunks steps quarter file ≡ Ok g → 1 ≤ g.ticks
unfolding chunks
some_ticks steps quarter file g f =
    let (_, f₁) = check_gives (leb (length file) 16777216) too_large _ f in
    let (ticks, e, f₂) = bind_gives (header quarter file) _ f₁ in
    let (_, _, f₃) = bind_gives (heading file) _ f₂ in
    let is : grid ticks steps ≡ g = ok_same f₃ in
    omega (arith, header_ticks quarter file ticks e, ap (λ (q : Grid). q.ticks) is)

walked : {S : Type 0} (f : S → Hit → S) (g : Grid) (file : List ℕ) (s : S) (hs : List Hit) → hits g file ≡ Ok hs
    → walk f g file first_event s ≡ Ok (over f s hs)
unfolding hits
walked f g file s hs e = ap (λ (r : Answer (List Hit)). r >>= (λ hs. Ok (over f s hs))) e

pub passes_right : PassesRight
passes_right steps quarter file g hs one f k =
    let ticks = some_ticks steps quarter file g f in
    let fine = read_fine steps quarter file g hs one f k in
    let in_order = (read_so g file hs k).in_order in
    record {
      counting = walked (tally g) g file (tallies 0 (zeros 128) (zeros 128) (zeros 128)) hs k;
      counts = counting_right g hs ticks fine in_order;
      filling = λ a b c d. walked (placed g hs) g file (begun a b c d) hs k;
      lists = λ a b c d. filling_right g hs a b c d ticks fine in_order;
    }

-- ---- what `fill` asks

pub record Framed (steps : ℕ) (file : List ℕ) (g : Grid) : Type 0 where
  pub small : length file ≤ 16777216
  pub headed : 22 ≤ length file
  pub steps_are : g.steps ≡ steps

pub framed : (steps quarter : ℕ) (file : List ℕ) (g : Grid) → chunks steps quarter file ≡ Ok g → Framed steps file g
unfolding chunks heading
framed steps quarter file g f =
    let (small, f₁) = check_gives (leb (length file) 16777216) too_large _ f in
    let (ticks, _, f₂) = bind_gives (header quarter file) _ f₁ in
    let (_, e, f₃) = bind_gives (heading file) _ f₂ in
    let (long, _) = check_gives (leb 22 (length file)) (midi_file 14) _ e in
    let is : grid ticks steps ≡ g = ok_same f₃ in
    record {
      small = leb-true (length file) 16777216 small;
      headed = leb-true 22 (length file) long;
      steps_are = sym (ap (λ (q : Grid). q.steps) is);
    }

pub fits : Fits
fits steps quarter file g hs a b c d one few f k la lb lc ld =
    let ticks = some_ticks steps quarter file g f in
    let fine = read_fine steps quarter file g hs one f k in
    let in_order = (read_so g file hs k).in_order in
    let w = framed steps quarter file g f in
    let l = accepted g hs fine in
    let postings : length (lists_of g hs).posting_ids ≡ total (counted g hs).postings = postings_room g hs a b c d ticks fine in_order in
    let positions : length (lists_of g hs).positions ≡ total (counted g hs).positions = positions_room g hs a b c d ticks fine in_order in
    let many : length (counted g hs).postings ≡ 128 = many_postings g hs a b c d ticks fine in_order in
    let many' : length (counted g hs).positions ≡ 128 = many_positions g hs a b c d ticks fine in_order in
    let as_many : length (lists_of g hs).position_counts ≡ length (lists_of g hs).posting_ids = l.shape.counts in
    record {
      small = w.small;
      headed = w.headed;
      some_ticks = ticks;
      some_steps = omega (arith, w.steps_are);
      steps_few = omega (arith, w.steps_are);
      no_last = zeros_low 128;
      no_postings = zeros_low 128;
      no_positions = zeros_low 128;
      no_inside = zeros_low 128;
      postings_long = zeros_length 128;
      positions_long = zeros_length 128;
      starts_low = record { holds = λ n. starts_low 0 (counted g hs).postings 16777216 (omega (arith, l.small.posting_ids)) n };
      marks_low = record { holds = λ n. starts_low 0 (counted g hs).positions 16777216 (omega (arith, l.small.positions)) n };
      total = counted g hs;
      counted = walked (tally g) g file (tallies 0 (zeros 128) (zeros 128) (zeros 128)) hs k;
      ids_fit = λ n h. omega (arith, starts_fit 0 (counted g hs).postings n (omega arith));
      counts_fit = λ n h. omega (arith, starts_fit 0 (counted g hs).postings n (omega arith));
      steps_fit = λ n h. omega (arith, starts_fit 0 (counted g hs).positions n (omega arith));
      velocities_fit = λ n h. omega (arith, velocities_many g hs, starts_fit 0 (counted g hs).positions n (omega arith));
    }
