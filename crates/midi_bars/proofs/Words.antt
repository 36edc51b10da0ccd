-- The lists of a file hold what the file plays, in the customer's words.
-- Assumes nothing.
use Rattle.std.specs.Prelude.{Ok}
use mathlib.Core.Path.{◌≡◌, refl, sym, ap, subst, ◌∙◌}
use mathlib.Core.Bool.{true, ◌&&◌}
use mathlib.Core.List.{List, map}
use mathlib.Core.Logic.{◌↔◌}
use Prim.Native.Nat.{ℕ, ◌+◌, ◌*◌, ◌/◌, ◌%◌, ◌≤◌, ◌<◌}
use native.Mathlib.Nat.{mod-lt, div-add-mod', add-mul-div_right, add-mul-mod_self_right, div-eq_of_lt, mod-eq_of_lt}
use native.Mathlib.Omega.{arith}
use lib.Dec.{ltb, leb, eqb}
use lib.ListN.{length, take, length-map}
use borrow.Author.Tests.{ltb-true, leb-true, eqb-true, lt-ltb, le-leb, eq-eqb}
use Rattle.common.proofs.Loops.{and_left, and_right}
use Rattle.common.proofs.Membership.{map_gives}
use Rattle.common.specs.Elements.{◌∈◌, Rising}
use Rattle.segment.specs.Records.{Document}
use Rattle.segment.specs.Metadata.{document}
use Rattle.segment.specs.Refusals.{too_large, midi_file}
use Rattle.segment.specs.Names.{same}
use Rattle.segment.proofs.Binds.{bind_gives, ok_same}
use Rattle.segment.proofs.Accepted.{check_gives}
use Rattle.calls.specs.Given.{Lists, given, laid_flat}
use Rattle.midi_read.specs.declared.track.Hit.{Hit}
use Rattle.midi_read.specs.Tracks.{WithinRules}
use Rattle.midi_read.proofs.Headed.{files_exactly}
use Rattle.midi_read.specs.Files.{Grid, grid, step_of, bar_of, position_of, division_fits, header_start, header, heading, chunks, hits}
use Rattle.midi_bars.specs.Bars.{rising_from, name_of, bar_count, sounds_of, term_of, given_of, lists_of}
use Rattle.midi_bars.specs.Imports.{import_file}
use Rattle.midi_bars.specs.Words.{division, Plays}
use Rattle.midi_bars.specs.Claims.{HitsFine, Struck, Listed, UpToAHit, HoldsFile, ReadExactly, FileHeld, ImportAccepted, DivisionExactly}
use Rattle.calls.proofs.Shaped.{ends_count}
use Rattle.midi_bars.proofs.Named.{name_one}
use Rattle.midi_bars.proofs.Struck.{hits_held, stands_for}
use Rattle.midi_bars.proofs.Fine.{accepted, read_fine, text_few}

-- ---- a step is a bar and a position

pub step_is : (s x b p : ℕ) → x / s ≡ b → x % s ≡ p → x ≡ s * b + p
step_is s x b p e f = sym (div-add-mod' x s) ∙ rw (e, f) (omega arith)

pub parted : (s x b p : ℕ) → p < s → x ≡ s * b + p → (x / s ≡ b) × (x % s ≡ p)
parted s x b p l e =
    let turned : x ≡ p + b * s = omega arith in
    let some : 0 < s = omega arith in (
      rw (turned, add-mul-div_right p b {z = s} some, div-eq_of_lt l) (omega arith),
      rw (turned, add-mul-mod_self_right p b s) (mod-eq_of_lt l),
    )

-- ---- the header's grid

ticks_are : (quarter : ℕ) (file : List ℕ) (ticks : ℕ) → header quarter file ≡ Ok ticks → ticks ≡ division file / quarter
unfolding header
ticks_are quarter file ticks f =
    let (_, f₁) = check_gives (leb 14 (length file)) (midi_file 0) _ f in
    let (_, f₂) = check_gives (same (take 12 file) header_start) (midi_file 0) _ f₁ in
    let (_, f₃) = check_gives (division_fits quarter (division file)) (midi_file 0) _ f₂ in
    sym (ok_same f₃)

pub grid_is : (steps quarter : ℕ) (file : List ℕ) (g : Grid) → chunks steps quarter file ≡ Ok g → g ≡ grid (division file / quarter) steps
unfolding chunks
grid_is steps quarter file g f =
    let (_, f₁) = check_gives (leb (length file) 16777216) too_large _ f in
    let (ticks, h, f₂) = bind_gives (header quarter file) _ f₁ in
    let (_, _, f₃) = bind_gives (heading file) _ f₂ in
    sym (ok_same f₃) ∙ ap (λ t. grid t steps) (ticks_are quarter file ticks h)

-- ---- the lists of a file's hits

module _ (steps quarter : ℕ) (file : List ℕ) (hs : List Hit) where
  abbrev own_grid : Grid
  own_grid = grid (division file / quarter) steps

  module _ (fine : HitsFine own_grid hs) where
    -- a hit of the file, and a hit in a bar on a position
    plays_struck : (n b p : ℕ) → p < steps → Plays quarter file hs n (steps * b + p) → Struck own_grid hs n b p
    plays_struck n b p l w =
        let (in_bar, on) = parted steps (step_of own_grid w.hit) b p l w.on_step in
        record { hit = w.hit; there = w.there; sound = w.of_note; in_bar = in_bar; on = on }

    struck_plays : (n b p : ℕ) → Struck own_grid hs n b p → Plays quarter file hs n (steps * b + p)
    struck_plays n b p s = record {
      hit = s.hit;
      there = s.there;
      of_note = s.sound;
      on_step = step_is steps (step_of own_grid s.hit) b p s.in_bar s.on;
    }

    struck_inside : (n b p : ℕ) → Struck own_grid hs n b p → p < steps
    struck_inside n b p s = omega (arith, mod-lt (step_of own_grid s.hit) fine.a_step, s.on)

    struck_low : (n b p : ℕ) → Struck own_grid hs n b p → n < 128
    struck_low n b p s = omega (arith, (fine.audible s.hit s.there).note, s.sound)

    exactly_so : (n b p : ℕ) → p < steps
        → Listed (given (lists_of own_grid hs)) (name_of n) b p ↔ Plays quarter file hs n (steps * b + p)
    exactly_so n b p l = (
      λ w. let (m, _, e, s) = (hits_held own_grid hs fine).only (name_of n) b p w in
          let is : m ≡ n = sym (name_one n m e) in
          struck_plays n b p (rw is at s),
      λ w. let s = plays_struck n b p l w in ((hits_held own_grid hs fine).kept n b p (struck_low n b p s)).0 s,
    )

    only_so : (name : List ℕ) (b p : ℕ) → Listed (given (lists_of own_grid hs)) name b p
        → (n : ℕ) × (n < 128) × (name ≡ name_of n) × (p < steps)
    only_so name b p w =
        let (n, low, e, s) = (hits_held own_grid hs fine).only name b p w in
        (n, low, e, struck_inside n b p s)

    -- a bar that some hit is not before
    up_to : (b : ℕ) → (h : Hit) × (h ∈ hs) × (b ≤ bar_of own_grid h) → UpToAHit steps quarter file hs b
    up_to b (h, m, l) = record {
      later = bar_of own_grid h;
      note = h.note;
      position = position_of own_grid h;
      from_here = l;
      inside = mod-lt (step_of own_grid h) fine.a_step;
      plays = struck_plays _ _ _ (record { hit = h; there = m; sound = refl; in_bar = refl; on = refl });
    }

    up_from : (b : ℕ) → UpToAHit steps quarter file hs b → (h : Hit) × (h ∈ hs) × (b ≤ bar_of own_grid h)
    up_from b u =
        let s = plays_struck u.note u.later u.position u.inside u.plays in
        (s.hit, s.there, omega (arith, s.in_bar, u.from_here))

    bars_so : (b : ℕ) → (b ∈ (lists_of own_grid hs).ids) ↔ UpToAHit steps quarter file hs b
    unfolding lists_of laid_flat
    bars_so b =
        let are = rw (stands_for own_grid hs) at ((hits_held own_grid hs fine).bars b) in
        (λ m. up_to b (are.0 m), λ u. are.1 (up_from b u))

    rising_so : Rising (lists_of own_grid hs).ids
    unfolding lists_of laid_flat
    rising_so = rw (stands_for own_grid hs) at (accepted own_grid hs fine).documents_rise

    lengths_so : (n : ℕ) → n ∈ (lists_of own_grid hs).lengths → n ≡ steps
    unfolding lists_of laid_flat given_of
    lengths_so n m =
        let ds = map (λ b. document b steps) (rising_from 0 (bar_count own_grid hs)) in
        let (d, k, is) = map_gives (λ (d : Document). d.len) ds n m in
        let (b, _, e) = map_gives (λ b. document b steps) (rising_from 0 (bar_count own_grid hs)) d k in
        is ∙ ap (λ (d : Document). d.len) e

    held : HoldsFile steps quarter file hs (lists_of own_grid hs)
    held = record {
      exactly = λ n b p. exactly_so n b p;
      only = only_so;
      bars = bars_so;
      rising = rising_so;
      lengths = lengths_so;
      fine = accepted own_grid hs fine;
    }

-- ---- a file that is read

module _ (steps quarter : ℕ) (file : List ℕ) (l : Lists) (read : import_file steps quarter file ≡ Ok l) where
  -- its hits, and the lists made of them
  came_from : (g : Grid) × (hs : List Hit) × (chunks steps quarter file ≡ Ok g) × (hits g file ≡ Ok hs) × (lists_of g hs ≡ l)
  unfolding import_file
  came_from =
      let (g, c, f) = bind_gives (chunks steps quarter file) _ read in
      let (hs, h, f₁) = bind_gives (hits g file) _ f in
      (g, hs, c, h, ok_same f₁)

module _ (steps quarter : ℕ) (file : List ℕ) (g : Grid) (hs : List Hit) (c : chunks steps quarter file ≡ Ok g)
    (h : hits g file ≡ Ok hs) where
  held_by : (l : Lists) → lists_of g hs ≡ l → 1 ≤ steps → HoldsFile steps quarter file hs l
  held_by l is one =
      let so = grid_is steps quarter file g c in
      subst (λ (m : Lists). HoldsFile steps quarter file hs m) is
      (rw so (held steps quarter file hs (rw so at (read_fine steps quarter file g hs one c h))))

  pub their_hits : WithinRules steps quarter file hs
  their_hits = (files_exactly steps quarter file hs).0 (rw (c, h))

pub file_held : FileHeld
file_held steps quarter file l one read =
    let (g, hs, c, h, is) = came_from steps quarter file l read in
    (hs, their_hits steps quarter file g hs c h, held_by steps quarter file g hs c h l is one)

read_so : (steps quarter : ℕ) (file : List ℕ) (g : Grid) (hs : List Hit) → chunks steps quarter file ≡ Ok g → hits g file ≡ Ok hs
    → import_file steps quarter file ≡ Ok (lists_of g hs)
unfolding import_file
read_so steps quarter file g hs c h = rw (c, h)

pub read_exactly : ReadExactly
read_exactly steps quarter file = (to, from)
  where
    to : (l : Lists) × (import_file steps quarter file ≡ Ok l) → (hs : List Hit) × WithinRules steps quarter file hs
    to (l, read) = let (g, hs, c, h, _) = came_from steps quarter file l read in (hs, their_hits steps quarter file g hs c h)

    from : (hs : List Hit) × WithinRules steps quarter file hs → (l : Lists) × (import_file steps quarter file ≡ Ok l)
    from (hs, w) =
        let (g, c, h) = bind_gives (chunks steps quarter file) (λ g. hits g file) ((files_exactly steps quarter file hs).1 w) in
        (lists_of g hs, read_so steps quarter file g hs c h)

pub import_accepted : ImportAccepted
import_accepted steps quarter file l one read =
    let (g, hs, c, h, is) = came_from steps quarter file l read in
    rw (← is) (accepted g hs (read_fine steps quarter file g hs one c h))

-- each name has four bytes
pub text_length : (g : Grid) (hs : List Hit) → length (lists_of g hs).text ≡ 4 * length (lists_of g hs).ends
unfolding lists_of laid_flat given_of
text_length g hs =
    let ts = map (term_of g hs) (sounds_of g hs) in
    omega (
      arith,
      text_few g hs (sounds_of g hs),
      ends_count 0 (map (λ t. t.name) ts),
      length-map ts (λ t. t.name),
      length-map (sounds_of g hs) (term_of g hs),
    )

pub import_text : (steps quarter : ℕ) (file : List ℕ) (l : Lists) → import_file steps quarter file ≡ Ok l
    → length l.text ≡ 4 * length l.ends
import_text steps quarter file l read =
    let (g, hs, _, _, is) = came_from steps quarter file l read in
    rw (← is) (text_length g hs)

-- ---- the division

pub division_exactly : DivisionExactly
division_exactly d = (to, from)
  where
    to : division_fits 4 d ≡ true → (4 ≤ d) × (d ≤ 32764) × (d % 4 ≡ 0)
    to e =
        let whole = eqb-true (d % 4) 0 (and_right (ltb 0 d && leb d 32767) (eqb (d % 4) 0) e) in
        let both = and_left (ltb 0 d && leb d 32767) (eqb (d % 4) 0) e in
        let some = ltb-true 0 d (and_left (ltb 0 d) (leb d 32767) both) in
        let most = leb-true d 32767 (and_right (ltb 0 d) (leb d 32767) both) in
        (omega arith, omega arith, whole)

    from : (4 ≤ d) × (d ≤ 32764) × (d % 4 ≡ 0) → division_fits 4 d ≡ true
    from (least, most, whole) = rw (lt-ltb 0 d (omega arith), le-leb d 32767 (omega arith), eq-eqb (d % 4) 0 whole)
