-- The writer, given room, accepts the lists of a file's hits.
-- Assumes nothing.
use mathlib.Core.Path.{◌≡◌, refl, ap, ◌∙◌}
use mathlib.Core.List.{List, [], ◌∷◌, map, map-map, map-id}
use mathlib.Core.Logic.{◌⊎◌, inl, inr}
use Prim.Native.Nat.{ℕ, ◌*◌, ◌≤◌, ◌<◌}
use native.Mathlib.Omega.{arith}
use lib.Dec.{leb}
use borrow.Author.Tests.{eqb-true, leb-true}
use Rattle.common.proofs.Loops.{lt_or_ge}
use lib.ListN.{length, length-map}
use Rattle.common.specs.Elements.{◌∈◌, Rising}
use Rattle.segment.specs.Records.{Term, Posting}
use Rattle.segment.specs.Metadata.{document}
use Rattle.segment.specs.Refusals.{too_large}
use Rattle.segment.proofs.Binds.{bind_gives, ok_same}
use Rattle.segment.proofs.Accepted.{check_gives}
use Rattle.common.proofs.Elements.{map_from}
use Rattle.common.specs.Members.{some_of}
use Rattle.common.proofs.Membership.{some_gives, kept_gives, map_gives, in_some, joined_gives}
use Rattle.common.proofs.Kept.{kept_fewer, map_same}
use Rattle.calls.specs.Given.{laid_flat}
use Rattle.common.specs.Lists.{joined}
use Rattle.calls.specs.Acceptance.{NamesRising, PostingFine, TermFine, Small, Shape}
use Rattle.midi_read.specs.declared.track.Hit.{Hit}
use Rattle.midi_read.specs.Files.{Grid, bar_of, position_of, grid, header, heading, chunks}
use Rattle.midi_read.proofs.Fine.{read_so}
use Rattle.midi_bars.specs.Bars.{rising_from, name_of, of_sound, in_bar, on_position, bar_count}
use Rattle.midi_bars.specs.Bars.{sounds_of, bars_of, positions_of, posting_of, term_of, given_of, lists_of}
use Rattle.midi_bars.specs.Claims.{HitsFine, Struck, Accepted, ReadFine}
use Rattle.calls.proofs.Unflat.{total_joined}
use Rattle.calls.proofs.Shaped.{flat_shape, ends_count}
use Rattle.midi_bars.proofs.Ranges.{range_gives, range_from, range_length, range_rising, kept_rising}
use Rattle.midi_bars.proofs.Named.{name_text, name_before}
use Rattle.midi_bars.proofs.Counted.{sum, bit, cells, sum_le, sum_kept, sum_append, sum_map, kept_length, few_cells}
use Rattle.midi_bars.proofs.Struck.{stands_for, bar_some, sounds_gives, position_below, positions_rise, bars_rise, bar_struck}
use Rattle.midi_bars.proofs.Struck.{position_from, bar_from}

-- ---- pictures of lists that rise

map_ids : {A : Type 0} (f : ℕ → A) (id : A → ℕ) → ((x : ℕ) → id (f x) ≡ x) → (xs : List ℕ) → map id (map f xs) ≡ xs
map_ids f id e xs = map-map id f xs ∙ map_same (λ x. id (f x)) (λ x. x) xs (λ x m. e x) ∙ map-id xs

names_rise : (f : ℕ → Term) → ((n : ℕ) → (f n).name ≡ name_of n) → (ns : List ℕ) → Rising ns → NamesRising (map (λ t. t.name) (map f ns))
names_rise f e [] r = tt
names_rise f e (n ∷ []) r = tt
names_rise f e (n ∷ (m ∷ ms)) (up, r) = (rw (e n, e m) (name_before n m up), names_rise f e (m ∷ ms) r)

module _ (g : Grid) (hs : List Hit) where
  by_sound : (ns : List ℕ) → sum (λ (p : Posting). length p.positions) (joined (map (λ (t : Term). t.postings) (map (term_of g hs) ns)))
      ≡ sum (λ n. sum (λ b. length (positions_of g hs n b)) (bars_of g hs n)) ns
  by_sound [] = refl
  by_sound (n ∷ ns) =
      sum_append (λ (p : Posting). length p.positions) (map (posting_of g hs n) (bars_of g hs n)) _
      ∙ rw (sum_map (λ (p : Posting). length p.positions) (posting_of g hs n) (bars_of g hs n), by_sound ns)

  -- each name has four bytes
  pub text_few : (ns : List ℕ) → length (joined (map (λ (t : Term). t.name) (map (term_of g hs) ns))) ≡ 4 * length ns
  text_few [] = refl
  text_few (n ∷ ns) = omega (arith, text_few ns)

module _ (g : Grid) (hs : List Hit) (fine : HitsFine g hs) where
  -- ---- one posting

  bars_below : (n b : ℕ) → b ∈ bars_of g hs n → b < bar_count g hs
  unfolding bars_of
  bars_below n b m = omega (arith, range_gives 0 (bar_count g hs) b (kept_gives _ _ b m).0)

  posting_fine : (n b : ℕ) → b ∈ bars_of g hs n → PostingFine (given_of g hs).documents (posting_of g hs n b)
  unfolding given_of
  posting_fine n b m =
      let (p, s) = bar_struck g hs n b m in
      record {
        of = document b g.steps;
        known =
            map_from (λ b. document b g.steps) (rising_from 0 (bar_count g hs)) b
            (range_from 0 (bar_count g hs) b (omega arith) (omega (arith, bars_below n b m)));
        same = refl;
        has_positions = in_some (positions_of g hs n b) p (position_from g hs fine.a_step n b p s);
        rising = positions_rise g hs n b;
        inside = position_below g hs n b;
      }

  -- ---- one sound

  sound_struck : (n : ℕ) → n ∈ sounds_of g hs → (b : ℕ) × (p : ℕ) × Struck g hs n b p
  unfolding sounds_of
  sound_struck n m =
      let (h, there, t) = some_gives (of_sound n) hs (kept_gives _ (rising_from 0 128) n m).1 in
      (bar_of g h, position_of g h, record { hit = h; there = there; sound = eqb-true h.note n t; in_bar = refl; on = refl })

  docs_rise : (n : ℕ) → Rising (map (λ p. p.doc) (map (posting_of g hs n) (bars_of g hs n)))
  docs_rise n = rw (map_ids (posting_of g hs n) (λ p. p.doc) (λ x. refl) (bars_of g hs n)) (bars_rise g hs n)

  term_fine : (n : ℕ) → n ∈ sounds_of g hs → TermFine (given_of g hs).documents (term_of g hs n)
  term_fine n m =
      let (b, p, s) = sound_struck n m in
      record {
        text = name_text n (sounds_gives g hs n m);
        not_empty = omega arith;
        has_postings =
            in_some (map (posting_of g hs n) (bars_of g hs n)) (posting_of g hs n b)
            (map_from (posting_of g hs n) (bars_of g hs n) b (bar_from g hs fine.a_step n b p s));
        rising = docs_rise n;
        each = λ q k. let (b', j, e) = map_gives (posting_of g hs n) (bars_of g hs n) q k in rw e (posting_fine n b' j);
      }

  -- ---- the sizes

  sounds_few : length (sounds_of g hs) ≤ 128
  unfolding sounds_of
  sounds_few = omega (arith, kept_fewer (λ n. some_of (of_sound n) hs) (rising_from 0 128), range_length 0 128)

  bars_few : bar_count g hs ≤ 65536
  bars_few = step (lt_or_ge 65536 (bar_count g hs))
    where
      step : (65536 < bar_count g hs) ⊎ (bar_count g hs ≤ 65536) → bar_count g hs ≤ 65536
      step (inl l) = let (h, m, k) = bar_some g hs 65536 l in absurd (omega (arith, fine.near h m))
      step (inr l) = l

  abbrev all : List Posting
  all = joined (map (λ (t : Term). t.postings) (map (term_of g hs) (sounds_of g hs)))

  one_posting : (n b : ℕ) → length (positions_of g hs n b) ≤ sum (λ p. bit (some_of (on_position g n b p) hs)) (rising_from 0 g.steps)
  unfolding positions_of
  one_posting n b = omega (arith, kept_length (λ p. some_of (on_position g n b p) hs) (rising_from 0 g.steps))

  one_sound : (n : ℕ) → sum (λ b. length (positions_of g hs n b)) (bars_of g hs n)
      ≤ sum (λ b. sum (λ p. bit (some_of (on_position g n b p) hs)) (rising_from 0 g.steps)) (rising_from 0 (bar_count g hs))
  unfolding bars_of
  one_sound n =
      let fewer = sum_kept (λ b. some_of (in_bar g n b) hs) (λ b. length (positions_of g hs n b)) (rising_from 0 (bar_count g hs)) in
      let each = sum_le (λ b. length (positions_of g hs n b)) _ (rising_from 0 (bar_count g hs)) (one_posting n) in
      omega (arith, fewer, each)

  all_sounds : sum (λ n. sum (λ b. length (positions_of g hs n b)) (bars_of g hs n)) (sounds_of g hs)
      ≤ cells g 128 (bar_count g hs) g.steps hs
  unfolding sounds_of
  all_sounds =
      let f : ℕ → ℕ = λ n. sum (λ b. length (positions_of g hs n b)) (bars_of g hs n) in
      let fewer = sum_kept (λ n. some_of (of_sound n) hs) f (rising_from 0 128) in
      let each = sum_le f _ (rising_from 0 128) one_sound in
      omega (arith, fewer, each)

  positions_few : length (joined (map (λ (p : Posting). p.positions) all)) ≤ length hs
  positions_few =
      omega (
        arith,
        total_joined (λ (p : Posting). p.positions) all,
        by_sound g hs (sounds_of g hs),
        all_sounds,
        few_cells g 128 (bar_count g hs) g.steps hs,
      )

  -- each posting has a position
  at_least : (ps : List Posting) → ((p : Posting) → p ∈ ps → 0 < length p.positions)
      → length ps ≤ sum (λ (p : Posting). length p.positions) ps
  at_least [] h = omega arith
  at_least (p ∷ ps) h = omega (arith, h p (inl refl), at_least ps (λ q m. h q (inr m)))

  has_some : (q : Posting) → q ∈ all → 0 < length q.positions
  has_some q m =
      let (ps, k, j) = joined_gives (map (λ (t : Term). t.postings) (map (term_of g hs) (sounds_of g hs))) q m in
      let (t, i, e) = map_gives (λ (t : Term). t.postings) (map (term_of g hs) (sounds_of g hs)) ps k in
      let (n, among, is) = map_gives (term_of g hs) (sounds_of g hs) t i in
      let in_term : q ∈ (term_of g hs n).postings = rw (e ∙ ap (λ (t : Term). t.postings) is) at j in
      ((term_fine n among).each q in_term).has_positions

  postings_few : length all ≤ length hs
  postings_few = omega (arith, at_least all has_some, total_joined (λ (p : Posting). p.positions) all, positions_few)

  small : Small (lists_of g hs)
  unfolding lists_of laid_flat given_of
  small =
      let few = fine.few in
      let ts = map (term_of g hs) (sounds_of g hs) in
      let sounds : length ts ≤ 128 = omega (arith, length-map (sounds_of g hs) (term_of g hs), sounds_few) in
      let ds = map (λ b. document b g.steps) (rising_from 0 (bar_count g hs)) in
      let bars : length ds ≤ 65536 =
      omega (arith, length-map (rising_from 0 (bar_count g hs)) (λ b. document b g.steps), range_length 0 (bar_count g hs), bars_few) in
      record {
        ids = omega (arith, length-map ds (λ d. d.id));
        lengths = omega (arith, length-map ds (λ d. d.len));
        text = omega (arith, text_few g hs (sounds_of g hs), sounds_few);
        ends = omega (arith, ends_count 0 (map (λ t. t.name) ts), length-map ts (λ t. t.name));
        posting_counts = omega (arith, length-map ts (λ t. length t.postings));
        posting_ids = omega (arith, length-map all (λ p. p.doc), postings_few);
        position_counts = omega (arith, length-map all (λ p. length p.positions), postings_few);
        positions = omega (arith, positions_few);
      }

  sounds_rise : Rising (sounds_of g hs)
  unfolding sounds_of
  sounds_rise = kept_rising _ 0 128

  documents_rise : Rising (map (λ d. d.id) (given_of g hs).documents)
  unfolding given_of
  documents_rise =
      rw (map_ids (λ b. document b g.steps) (λ d. d.id) (λ x. refl) (rising_from 0 (bar_count g hs))) (range_rising 0 (bar_count g hs))

  all_names_rise : NamesRising (map (λ t. t.name) (given_of g hs).terms)
  unfolding given_of
  all_names_rise = names_rise (term_of g hs) (λ n. refl) (sounds_of g hs) sounds_rise

  terms_fine : (t : Term) → t ∈ (given_of g hs).terms → TermFine (given_of g hs).documents t
  unfolding given_of
  terms_fine t m = let (n, k, e) = map_gives (term_of g hs) (sounds_of g hs) t m in rw e (term_fine n k)

  shape : Shape (lists_of g hs)
  unfolding lists_of
  shape = flat_shape (given_of g hs)

pub accepted : Accepted
accepted g hs fine = record {
  small = small g hs fine;
  shape = shape g hs fine;
  documents_rise = rw (stands_for g hs) (documents_rise g hs fine);
  names_rise = rw (stands_for g hs) (all_names_rise g hs fine);
  each = λ t m. rw (stands_for g hs) (terms_fine g hs fine t (rw (stands_for g hs) at m));
}

-- ---- a file that was read

pub read_fine : ReadFine
unfolding chunks
read_fine steps quarter file g hs one f k =
    let (small, f₁) = check_gives (leb (length file) 16777216) too_large _ f in
    let (ticks, _, f₂) = bind_gives (header quarter file) _ f₁ in
    let (_, _, f₃) = bind_gives (heading file) _ f₂ in
    let is : grid ticks steps ≡ g = ok_same f₃ in
    let steps_are : steps ≡ g.steps = ap (λ (q : Grid). q.steps) is in
    let s = read_so g file hs k in
    record {
      a_step = omega arith;
      few = omega (arith, s.few, leb-true (length file) 16777216 small);
      audible = s.audible;
      near = s.near;
    }
