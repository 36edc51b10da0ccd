-- The velocities: one beside each position, that of the loudest hit there.
-- Assumes nothing.
use Rattle.std.specs.Prelude.{Err, Ok}
use mathlib.Core.Path.{◌≡◌, refl, sym, ap, subst, ◌∙◌}
use mathlib.Core.Bool.{Bool, true, false, cond}
use mathlib.Core.List.{List, [], ◌∷◌, map, map-map, map-id}
use mathlib.Core.Logic.{inl, inr}
use Prim.Native.Nat.{ℕ, zero, suc, ◌+◌, ◌*◌, ◌-◌, ◌/◌, ◌≤◌, ◌<◌}
use native.Mathlib.Omega.{arith}
use lib.Dec.{ltb}
use lib.ListN.{length, get_or, length-map}
use borrow.Author.Tests.{ltb-true, ltb-false}
use Rattle.common.specs.Elements.{◌∈◌}
use Rattle.common.specs.Members.{kept}
use Rattle.common.specs.Lists.{joined}
use Rattle.common.proofs.Elements.{map_from}
use Rattle.common.proofs.Membership.{kept_gives, kept_from, map_gives, at_place}
use Rattle.common.proofs.Kept.{map_same}
use Rattle.segment.specs.Records.{Given, Term, Posting}
use Rattle.segment.specs.Results.{Answer, ◌>>=◌}
use Rattle.segment.proofs.Binds.{bind_gives, ok_same, refuse_ok}
use Rattle.calls.specs.Given.{Lists, given, laid_flat}
use Rattle.midi_read.specs.declared.track.Hit.{Hit}
use Rattle.midi_read.specs.Files.{Grid, grid, step_of, chunks, hits}
use Rattle.midi_bars.specs.Bars.{greater, name_of, on_position, sounds_of, bars_of, positions_of, posting_of, term_of, given_of, lists_of}
use Rattle.midi_bars.specs.Loudness.{greatest, AllLists, loudest, velocities_of, all_of}
use Rattle.midi_bars.specs.Imports.{import_file, import_all}
use Rattle.midi_bars.specs.Words.{division}
use Rattle.midi_bars.specs.Claims.{HitsFine}
use Rattle.midi_bars.specs.LoudClaims.{for_the_writer, ListsStayed, Loudest, PositionUnder, position_under, all_positions}
use Rattle.midi_bars.specs.LoudClaims.{HoldsLoudness, LoudnessHeld}
use Rattle.midi_bars.proofs.Nested.{map_joined, joined_twice, parts_give}
use Rattle.midi_bars.proofs.Struck.{stands_for, on_true, on_gives, position_gives, position_below}
use Rattle.midi_bars.proofs.Fine.{read_fine}
use Rattle.midi_bars.proofs.Words.{step_is, parted, grid_is, their_hits}

-- ---- the greatest

pub greater_sum : (a b : ℕ) → greater a b ≡ a + (b - a)
greater_sum a b = step (ltb a b) refl
  where
    step : (x : Bool) → ltb a b ≡ x → cond x b a ≡ a + (b - a)
    step true e = omega (arith, ltb-true a b e)
    step false e = omega (arith, ltb-false a b e)

greatest_above : (vs : List ℕ) (v : ℕ) → v ∈ vs → v ≤ greatest vs
unfolding greatest
greatest_above [] v m = absurd m
greatest_above (x ∷ vs) v (inl e) = omega (arith, greater_sum x (greatest vs))
greatest_above (x ∷ vs) v (inr m) = omega (arith, greater_sum x (greatest vs), greatest_above vs v m)

greatest_in : (x : ℕ) (vs : List ℕ) → greatest (x ∷ vs) ∈ (x ∷ vs)
unfolding greatest
greatest_in x [] = inl (omega (arith, greater_sum x 0))
greatest_in x (y ∷ vs) = step (ltb x (greatest (y ∷ vs))) (greatest_in y vs)
  where
    step : (b : Bool) → greatest (y ∷ vs) ∈ (y ∷ vs) → cond b (greatest (y ∷ vs)) x ∈ (x ∷ (y ∷ vs))
    step true m = inr m
    step false m = inl refl

greatest_some : (vs : List ℕ) (v : ℕ) → v ∈ vs → greatest vs ∈ vs
greatest_some [] v m = absurd m
greatest_some (x ∷ vs) v m = greatest_in x vs

map_at : {A B : Type 0} (f : A → B) (xs : List A) (i : ℕ) (d : B) (e : A) → i < length xs → get_or (map f xs) i d ≡ f (get_or xs i e)
map_at f [] i d e l = absurd (omega arith)
map_at f (x ∷ xs) zero d e l = refl
map_at f (x ∷ xs) (suc i) d e l = map_at f xs i d e (omega arith)

-- ---- the places of the lists

record Cell : Type 0 where
  pub note : ℕ
  pub bar : ℕ
  pub position : ℕ

abbrev cell : (note bar position : ℕ) → Cell
cell n b p = record { note = n; bar = b; position = p }

abbrev spot_of : Cell → PositionUnder
spot_of c = position_under (name_of c.note) c.bar c.position

-- the positions of any lists stand in the order of the places
positions_there : (g : Given) → map (λ (s : PositionUnder). s.position) (all_positions g) ≡ (laid_flat g).positions
unfolding laid_flat
positions_there g =
    let under : Term → List (List ℕ) = λ t. map (λ p. p.positions) t.postings in
    map_joined (λ (s : PositionUnder). s.position)
    (λ t. joined (map (λ p. map (position_under t.name p.doc) p.positions) t.postings)) g.terms
    ∙ ap joined (map_same _ (λ t. joined (under t)) g.terms (λ t m.
    map_joined (λ (s : PositionUnder). s.position) (λ (p : Posting). map (position_under t.name p.doc) p.positions) t.postings
    ∙ ap joined (map_same _ (λ p. p.positions) t.postings (λ p k.
    map-map (λ (s : PositionUnder). s.position) (position_under t.name p.doc) p.positions ∙ map-id p.positions))))
    ∙ sym (joined_twice under g.terms)
    ∙ ap joined (sym (map_joined (λ (p : Posting). p.positions) (λ (t : Term). t.postings) g.terms))

module _ (g : Grid) (hs : List Hit) where
  abbrev cells : List Cell
  cells = joined (map (λ n. joined (map (λ b. map (cell n b) (positions_of g hs n b)) (bars_of g hs n))) (sounds_of g hs))

  by_cells : {A : Type 0} (f : Cell → A) → map f cells
      ≡ joined (map (λ n. joined (map (λ b. map (λ p. f (cell n b p)) (positions_of g hs n b)) (bars_of g hs n))) (sounds_of g hs))
  by_cells f =
      map_joined f (λ n. joined (map (λ b. map (cell n b) (positions_of g hs n b)) (bars_of g hs n))) (sounds_of g hs)
      ∙ ap joined (map_same _ _ (sounds_of g hs) (λ n m.
      map_joined f (λ b. map (cell n b) (positions_of g hs n b)) (bars_of g hs n)
      ∙ ap joined (map_same _ _ (bars_of g hs n) (λ b k. map-map f (cell n b) (positions_of g hs n b)))))

  abbrev loud_of : Cell → ℕ
  loud_of c = loudest g hs c.note c.bar c.position

  velocities_are : velocities_of g hs ≡ map loud_of cells
  unfolding velocities_of
  velocities_are = sym (by_cells loud_of)

  spots_are : all_positions (given (lists_of g hs)) ≡ map spot_of cells
  unfolding given_of
  spots_are =
      ap all_positions (stands_for g hs)
      ∙ ap joined (map-map _ (term_of g hs) (sounds_of g hs)
      ∙ map_same _ _ (sounds_of g hs) (λ n m.
      ap joined (map-map (λ (p : Posting). map (position_under (name_of n) p.doc) p.positions) (posting_of g hs n) (bars_of g hs n))))
      ∙ sym (by_cells spot_of)

  positions_are : map (λ (s : PositionUnder). s.position) (all_positions (given (lists_of g hs))) ≡ (lists_of g hs).positions
  unfolding lists_of
  positions_are =
      ap (λ (x : Given). map (λ (s : PositionUnder). s.position) (all_positions x)) (stands_for g hs)
      ∙ positions_there (given_of g hs)

  pub velocities_many : length (velocities_of g hs) ≡ length (lists_of g hs).positions
  velocities_many =
      ap length velocities_are
      ∙ omega (
        arith,
        length-map cells loud_of,
        length-map cells spot_of,
        ap length spots_are,
        length-map (all_positions (given (lists_of g hs))) (λ (s : PositionUnder). s.position),
        ap length positions_are,
      )

  abbrev InPlace : Cell → Type 0
  InPlace c = c.position ∈ positions_of g hs c.note c.bar

  in_cells : (c : Cell) → c ∈ cells → InPlace c
  in_cells c m =
      let (n, _, k) = parts_give (λ n. joined (map (λ b. map (cell n b) (positions_of g hs n b)) (bars_of g hs n))) (sounds_of g hs) c m in
      let (b, _, j) = parts_give (λ b. map (cell n b) (positions_of g hs n b)) (bars_of g hs n) c k in
      let (p, i, e) = map_gives (cell n b) (positions_of g hs n b) c j in
      rw e i

-- ---- the loudest of a step

module _ (steps quarter : ℕ) (file : List ℕ) (hs : List Hit) where
  abbrev own_grid : Grid
  own_grid = grid (division file / quarter) steps

  module _ (n b p : ℕ) (m : p ∈ positions_of own_grid hs n b) where
    abbrev there : List Hit
    there = kept (on_position own_grid n b p) hs

    loudest_there : Loudest quarter file hs n (steps * b + p) (loudest own_grid hs n b p)
    loudest_there =
        let s = position_gives own_grid hs n b p m in
        let vs = map (λ (h : Hit). h.velocity) there in
        let own = kept_from (on_position own_grid n b p) hs s.hit s.there
        (on_true own_grid n b p s.hit s.sound s.in_bar s.on) in
        let some = greatest_some vs _ (map_from (λ (h : Hit). h.velocity) there s.hit own) in
        let (h, k, e) = map_gives (λ (h : Hit). h.velocity) there (greatest vs) some in
        let (among, t) = kept_gives (on_position own_grid n b p) hs h k in
        let (sound, bar, on) = on_gives own_grid n b p h t in
        record {
          one = record { hit = h; there = among; of_note = sound; on_step = step_is steps (step_of own_grid h) b p bar on };
          as_loud = sym e;
          none_louder = λ o.
              let (bar, on) = parted steps (step_of own_grid o.hit) b p (position_below own_grid hs n b p m) o.on_step in
              greatest_above vs o.hit.velocity (map_from (λ (h : Hit). h.velocity) there o.hit
              (kept_from (on_position own_grid n b p) hs o.hit o.there (on_true own_grid n b p o.hit o.of_note bar on)));
        }

  loud_cell : (c : Cell) → c ∈ cells own_grid hs
      → Loudest quarter file hs c.note (steps * c.bar + c.position) (loud_of own_grid hs c)
  loud_cell c m = loudest_there c.note c.bar c.position (in_cells own_grid hs c m)

  abbrev Beside : PositionUnder → (velocity : ℕ) → Type 0
  Beside s v = (note : ℕ) × (s.name ≡ name_of note) × Loudest quarter file hs note (steps * s.bar + s.position) v

  beside_so : (i : ℕ) → i < length (velocities_of own_grid hs)
      → Beside (get_or (all_positions (given (lists_of own_grid hs))) i (position_under [] 0 0)) (get_or (velocities_of own_grid hs) i 0)
  beside_so i l =
      let cs = cells own_grid hs in
      let c = get_or cs i (cell 0 0 0) in
      let below : i < length cs = omega (arith, ap length (velocities_are own_grid hs), length-map cs (loud_of own_grid hs)) in
      rw (
        spots_are own_grid hs,
        velocities_are own_grid hs,
        map_at spot_of cs i (position_under [] 0 0) (cell 0 0 0) below,
        map_at (loud_of own_grid hs) cs i 0 (cell 0 0 0) below,
      )
      (c.note, refl, loud_cell c (at_place (cell 0 0 0) cs i below))

  audible_so : HitsFine own_grid hs → (v : ℕ) → v ∈ velocities_of own_grid hs → (1 ≤ v) × (v ≤ 127)
  audible_so fine v m =
      let (c, k, e) = map_gives (loud_of own_grid hs) (cells own_grid hs) v (rw (velocities_are own_grid hs) at m) in
      let w = loud_cell c k in
      let heard = fine.audible w.one.hit w.one.there in
      (omega (arith, heard.some_velocity, w.as_loud, e), omega (arith, heard.velocity, w.as_loud, e))

  held : HitsFine own_grid hs → HoldsLoudness steps quarter file hs (all_of own_grid hs)
  held fine = record {
    as_many = velocities_many own_grid hs;
    places = positions_are own_grid hs;
    audible = audible_so fine;
    each_loudest = beside_so;
  }

-- ---- a file that is read

pub lists_stayed : ListsStayed
unfolding import_all import_file
lists_stayed steps quarter file = step (chunks steps quarter file)
  where
    after : (g : Grid) (r : Answer (List Hit)) → for_the_writer (r >>= (λ hs. Ok (all_of g hs))) ≡ (r >>= (λ hs. Ok (lists_of g hs)))
    after g (Ok hs) = refl
    after g (Err x) = refl

    step : (r : Answer Grid)
        → for_the_writer (r >>= (λ g. hits g file >>= (λ hs. Ok (all_of g hs)))) ≡ (r >>= (λ g. hits g file >>= (λ hs. Ok (lists_of g hs))))
    step (Ok g) = after g (hits g file)
    step (Err x) = refl

-- read with the velocities, and without
module _ (steps quarter : ℕ) (file : List ℕ) where
  pub without : (a : AllLists) → import_all steps quarter file ≡ Ok a → import_file steps quarter file ≡ Ok a.lists
  without a e = sym (lists_stayed steps quarter file) ∙ ap for_the_writer e

  pub with_all : (l : Lists) → import_file steps quarter file ≡ Ok l → (a : AllLists) × (import_all steps quarter file ≡ Ok a)
  with_all l e = step (import_all steps quarter file) (lists_stayed steps quarter file ∙ e)
    where
      step : (r : Answer AllLists) → for_the_writer r ≡ Ok l → (a : AllLists) × (r ≡ Ok a)
      step (Ok a) e = (a, refl)
      step (Err x) e = refuse_ok e

held_by : (steps quarter : ℕ) (file : List ℕ) (g : Grid) (hs : List Hit) → chunks steps quarter file ≡ Ok g → hits g file ≡ Ok hs
    → 1 ≤ steps → HoldsLoudness steps quarter file hs (all_of g hs)
held_by steps quarter file g hs c h one =
    let so = grid_is steps quarter file g c in
    rw so (held steps quarter file hs (rw so at (read_fine steps quarter file g hs one c h)))

pub loudness_held : LoudnessHeld
unfolding import_all
loudness_held steps quarter file a one read =
    let (g, c, f) = bind_gives (chunks steps quarter file) _ read in
    let (hs, h, f₁) = bind_gives (hits g file) _ f in
    let holds = subst (λ (x : AllLists). HoldsLoudness steps quarter file hs x) (ok_same f₁) (held_by steps quarter file g hs c h one) in
    (hs, their_hits steps quarter file g hs c h, holds)
