-- A file that is read: what its counts say of its lists, and what the second pass leaves.
-- Assumes nothing.
use Rattle.std.specs.Prelude.{Ok}
use mathlib.Core.Path.{◌≡◌, sym, ap, ap₂, subst, ◌∙◌}
use mathlib.Core.List.{List, [], map}
use Prim.Native.Nat.{ℕ, ◌*◌, ◌≤◌}
use native.Mathlib.Omega.{arith}
use lib.ListN.{length, take, replicate}
use lib.Seq.{length-take-le}
use Rattle.common.specs.Lists.{total, joined}
use Rattle.segment.specs.Results.{Answer}
use Rattle.segment.specs.declared.replies.ListTotals.{ListTotals}
use Rattle.segment.proofs.Binds.{ok_same}
use Rattle.calls.specs.Given.{Lists, lists, ends_from}
use Rattle.midi_read.specs.declared.track.Hit.{Hit}
use Rattle.midi_read.specs.Files.{Grid, grid, hits}
use Rattle.midi_read.specs.Claims.{NeverFall}
use Rattle.midi_read.proofs.Fine.{read_so}
use Rattle.midi_bars.specs.Bars.{rising_from, name_of, bar_count, lists_of}
use Rattle.midi_bars.specs.Loudness.{AllLists, beside, velocities_of, all_of}
use Rattle.midi_bars.specs.Claims.{HitsFine}
use Rattle.midi_bars.proofs.Fine.{read_fine, accepted}
use Rattle.midi_bars.proofs.Loud.{velocities_many}
use Rattle.midi_count.specs.Tallies.{starts_from}
use Rattle.midi_count.specs.Claims.{counted}
use Rattle.midi_lists.specs.Heads.{heard, counts_of}
use Rattle.midi_lists.specs.Promise.{Summable, HeadsFit, HeadsPut}
use Rattle.midi_lists.specs.Claims.{HeadsRight, TablesFine}
use Rattle.midi_lists.proofs.Sounds.{heads_are_right}
use Rattle.midi_lists.proofs.Tables.{tables_are_fine}
use Rattle.midi_fill.specs.Stores.{Buffers}
use Rattle.midi_fill.specs.Promise.{Fillable, Filled, FilledSo}
use Rattle.midi_fill.specs.Claims.{ListsRight, begun}
use Rattle.midi_fill.proofs.Laid.{postings_room, positions_room}
use Rattle.midi_fill.proofs.Passed.{some_ticks, fits, passes_right}
use Rattle.midi_import.specs.Steps.{Readable, Tabled, FillFits, FillDone, AsLong, StoreFits, StoreDone}
use Rattle.midi_import.proofs.Rooms.{TotalsOf, RoomEnough}

module _ (file : List ℕ) (ticks steps : ℕ) (hs : List Hit) (w : Readable file ticks steps hs) where
  abbrev g : Grid
  g = grid ticks steps

  a_tick : 1 ≤ ticks
  a_tick = some_ticks steps w.chunked.quarter file g w.chunked.chunks_read

  pub fine : HitsFine g hs
  fine = read_fine steps w.chunked.quarter file g hs w.chunked.some_steps w.chunked.chunks_read w.hits_read

  in_order : NeverFall 0 hs
  in_order = (read_so g file hs w.hits_read).in_order

  pub heads : HeadsRight g hs
  heads = heads_are_right g hs a_tick fine in_order

  -- the lists' lengths, from the tables
  pub totals_are : (t : ListTotals) → t.documents ≡ bar_count g hs → t.terms ≡ length (heard (counted g hs).postings)
      → t.postings ≡ total (counted g hs).postings → t.positions ≡ total (counted g hs).positions → TotalsOf (all_of g hs) t
  totals_are t d n p q =
      let postings = postings_room g hs [] [] [] [] a_tick fine in_order in
      let positions = positions_room g hs [] [] [] [] a_tick fine in_order in
      record {
        ids = heads.ids_length ∙ sym d;
        lengths = heads.lengths_length ∙ sym d;
        text = heads.text_length ∙ ap (λ (m : ℕ). 4 * m) (sym n);
        ends = heads.ends_length ∙ sym n;
        posting_counts = heads.posting_counts_length ∙ sym n;
        posting_ids = postings ∙ sym p;
        position_counts = (accepted g hs fine).shape.counts ∙ postings ∙ sym p;
        positions = positions ∙ sym q;
        velocities = velocities_many g hs ∙ positions ∙ sym q;
      }

  pub tables : TablesFine g hs
  tables = tables_are_fine g hs fine

  -- ---- the second pass

  module _ (starts marks a b c d : List ℕ) (s : starts ≡ starts_from 0 (counted g hs).postings)
      (m : marks ≡ starts_from 0 (counted g hs).positions)
      (la : length a ≡ length (lists_of g hs).posting_ids) (lb : length b ≡ length (lists_of g hs).position_counts)
      (lc : length c ≡ length (lists_of g hs).positions) (ld : length d ≡ length (velocities_of g hs)) where
    pub fillable : Fillable file ticks steps starts marks (begun a b c d)
    fillable =
        rw (s, m)
        (fits steps w.chunked.quarter file g hs a b c d w.chunked.some_steps w.chunked.few_steps w.chunked.chunks_read
        w.hits_read la lb lc ld)

    pub filled_right : (y : Buffers) → Filled file ticks steps starts marks (begun a b c d) y → ListsRight g hs y
    filled_right y f =
        let both = passes_right steps w.chunked.quarter file g hs w.chunked.some_steps w.chunked.chunks_read w.hits_read in
        let f' = subst (λ (r : Answer Buffers). FilledSo r y) (both.filling a b c d) (rw (s, m) at f) in
        subst (λ (x : Buffers). ListsRight g hs x) (sym f') (both.lists a b c d la lb lc ld)

pub fill_done : {file starts marks a b c d : List ℕ} {ticks steps : ℕ} (y : Buffers) → FillFits file ticks steps starts marks a b c d
    → Filled file ticks steps starts marks (begun a b c d) y
    → FillDone (grid ticks steps) file y.ids y.counts y.steps y.velocities
fill_done {file} {starts} {marks} {a} {b} {c} {d} {ticks} {steps} y w f = record { each = each }
  where
    right : ListsRight (grid ticks steps) w.hs y
    right =
        filled_right file ticks steps w.hs w.readable starts marks a b c d w.starts_are w.marks_are w.posting_ids_fit
        w.position_counts_fit w.positions_fit w.velocities_fit y f

    each : (hs : List Hit) → hits (grid ticks steps) file ≡ Ok hs
        → (y.ids ≡ (lists_of (grid ticks steps) hs).posting_ids)
        × (y.counts ≡ (lists_of (grid ticks steps) hs).position_counts)
        × (y.steps ≡ (lists_of (grid ticks steps) hs).positions)
        × (y.velocities ≡ velocities_of (grid ticks steps) hs)
    each hs e =
        let is : w.hs ≡ hs = ok_same (sym w.readable.hits_read ∙ e) in
        subst (λ (h : List Hit). (y.ids ≡ (lists_of (grid ticks steps) h).posting_ids)
        × (y.counts ≡ (lists_of (grid ticks steps) h).position_counts)
        × (y.steps ≡ (lists_of (grid ticks steps) h).positions)
        × (y.velocities ≡ velocities_of (grid ticks steps) h)) is
        (right.posting_ids, right.position_counts, right.positions, right.velocities)

-- ---- all nine lists

pub heads_fit : {file postings starts marks : List ℕ} {ticks steps : ℕ} {b : AllLists}
    → StoreFits file ticks steps postings starts marks b
    → let l = b.lists in HeadsFit postings l.ids l.text l.ends l.posting_counts
heads_fit {file} {postings} {ticks = ticks} {steps = steps} w =
    let h = heads file ticks steps w.hs w.readable in
    rw w.postings_are
    (record {
      ids = omega (arith, w.fit.ids, h.ids_length, h.bars_few);
      text = w.fit.text ∙ h.text_length;
      ends = w.fit.ends ∙ h.ends_length;
      counts = w.fit.posting_counts ∙ h.posting_counts_length;
      low = (tables file ticks steps w.hs w.readable).postings_low;
    })

pub fill_fits : {file postings starts marks : List ℕ} {ticks steps : ℕ} {b : AllLists}
    → StoreFits file ticks steps postings starts marks b
    → let l = b.lists in FillFits file ticks steps starts marks l.posting_ids l.position_counts l.positions b.velocities
fill_fits w = record {
  hs = w.hs;
  readable = w.readable;
  starts_are = w.starts_are;
  marks_are = w.marks_are;
  posting_ids_fit = w.fit.posting_ids;
  position_counts_fit = w.fit.position_counts;
  positions_fit = w.fit.positions;
  velocities_fit = w.fit.velocities;
}

same_lists : (l : Lists) {i le t e pc pi kc ps : List ℕ} → i ≡ l.ids → le ≡ l.lengths → t ≡ l.text → e ≡ l.ends → pc ≡ l.posting_counts
    → pi ≡ l.posting_ids → kc ≡ l.position_counts → ps ≡ l.positions → lists i le t e pc pi kc ps ≡ l
same_lists l a b c d e f g h = rw (a, b, c, d, e, f, g, h)

pub store_done : {file postings starts marks i le t e pc pi kc ps v : List ℕ} {ticks steps : ℕ} (b : AllLists)
    → StoreFits file ticks steps postings starts marks b
    → HeadsPut postings steps b.lists.ids b.lists.lengths i le t e pc → FillDone (grid ticks steps) file pi kc ps v
    → StoreDone (grid ticks steps) file (beside (lists i le t e pc pi kc ps) v)
store_done {file} {postings} {i = i} {le} {t} {e} {pc} {pi} {kc} {ps} {v} {ticks} {steps} b w p f =
    record {
      each = λ hs is. subst (λ (h : List Hit). beside (lists i le t e pc pi kc ps) v ≡ all_of (grid ticks steps) h)
          (let same : w.hs ≡ hs = ok_same (sym w.readable.hits_read ∙ is) in same) own;
    }
  where
    own : beside (lists i le t e pc pi kc ps) v ≡ all_of (grid ticks steps) w.hs
    own =
        let h = heads file ticks steps w.hs w.readable in
        let q = f.each w.hs w.readable.hits_read in
        let bars : length b.lists.ids ≡ bar_count (grid ticks steps) w.hs = w.fit.ids ∙ h.ids_length in
        let bars' : length b.lists.lengths ≡ bar_count (grid ticks steps) w.hs = w.fit.lengths ∙ h.lengths_length in
        ap₂ beside (same_lists (lists_of (grid ticks steps) w.hs)
        (p.ids ∙ ap (rising_from 0) bars ∙ sym h.ids)
        (p.lengths ∙ ap (λ (n : ℕ). replicate n steps) bars' ∙ sym h.lengths)
        (p.text ∙ ap (λ (l : List ℕ). joined (map name_of (heard l))) w.postings_are ∙ sym h.text)
        (p.ends ∙ ap (λ (l : List ℕ). ends_from 0 (map name_of (heard l))) w.postings_are ∙ sym h.ends)
        (p.counts ∙ ap counts_of w.postings_are ∙ sym h.posting_counts)
        q.0 q.1 q.2) q.3

-- ---- a file that was counted

module _ {file postings positions : List ℕ} {ticks steps bars : ℕ} (w : Tabled file ticks steps bars postings positions) where
  fine_tables : TablesFine (grid ticks steps) w.hs
  fine_tables = tables file ticks steps w.hs w.readable

  pub summable_postings : (starts : List ℕ) → length starts ≡ 128 → Summable postings starts
  summable_postings starts long =
      rw w.postings_are (record { low = fine_tables.postings_low; table_long = fine_tables.postings_long; starts_long = long })

  pub summable_positions : (marks : List ℕ) → length marks ≡ 128 → Summable positions marks
  summable_positions marks long =
      rw w.positions_are (record { low = fine_tables.positions_low; table_long = fine_tables.positions_long; starts_long = long })

  pub terms_few : {n : ℕ} → n ≡ length (heard postings) → n ≤ 128
  terms_few {n} e =
      let same : n ≡ length (heard (counted (grid ticks steps) w.hs).postings) =
      e ∙ ap (λ (l : List ℕ). length (heard l)) w.postings_are in
      omega (arith, (heads file ticks steps w.hs w.readable).sounds_few)

  pub tabled_totals : (t : ListTotals) → t.documents ≡ bars → t.terms ≡ length (heard postings) → t.postings ≡ total postings
      → t.positions ≡ total positions → TotalsOf (all_of (grid ticks steps) w.hs) t
  tabled_totals t d n p q =
      totals_are file ticks steps w.hs w.readable t (d ∙ w.bars_are) (n ∙ ap (λ (l : List ℕ). length (heard l)) w.postings_are)
      (p ∙ ap total w.postings_are) (q ∙ ap total w.positions_are)

  -- buffers cut to the lists' lengths
  pub store_fits : {starts marks : List ℕ} {b : AllLists} → starts ≡ starts_from 0 postings → marks ≡ starts_from 0 positions
      → AsLong (all_of (grid ticks steps) w.hs) b → StoreFits file ticks steps postings starts marks b
  store_fits s m fit = record {
    hs = w.hs;
    readable = w.readable;
    postings_are = w.postings_are;
    starts_are = s ∙ ap (starts_from 0) w.postings_are;
    marks_are = m ∙ ap (starts_from 0) w.positions_are;
    fit = fit;
  }

-- the fronts of buffers that are long enough
pub cut : (t : ListTotals) (a b : AllLists) → TotalsOf a t → RoomEnough a b → let r = b.lists in
    AsLong a (beside (lists (take t.documents r.ids) (take t.documents r.lengths) (take (4 * t.terms) r.text)
    (take t.terms r.ends) (take t.terms r.posting_counts) (take t.postings r.posting_ids)
    (take t.postings r.position_counts) (take t.positions r.positions)) (take t.positions b.velocities))
cut t a b w r = record {
  ids = one t.documents b.lists.ids w.ids r.ids;
  lengths = one t.documents b.lists.lengths w.lengths r.lengths;
  text = one (4 * t.terms) b.lists.text w.text r.text;
  ends = one t.terms b.lists.ends w.ends r.ends;
  posting_counts = one t.terms b.lists.posting_counts w.posting_counts r.posting_counts;
  posting_ids = one t.postings b.lists.posting_ids w.posting_ids r.posting_ids;
  position_counts = one t.postings b.lists.position_counts w.position_counts r.position_counts;
  positions = one t.positions b.lists.positions w.positions r.positions;
  velocities = one t.positions b.velocities w.velocities r.velocities;
}
  where
    one : (n : ℕ) (xs : List ℕ) {m : ℕ} → m ≡ n → m ≤ length xs → length (take n xs) ≡ m
    one n xs e h = length-take-le n xs (omega arith) ∙ sym e
