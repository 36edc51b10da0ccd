-- The call behind header and heading, each way out; and the call itself.
-- Assumes nothing.
use Rattle.std.specs.Prelude.{Err, Ok}
use mathlib.Core.Path.{◌≡◌, refl, sym, ap, subst, ◌∙◌}
use mathlib.Core.List.{List, ◌++◌}
use Prim.Native.Nat.{ℕ, ◌*◌, ◌≤◌}
use native.Mathlib.Omega.{arith}
use lib.ListN.{length, drop}
use Rattle.segment.specs.declared.refusal.Refusal.{Refusal}
use Rattle.segment.specs.declared.replies.ListTotals.{ListTotals}
use Rattle.segment.specs.Results.{Answer, ◌>>=◌}
use Rattle.calls.specs.Given.{lists}
use Rattle.midi_read.specs.declared.track.Hit.{Hit}
use Rattle.midi_read.specs.Files.{Grid, grid, chunks, hits}
use Rattle.midi_read.specs.Promise.{grid_answer, ChunksRead}
use Rattle.midi_bars.specs.Loudness.{AllLists, beside, all_of}
use Rattle.midi_bars.specs.Imports.{roomy_beside, import_all, import_into, import_answer, import_left}
use Rattle.midi_fill.proofs.Passed.{framed}
use Rattle.midi_import.specs.Steps.{room_beside, Chunked, Tabled, StoreDone, events_into, EventsImported}
use Rattle.midi_count.specs.Promise.{zeros, Counts}
use Rattle.midi_import.specs.Promise.{BarsImported}
use Rattle.midi_import.proofs.Rooms.{TotalsOf, room_is}
use Rattle.midi_import.proofs.Tallied.{count_tabled}

-- ---- 13

module _ (a b : AllLists) (t : ListTotals) (w : TotalsOf a t) where
  abbrev tested : Answer (Unit {0})
  tested =
      let r = b.lists in
      room_beside t (length r.ids) (length r.lengths) (length r.text) (length r.ends) (length r.posting_counts)
      (length r.posting_ids) (length r.position_counts) (length r.positions) (length b.velocities)

  pub tested_is : {r : Answer (Unit {0})} → r ≡ tested → roomy_beside a b ≡ r
  tested_is e = sym (e ∙ room_is a b t w)

-- ---- events

module _ (g : Grid) (file : List ℕ) (b : AllLists) where
  made : (r : Answer AllLists) → events_into g file b ≡ r → EventsImported g file b (import_answer r) (import_left r b)
  made r e = record { reply = ap import_answer (sym e); left = ap (λ (q : Answer AllLists). import_left q b) (sym e) }

  hits_refused : {x : Refusal} → hits g file ≡ Err x → events_into g file b ≡ Err x
  unfolding events_into
  hits_refused e = rw e

  pub events_broken : {x : Refusal} → hits g file ≡ Err x → EventsImported g file b (Err x) b
  events_broken {x} e = made (Err x) (hits_refused e)

  too_short : {hs : List Hit} {x : Refusal} → hits g file ≡ Ok hs → roomy_beside (all_of g hs) b ≡ Err x
      → events_into g file b ≡ Err x
  unfolding events_into
  too_short e f = rw (e, f)

  pub events_short : {hs : List Hit} {x : Refusal} → hits g file ≡ Ok hs → roomy_beside (all_of g hs) b ≡ Err x
      → EventsImported g file b (Err x) b
  events_short {hs} {x} e f = made (Err x) (too_short e f)

  all_there : {hs : List Hit} → hits g file ≡ Ok hs → roomy_beside (all_of g hs) b ≡ Ok tt → events_into g file b ≡ Ok (all_of g hs)
  unfolding events_into
  all_there e f = rw (e, f)

  -- stored at the fronts of the buffers
  abbrev pub behind : ListTotals → AllLists → AllLists
  behind t a =
      let s = a.lists in
      let r = b.lists in
      beside (lists (s.ids ++ drop t.documents r.ids) (s.lengths ++ drop t.documents r.lengths)
      (s.text ++ drop (4 * t.terms) r.text) (s.ends ++ drop t.terms r.ends)
      (s.posting_counts ++ drop t.terms r.posting_counts) (s.posting_ids ++ drop t.postings r.posting_ids)
      (s.position_counts ++ drop t.postings r.position_counts) (s.positions ++ drop t.positions r.positions))
      (a.velocities ++ drop t.positions b.velocities)

  fronts : (a : AllLists) (t : ListTotals) → TotalsOf a t → behind t a ≡ import_left (Ok a) b
  fronts a t w =
      rw (
        w.ids,
        w.lengths,
        w.text,
        w.ends,
        w.posting_counts,
        w.posting_ids,
        w.position_counts,
        w.positions,
        w.velocities,
      )

  numbers : (a : AllLists) (t : ListTotals) → TotalsOf a t → Ok t ≡ import_answer (Ok a)
  numbers a t w = rw (w.ids, w.ends, w.posting_ids, w.positions)

  pub events_stored : {hs : List Hit} (t : ListTotals) → hits g file ≡ Ok hs → TotalsOf (all_of g hs) t
      → roomy_beside (all_of g hs) b ≡ Ok tt → (s : AllLists) → StoreDone g file s
      → EventsImported g file b (Ok t) (behind t s)
  events_stored {hs} t e w f s d =
      let m = made (Ok (all_of g hs)) (all_there e f) in
      subst (λ (a : AllLists). EventsImported g file b (Ok t) (behind t a)) (sym (d.each hs e))
      (record { reply = numbers (all_of g hs) t w ∙ m.reply; left = fronts (all_of g hs) t w ∙ m.left })

-- ---- the call

then_listed : {A : Type 0} (r : Answer A) (f : A → AllLists) (k : AllLists → Answer AllLists)
    → ((r >>= (λ a. Ok (f a))) >>= k) ≡ (r >>= (λ a. k (f a)))
then_listed (Ok a) f k = refl
then_listed (Err x) f k = refl

grid_is : (r : Answer Grid) (steps ticks : ℕ) → ((h : Grid) → r ≡ Ok h → h.steps ≡ steps) → grid_answer r ≡ Ok ticks
    → r ≡ Ok (grid ticks steps)
grid_is (Ok h) steps ticks own e =
    let t : ticks ≡ h.ticks = cc in
    let s : h.steps ≡ steps = own h refl in
    rw (t, ← s)
grid_is (Err x) steps ticks own e = let z : ◌≡◌ {A = ℕ} 0 1 = cc in absurd (omega arith)

grid_refused : (r : Answer Grid) {x : Refusal} → grid_answer r ≡ Err x → r ≡ Err x
grid_refused (Ok h) e = let z : ◌≡◌ {A = ℕ} 0 1 = cc in absurd (omega arith)
grid_refused (Err y) e = ap Err cc

module _ (steps quarter : ℕ) (file : List ℕ) {r : (Answer ℕ)} {ticks : ℕ} (c : ChunksRead quarter file r) (e : r ≡ Ok ticks) where
  chunks_are : chunks steps quarter file ≡ Ok (grid ticks steps)
  chunks_are =
      grid_is (chunks steps quarter file) steps ticks (λ h k. (framed steps quarter file h k).steps_are) (sym (c.answer steps) ∙ e)

  pub chunked_so : 1 ≤ steps → steps ≤ 64 → Chunked file ticks steps
  chunked_so one few = record { quarter = quarter; some_steps = one; few_steps = few; chunks_read = chunks_are }

-- a file that was counted: the code's steps to a bar are in 64 bits
pub tabled_so : {file l p q : List ℕ} {r s : Answer ℕ} {ticks steps bars : ℕ} → ChunksRead 4 file r → r ≡ Ok ticks → steps ≡ 16
    → Counts (grid ticks steps) file (zeros 128) (zeros 128) (zeros 128) s l p q → s ≡ Ok bars → Tabled file ticks 16 bars p q
tabled_so {file} c e is k f = count_tabled (chunked_so 16 4 file c e (omega arith) (omega arith)) (rw is at k) f

module _ (steps quarter : ℕ) (file : List ℕ) (b : AllLists) where
  into_refused : {x : Refusal} → chunks steps quarter file ≡ Err x → import_into steps quarter file b ≡ Err x
  unfolding import_into import_all
  into_refused e = rw e

  into_events : {g : Grid} → chunks steps quarter file ≡ Ok g → import_into steps quarter file b ≡ events_into g file b
  unfolding import_into import_all events_into
  into_events {g} e = rw e (then_listed (hits g file) (all_of g) (λ all. roomy_beside all b >>= (λ _. Ok all)))

  pub bars_refused : {r : (Answer ℕ)} {x : Refusal} → ChunksRead quarter file r → r ≡ Err x
      → BarsImported steps quarter file b (Err x) b
  bars_refused {x = x} c e =
      let is = into_refused (grid_refused (chunks steps quarter file) (sym (c.answer steps) ∙ e)) in
      record { reply = ap import_answer (sym is); left = ap (λ (q : Answer AllLists). import_left q b) (sym is) }

  pub bars_imported : {r : (Answer ℕ)} {ticks : ℕ} {q : (Answer ListTotals)} {b' : AllLists} → ChunksRead quarter file r → r ≡ Ok ticks
      → EventsImported (grid ticks steps) file b q b' → BarsImported steps quarter file b q b'
  bars_imported c e w =
      let is = sym (into_events (chunks_are steps quarter file c e)) in
      record { reply = w.reply ∙ ap import_answer is; left = w.left ∙ ap (λ (q : Answer AllLists). import_left q b) is }
