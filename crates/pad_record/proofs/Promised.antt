-- The words of a map that fits a pad are a pad again, which holds that map; so are those after a save and after an erasure. What each call
-- promises, from what its code knows.
-- Assumes nothing.
use Rattle.std.specs.Prelude.{Err, Ok}
use mathlib.Core.Path.{◌≡◌, sym, ap, ◌∙◌}
use mathlib.Core.Bool.{true}
use mathlib.Core.List.{List}
use mathlib.Core.Logic.{◌⊎◌, inl, inr}
use Prim.Native.Nat.{ℕ, ◌+◌, ◌≤◌}
use native.Mathlib.Omega.{arith}
use lib.ListN.{length, drop, get_or}
use Rattle.common.specs.Elements.{◌∈◌, Rising}
use Rattle.segment.specs.declared.refusal.Refusal.{Refusal}
use Rattle.segment.proofs.Binds.{refuse_ok}
use Rattle.pad_map.specs.Bars.{Bar, bar, hits_in, without, hits_in_all}
use Rattle.pad_map.specs.Rules.{HitsFine}
use Rattle.pad_map.specs.Acts.{save}
use Rattle.pad_map.specs.Claims.{ids}
use Rattle.pad_map.proofs.Mapped.{insert_gives, without_gives, insert_counts, without_fewer, added_rises, taken_out_rises}
use Rattle.pad_map.proofs.Saved.{hits_count, save_gives}
use Rattle.pad_words.specs.Words.{pad_words, stored, held}
use Rattle.pad_words.specs.Whole.{Whole, whole}
use Rattle.pad_words.specs.Calls.{held_bars, pad_save, pad_erase}
use Rattle.pad_words.specs.Claims.{SoundsFit}
use Rattle.pad_words.proofs.Steps.{hits_many, bar_at}
use Rattle.pad_words.proofs.Wholes.{held_many, size_is}
use Rattle.pad_words.proofs.Exactly.{whole_exactly}
use Rattle.pad_words.proofs.Back.{held_stored, length_stored}
use Rattle.pad_record.specs.Promise.{BarSaved, BarErased}
use Rattle.pad_record.proofs.Saving.{save_is}

-- bars that a pad has room for
record Fits (bars : List Bar) : Type 0 where
  pub few_bars : length bars ≤ 256
  pub few_hits : hits_in_all bars ≤ 8192
  pub ids_rise : Rising (ids bars)
  pub each : (b : Bar) → b ∈ bars → HitsFine b.len b.hits

-- their sounds fit
low : {bars : List Bar} → Fits bars → SoundsFit bars
low f b m h k = omega (arith, (f.each b m).sounds h k)

whole_again : (bars : List Bar) (pad : List ℕ) → length pad ≡ pad_words → Fits bars → Whole (stored bars pad)
unfolding stored
whole_again bars pad l f =
    let same = held_stored bars pad (low f) in
    let few = f.few_bars in
    let fewer = f.few_hits in
    record {
      words = length_stored bars pad (omega (arith, size_is bars)) ∙ l;
      bars = few;
      hits = fewer;
      ids_rise = rw same f.ids_rise;
      each = rw same f.each;
      total = ap hits_in_all same;
    }

holds_again : (bars : List Bar) (pad : List ℕ) → length pad ≡ pad_words → Fits bars → held_bars (stored bars pad) ≡ Ok bars
unfolding held_bars
holds_again bars pad l f = rw ((whole_exactly (stored bars pad)).1 (whole_again bars pad l f), held_stored bars pad (low f))

module _ (pad : List ℕ) (w : Whole pad) where
  saved_holds : (id len : ℕ) (ss ts vs : List ℕ) (bars : List Bar) → save (held pad) id len ss ts vs ≡ Ok bars
      → held_bars (stored bars pad) ≡ Ok bars
  saved_holds id len ss ts vs bars e =
      let a = save_gives (held pad) id len ss ts vs bars e in
      let b = bar id len (hits_in ss ts vs) in
      let (m, n) = insert_counts b (held pad) in
      let many = hits_count ss ts vs a.lists.side_by_side in
      holds_again bars pad w.words
      (rw a.is
      (record {
        few_bars = omega (arith, m, a.few_bars);
        few_hits = omega (arith, n, many, a.few_hits);
        ids_rise = added_rises (held pad) b a.free w.ids_rise;
        each = λ c k. fine c a.lists.fine (insert_gives b (held pad) c k);
      }))
    where
      fine : (c : Bar) → HitsFine len (hits_in ss ts vs) → (c ≡ bar id len (hits_in ss ts vs)) ⊎ (c ∈ held pad)
          → HitsFine c.len c.hits
      fine c f (inl y) = rw y f
      fine c f (inr k) = w.each c k

  erased_holds : (id : ℕ) → held_bars (stored (without id (held pad)) pad) ≡ Ok (without id (held pad))
  erased_holds id =
      let (m, n) = without_fewer id (held pad) in
      holds_again (without id (held pad)) pad w.words
      (record {
        few_bars = omega (arith, m, held_many pad, w.bars);
        few_hits = omega (arith, n, w.total, w.hits);
        ids_rise = taken_out_rises (held pad) id w.ids_rise;
        each = λ c k. w.each c (without_gives id (held pad) c k);
      })

-- ---- erasing

module _ (pad : List ℕ) (id : ℕ) where
  pub not_erased : {x : Refusal} → pad_erase pad id ≡ Err x → BarErased pad id (Err x) pad
  not_erased e = record { reply = rw e; words = rw e; map = λ b k. refuse_ok (sym e ∙ k) }

  pub was_erased : whole pad ≡ true → (p n : ℕ) (pad' : List ℕ) → n ≡ get_or pad (p + 2) 0 → pad_erase pad id ≡ Ok (bar_at pad p)
      → pad' ≡ stored (without id (held pad)) pad → BarErased pad id (Ok n) pad'
  was_erased w p n pad' is e l =
      let many = hits_many (get_or pad (p + 2) 0) (drop (p + 3) pad) in
      let again = erased_holds pad ((whole_exactly pad).0 w) id in
      record { reply = rw (e, many, is); words = rw e l; map = λ b k. ap held_bars l ∙ again }

-- ---- saving

module _ (pad : List ℕ) (id len : ℕ) (ss ts vs : List ℕ) where
  pub not_saved : {x : Refusal} → pad_save pad id len ss ts vs ≡ Err x → BarSaved pad id len ss ts vs (Err x) pad
  not_saved e = record { reply = rw e; words = rw e; map = λ b k. refuse_ok (sym e ∙ k) }

  pub was_saved : whole pad ≡ true → (bars : List Bar) (pad' : List ℕ) → pad_save pad id len ss ts vs ≡ Ok bars → pad' ≡ stored bars pad
      → BarSaved pad id len ss ts vs (Ok (length ss)) pad'
  was_saved w bars pad' e l =
      let again = saved_holds pad ((whole_exactly pad).0 w) id len ss ts vs bars (sym (save_is pad id len ss ts vs w) ∙ e) in
      record { reply = rw e; words = rw e l; map = λ b k. ap held_bars l ∙ again ∙ (sym e ∙ k) }
