-- The test for a pad passes exactly where the words are one in words; words that are all zero are the empty pad.
-- Assumes nothing.
use Rattle.std.specs.Prelude.{None, Option, Some}
use mathlib.Core.Path.{◌≡◌, refl}
use mathlib.Core.Bool.{true}
use mathlib.Core.List.{List, [], ◌∷◌}
use mathlib.Core.Logic.{inl, inr}
use Prim.Native.Nat.{ℕ, ◌+◌, ◌-◌}
use native.Mathlib.Omega.{arith}
use lib.ListN.{length, get_or}
use borrow.Author.Tests.{le-leb, eq-eqb}
use Rattle.common.specs.Elements.{◌∈◌}
use Rattle.common.proofs.Elements.{each}
use Rattle.segment.proofs.After.{After, after_none, after_cons, after_head, after_tail}
use Rattle.pad_map.specs.Bars.{Bar, hits_in_all}
use Rattle.pad_map.specs.Rules.{HitsFine}
use Rattle.pad_map.specs.Claims.{ids}
use Rattle.pad_map.proofs.Ordered.{fine_exactly}
use Rattle.pad_words.specs.Words.{pad_words, bars_of, held}
use Rattle.pad_words.specs.Whole.{Whole, bars_fine, whole}
use Rattle.pad_words.specs.Claims.{WholeExactly, ZerosEmpty}
use Rattle.pad_words.proofs.Wholes.{fine_cons, fine_make, whole_parts, total_is}

abbrev pub EachFine : List Bar → Type 0
EachFine bars = (b : Bar) → b ∈ bars → HitsFine b.len b.hits

-- ---- the bars

pub bars_gives : (previous : Option ℕ) (remaining : ℕ) (bars : List Bar) → bars_fine previous remaining bars ≡ true
    → After previous (ids bars) × EachFine bars
bars_gives previous remaining [] t = (after_none previous, λ b m. absurd m)
bars_gives previous remaining (b ∷ bs) t =
    let f = fine_cons previous remaining b bs t in
    let later = bars_gives (Some b.id) (remaining - length b.hits) bs f.rest in (
      after_cons previous b.id (ids bs) f.up later.0,
      each (λ (c : Bar). HitsFine c.len c.hits) b bs ((fine_exactly b.len b.hits).0 f.fine) later.1,
    )

fine_none : (previous : Option ℕ) → bars_fine previous 0 [] ≡ true
unfolding bars_fine
fine_none previous = refl

pub bars_from : (previous : Option ℕ) (bars : List Bar) → After previous (ids bars) → EachFine bars
    → bars_fine previous (hits_in_all bars) bars ≡ true
bars_from previous [] r f = fine_none previous
bars_from previous (b ∷ bs) r f =
    let later = bars_from (Some b.id) bs (after_tail previous b.id (ids bs) r) (λ c m. f c (inr m)) in
    let e : length b.hits + hits_in_all bs - length b.hits ≡ hits_in_all bs = omega arith in
    fine_make previous (length b.hits + hits_in_all bs) b bs (record {
      up = after_head previous b.id (ids bs) r;
      few = omega arith;
      fine = (fine_exactly b.len b.hits).1 (f b (inl refl));
      rest = rw e later;
    })

-- ---- the pad

whole_gives : (pad : List ℕ) → whole pad ≡ true → Whole pad
whole_gives pad w =
    let p = whole_parts pad w in
    let (up, fine) = bars_gives None (get_or pad 1 0) (held pad) p.fine in
    record { words = p.words; bars = p.bars; hits = p.hits; ids_rise = up; each = fine; total = total_is pad w }

whole_from : (pad : List ℕ) → Whole pad → whole pad ≡ true
unfolding whole
whole_from pad w =
    let fine = bars_from None (held pad) w.ids_rise w.each in
    rw (
      eq-eqb (length pad) pad_words w.words,
      le-leb (get_or pad 0 0) 256 w.bars,
      le-leb (get_or pad 1 0) 8192 w.hits,
      ← w.total,
    )
    fine

pub whole_exactly : WholeExactly
whole_exactly pad = (whole_gives pad, whole_from pad)

-- ---- all zeros

zeros_hold : (pad : List ℕ) → get_or pad 0 0 ≡ 0 → held pad ≡ []
unfolding held bars_of
zeros_hold pad e = rw e

pub zeros_empty : ZerosEmpty
zeros_empty pad z =
    let none_held = zeros_hold pad (z.zeros 0) in (
      record {
        words = z.words;
        bars = omega (arith, z.zeros 0);
        hits = omega (arith, z.zeros 1);
        ids_rise = rw none_held tt;
        each = rw none_held (λ b m. absurd m);
        total = rw (none_held, z.zeros 1);
      },
      none_held,
    )
