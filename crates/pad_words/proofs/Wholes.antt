-- What words that are a pad have: the bars lie in the slice, and the two counts are those of what is held.
-- Assumes nothing.
use Rattle.std.specs.Prelude.{None, Option, Some}
use mathlib.Core.Path.{◌≡◌, refl, sym, ◌∙◌}
use mathlib.Core.Bool.{true}
use mathlib.Core.List.{List, [], ◌∷◌}
use Prim.Native.Nat.{ℕ, ◌+◌, ◌-◌, ◌*◌, ◌≤◌}
use native.Mathlib.Omega.{arith}
use lib.Dec.{eqb, leb}
use lib.ListN.{length, drop, get_or}
use borrow.Author.Tests.{leb-true, le-leb, eqb-true}
use Rattle.common.proofs.Loops.{and_left, and_right}
use Rattle.segment.specs.Records.{rises}
use Rattle.pad_map.specs.Bars.{Bar, hits_in_all}
use Rattle.pad_map.specs.Rules.{hits_fine}
use Rattle.pad_words.specs.Words.{pad_words, size, held}
use Rattle.pad_words.specs.Whole.{bars_fine, whole}
use Rattle.pad_words.specs.Steps.{Inside}
use Rattle.pad_words.proofs.Steps.{bars_many}

-- a bar and the rest, each fine
pub record FineCons (previous : Option ℕ) (remaining : ℕ) (b : Bar) (bs : List Bar) : Type 0 where
  pub up : rises previous b.id ≡ true
  pub few : length b.hits ≤ remaining
  pub fine : hits_fine b.len None b.hits ≡ true
  pub rest : bars_fine (Some b.id) (remaining - length b.hits) bs ≡ true

module _ (previous : Option ℕ) (remaining : ℕ) (b : Bar) (bs : List Bar) where
  pub fine_cons : bars_fine previous remaining (b ∷ bs) ≡ true → FineCons previous remaining b bs
  unfolding bars_fine
  fine_cons e =
      let r = and_right (rises previous b.id) _ e in
      let s = and_right (leb (length b.hits) remaining) _ r in
      record {
        up = and_left (rises previous b.id) _ e;
        few = leb-true (length b.hits) remaining (and_left (leb (length b.hits) remaining) _ r);
        fine = and_left (hits_fine b.len None b.hits) _ s;
        rest = and_right (hits_fine b.len None b.hits) _ s;
      }

  pub fine_make : FineCons previous remaining b bs → bars_fine previous remaining (b ∷ bs) ≡ true
  unfolding bars_fine
  fine_make f = rw (f.up, le-leb (length b.hits) remaining f.few, f.fine) f.rest

-- the hits that remain are the bars'
pub fine_sum : (previous : Option ℕ) (remaining : ℕ) (bars : List Bar) → bars_fine previous remaining bars ≡ true
    → hits_in_all bars ≡ remaining
unfolding bars_fine
fine_sum previous remaining [] e = sym (eqb-true remaining 0 e)
fine_sum previous remaining (b ∷ bs) e =
    let f = fine_cons previous remaining b bs e in
    omega (arith, f.few, fine_sum (Some b.id) (remaining - length b.hits) bs f.rest)

pub held_many : (pad : List ℕ) → length (held pad) ≡ get_or pad 0 0
unfolding held
held_many pad = bars_many (get_or pad 0 0) (drop 2 pad)

pub size_is : (bars : List Bar) → size bars ≡ 3 * length bars + 2 * hits_in_all bars
size_is [] = refl
size_is (b ∷ bs) = omega (arith, size_is bs)

pub record WholeParts (pad : List ℕ) : Type 0 where
  pub words : length pad ≡ pad_words
  pub bars : get_or pad 0 0 ≤ 256
  pub hits : get_or pad 1 0 ≤ 8192
  pub fine : bars_fine None (get_or pad 1 0) (held pad) ≡ true

module _ (pad : List ℕ) (w : whole pad ≡ true) where
  pub whole_parts : WholeParts pad
  unfolding whole
  whole_parts =
      let r = and_right (eqb (length pad) pad_words) _ w in
      let s = and_right (leb (get_or pad 0 0) 256) _ r in
      record {
        words = eqb-true (length pad) pad_words (and_left (eqb (length pad) pad_words) _ w);
        bars = leb-true (get_or pad 0 0) 256 (and_left (leb (get_or pad 0 0) 256) _ r);
        hits = leb-true (get_or pad 1 0) 8192 (and_left (leb (get_or pad 1 0) 8192) _ s);
        fine = and_right (leb (get_or pad 1 0) 8192) _ s;
      }

  -- word 1 is the sum, and the words end where the two counts say, which is within the pad
  pub total_is : hits_in_all (held pad) ≡ get_or pad 1 0
  total_is = fine_sum None (get_or pad 1 0) (held pad) whole_parts.fine

  pub size_held : size (held pad) ≡ 3 * get_or pad 0 0 + 2 * get_or pad 1 0
  size_held = size_is (held pad) ∙ rw (held_many pad, total_is)

  pub ends_within : 2 + 3 * get_or pad 0 0 + 2 * get_or pad 1 0 ≤ pad_words
  ends_within = let p = whole_parts in omega (arith, p)

  pub inside : Inside pad
  inside = let p = whole_parts in record { two = omega (arith, p); room = omega (arith, p, size_held) }
