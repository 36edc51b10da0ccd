-- From bar to bar of a whole pad: the bar that begins here, and the bars left.
-- Assumes nothing.
use Rattle.std.specs.Prelude.{None, Option, Some}
use mathlib.Core.Path.{◌≡◌, refl, sym, ap, ◌∙◌}
use mathlib.Core.Bool.{true}
use mathlib.Core.List.{List, [], ◌∷◌}
use Prim.Native.Nat.{ℕ, zero, suc, ◌+◌, ◌-◌, ◌*◌, ◌≤◌, ◌<◌}
use native.Mathlib.Omega.{arith}
use lib.ListN.{length, drop, get_or}
use lib.Seq.{drop-drop}
use Rattle.pad_map.specs.Bars.{Bar, hits_in_all}
use Rattle.pad_map.specs.Rules.{HitsRising, hits_fine}
use Rattle.pad_map.proofs.Ordered.{fine_exactly}
use Rattle.pad_words.specs.Words.{pad_words, size, bars_of, held}
use Rattle.pad_words.specs.Whole.{bars_fine, whole}
use Rattle.pad_words.proofs.Steps.{hits_many, bar_at, bars_step, bars_end}
use Rattle.pad_words.proofs.Placing.{held_start}
use Rattle.pad_words.proofs.Wholes.{fine_cons, whole_parts, total_is, inside}

drop_later : {A : Type 0} (xs : List A) (i : ℕ) {y : A} {ys : List A} → drop i xs ≡ y ∷ ys → drop (i + 1) xs ≡ ys
drop_later xs i e = sym (drop-drop 1 i xs) ∙ ap (drop 1) e

bar_fine : (previous : Option ℕ) (remaining : ℕ) (bars : List Bar) (i : ℕ) {b : Bar} {bs : List Bar}
    → bars_fine previous remaining bars ≡ true → drop i bars ≡ b ∷ bs → hits_fine b.len None b.hits ≡ true
bar_fine previous remaining [] zero f e = absurd (omega (arith, ap length e))
bar_fine previous remaining [] (suc i) f e = absurd (omega (arith, ap length e))
bar_fine previous remaining (c ∷ cs) zero {b} f e =
    let w : c ≡ b = cc in
    rw w at (fine_cons previous remaining c cs f).fine
bar_fine previous remaining (c ∷ cs) (suc i) f e =
    bar_fine (Some c.id) (remaining - length c.hits) cs i (fine_cons previous remaining c cs f).rest e

-- i bars are passed, the next begins at an offset
pub record Walk (pad : List ℕ) (i at : ℕ) : Type 0 where
  pub words : length pad ≡ pad_words
  pub bars : get_or pad 0 0 ≤ 256
  pub fine : bars_fine None (get_or pad 1 0) (held pad) ≡ true
  pub rest : bars_of (get_or pad 0 0 - i) (drop at pad) ≡ drop i (held pad)
  pub room : at + size (drop i (held pad)) ≤ length pad

pub walk_start : (pad : List ℕ) → whole pad ≡ true → Walk pad 0 2
walk_start pad w =
    let p = whole_parts pad w in
    record {
      words = p.words;
      bars = p.bars;
      fine = p.fine;
      rest = held_start pad (get_or pad 0 0) refl;
      room = (inside pad w).room;
    }

-- hits in all, at most as many as a pad can hold
pub hits_few : (pad : List ℕ) → whole pad ≡ true → hits_in_all (held pad) ≤ 8192
hits_few pad w = omega (arith, total_is pad w, (whole_parts pad w).hits)

module _ {pad : List ℕ} {i at : ℕ} (w : Walk pad i at) where
  module _ (h : i < get_or pad 0 0) where
    next : drop i (held pad) ≡ bar_at pad at ∷ bars_of (get_or pad 0 0 - (i + 1)) (drop (at + (3 + 2 * get_or pad (at + 2) 0)) pad)
    next = sym w.rest ∙ bars_step pad at (get_or pad 0 0) i h

    pub bar_here : drop i (held pad) ≡ bar_at pad at ∷ drop (i + 1) (held pad)
    bar_here = next ∙ ap (λ (bs : List Bar). bar_at pad at ∷ bs) (sym (drop_later (held pad) i next))

    size_here : size (drop i (held pad)) ≡ 3 + 2 * get_or pad (at + 2) 0 + size (drop (i + 1) (held pad))
    size_here = rw (bar_here, hits_many (get_or pad (at + 2) 0) (drop (at + 3) pad))

    pub walk_room : at + (3 + 2 * get_or pad (at + 2) 0) ≤ pad_words
    walk_room = omega (arith, size_here, w.room, w.words)

    pub walk_next : (n : ℕ) → n ≡ get_or pad (at + 2) 0 → Walk pad (i + 1) (at + (3 + 2 * n))
    walk_next n e = rw e (record {
      words = w.words;
      bars = w.bars;
      fine = w.fine;
      rest = sym (drop_later (held pad) i next);
      room = omega (arith, size_here, w.room);
    })

    pub here_rising : HitsRising (bar_at pad at).hits
    here_rising =
        ((fine_exactly (get_or pad (at + 1) 0) (bar_at pad at).hits).0 (bar_fine None (get_or pad 1 0) (held pad) i w.fine bar_here)).rising

  pub walk_end : get_or pad 0 0 ≤ i → drop i (held pad) ≡ []
  walk_end l = sym w.rest ∙ bars_end pad at (get_or pad 0 0) i l
