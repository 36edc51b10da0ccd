-- A bar taken out of the words: what is left is the words of the other bars.
-- Assumes nothing.
use Rattle.std.specs.Prelude.{Err, None, Ok, Some}
use mathlib.Core.Path.{◌≡◌, sym, ap, ◌∙◌}
use mathlib.Core.Bool.{true, false}
use mathlib.Core.List.{List, [], ◌∷◌, ◌++◌, append_assoc}
use Prim.Native.Nat.{ℕ, suc, ◌+◌, ◌-◌, ◌*◌, ◌≤◌}
use native.Mathlib.Omega.{arith}
use lib.ListN.{length, take, drop, get_or, set, length-append}
use lib.Seq.{sets, sets-eq, take_at, drop_at}
use Rattle.segment.specs.Refusals.{broken_pad, unknown_bar}
use Rattle.segment.specs.Records.{between}
use Rattle.pad_map.specs.Bars.{Bar, without, hits_in_all}
use Rattle.pad_words.specs.Words.{pad_words, size, bar_words, held, stored}
use Rattle.pad_words.specs.Whole.{whole}
use Rattle.pad_words.specs.Calls.{held_bars, pad_erase}
use Rattle.pad_words.specs.Steps.{place_from}
use Rattle.pad_words.proofs.Steps.{hits_many, bar_at}
use Rattle.pad_words.proofs.Wholes.{held_many, whole_parts, total_is, size_held, inside}
use Rattle.pad_words.proofs.Found.{not_held, looked}
use Rattle.pad_words.proofs.Words.{bar_words_length, bar_words_join, size_join, hits_join, words_are}
use Rattle.pad_record.specs.Steps.{Put}
use Rattle.pad_record.proofs.Splits.{HeldSplit, held_split}

-- what is between two offsets
pub between_is : (A Y R pad : List ℕ) (from to : ℕ) → pad ≡ A ++ (Y ++ R) → length A ≡ from → to ≡ from + length Y → between from to pad ≡ Y
between_is A Y R pad from to e a b =
    let n : length Y ≡ to - from = omega (arith, b) in
    ap (λ (l : List ℕ). take (to - from) (drop from l)) e
    ∙ ap (λ (l : List ℕ). take (to - from) l) (drop_at A (Y ++ R) from a) ∙ take_at Y R (to - from) n

module _ (c t : ℕ) (X B Y R pad : List ℕ) (is : pad ≡ c ∷ (t ∷ (X ++ (B ++ (Y ++ R))))) (p k end : ℕ)
    (at : p ≡ 2 + length X) (by : k ≡ length B) (to : end ≡ p + k + length Y) where
  behind : between (p + k) end pad ≡ Y
  behind =
      between_is (c ∷ (t ∷ (X ++ B))) Y R pad (p + k) end
      (is ∙ ap (λ (l : List ℕ). c ∷ (t ∷ l)) (sym (append_assoc X B (Y ++ R))))
      (omega (arith, length-append X B)) to

  closed : (c' t' : ℕ) → p + length Y ≤ length pad
      → set (set (sets pad p (between (p + k) end pad)) 0 c') 1 t' ≡ c' ∷ (t' ∷ (X ++ (Y ++ drop (p + length Y) pad)))
  closed c' t' h =
      let front : take p pad ≡ c ∷ (t ∷ X) =
      ap (λ (l : List ℕ). take p l) is ∙ take_at (c ∷ (t ∷ X)) (B ++ (Y ++ R)) p (omega (arith, at)) in
      let all : sets pad p (between (p + k) end pad) ≡ c ∷ (t ∷ (X ++ (Y ++ drop (p + length Y) pad))) =
      ap (λ (l : List ℕ). sets pad p l) behind ∙ sets-eq Y pad p h ∙ append_assoc (take p pad) Y (drop (p + length Y) pad)
      ∙ ap (λ (l : List ℕ). l ++ (Y ++ drop (p + length Y) pad)) front in
      ap (λ (l : List ℕ). set (set l 0 c') 1 t') all

-- ---- a bar that is held

module _ (pad : List ℕ) (id : ℕ) (w : whole pad ≡ true) {p : ℕ} (q : place_from 2 (held pad) id ≡ Ok p) where
  split : HeldSplit 2 (held pad) id p
  split = held_split 2 None (get_or pad 1 0) (held pad) id (whole_parts pad w).fine q

  same_one : split.one ≡ bar_at pad p
  same_one =
      let e : Some split.one ≡ Some (bar_at pad p) = sym split.look ∙ looked pad id w q in
      cc

  n_is : length split.one.hits ≡ get_or pad (p + 2) 0
  n_is = ap (λ (b : Bar). length b.hits) same_one ∙ hits_many (get_or pad (p + 2) 0) (drop (p + 3) pad)

  -- what the code needs of the counts: nothing is taken from less
  pub record Erasable : Type 0 where
    pub words : length pad ≡ pad_words
    pub bars : get_or pad 0 0 ≤ 256
    pub hits : get_or pad 1 0 ≤ 8192
    pub room : p + (3 + 2 * get_or pad (p + 2) 0) ≤ 2 + 3 * get_or pad 0 0 + 2 * get_or pad 1 0
    pub one : 1 ≤ get_or pad 0 0
    pub few : get_or pad (p + 2) 0 ≤ get_or pad 1 0

  counts : (get_or pad 0 0 ≡ length split.before + suc (length split.behind))
      × (get_or pad 1 0 ≡ hits_in_all split.before + (length split.one.hits + hits_in_all split.behind))
      × (size (held pad) ≡ size split.before + (3 + 2 * length split.one.hits + size split.behind))
  counts =
      let s = split in
      let e = s.parts in (
        sym (held_many pad) ∙ ap length e ∙ length-append s.before (s.one ∷ s.behind),
        sym (total_is pad w) ∙ ap hits_in_all e ∙ hits_join s.before (s.one ∷ s.behind),
        ap size e ∙ size_join s.before (s.one ∷ s.behind),
      )

  pub erasable : Erasable
  erasable =
      let o = whole_parts pad w in
      record {
        words = o.words;
        bars = o.bars;
        hits = o.hits;
        room = omega (arith, counts, split.offset, n_is, size_held pad w);
        one = omega (arith, counts);
        few = omega (arith, counts, n_is);
      }

  parted : pad
      ≡ get_or pad 0 0
      ∷ (get_or pad 1 0
      ∷ (bar_words split.before ++ (bar_words (split.one ∷ []) ++ (bar_words split.behind ++ drop (2 + size (held pad)) pad))))
  parted =
      let s = split in
      let R = drop (2 + size (held pad)) pad in
      let e : bar_words (held pad) ≡ bar_words s.before ++ (bar_words (s.one ∷ []) ++ bar_words s.behind) =
      ap bar_words s.parts ∙ bar_words_join s.before (s.one ∷ s.behind)
      ∙ ap (λ (l : List ℕ). bar_words s.before ++ l) (bar_words_join (s.one ∷ []) s.behind) in
      words_are pad (inside pad w)
      ∙ ap (λ (l : List ℕ). get_or pad 0 0 ∷ (get_or pad 1 0 ∷ l))
      (ap (λ (l : List ℕ). l ++ R) e ∙ append_assoc (bar_words s.before) (bar_words (s.one ∷ []) ++ bar_words s.behind) R
      ∙ ap (λ (l : List ℕ). bar_words s.before ++ l) (append_assoc (bar_words (s.one ∷ [])) (bar_words s.behind) R))

  -- the stores of the code
  erase_left : (n end : ℕ) → n ≡ get_or pad (p + 2) 0 → end ≡ 2 + 3 * get_or pad 0 0 + 2 * get_or pad 1 0
      → set (set (sets pad p (between (p + (3 + 2 * n)) end pad)) 0 (get_or pad 0 0 - 1)) 1 (get_or pad 1 0 - n)
      ≡ stored (without id (held pad)) pad
  unfolding stored
  erase_left n end e f =
      let s = split in
      let X = bar_words s.before in
      let Y = bar_words s.behind in
      let lx = bar_words_length s.before in
      let ly = bar_words_length s.behind in
      let lb = bar_words_length (s.one ∷ []) in
      let k : 3 + 2 * n ≡ length (bar_words (s.one ∷ [])) = omega (arith, lb, n_is, e) in
      let o = erasable in
      let a : get_or pad 0 0 - 1 ≡ length (s.before ++ s.behind) = omega (arith, counts, length-append s.before s.behind) in
      let b : get_or pad 1 0 - n ≡ hits_in_all (s.before ++ s.behind) = omega (arith, counts, n_is, e, hits_join s.before s.behind) in
      let z : p + length Y ≡ 2 + size (s.before ++ s.behind) = omega (arith, s.offset, ly, size_join s.before s.behind) in
      let j : bar_words (s.before ++ s.behind) ≡ X ++ Y = bar_words_join s.before s.behind in
      closed (get_or pad 0 0) (get_or pad 1 0) X (bar_words (s.one ∷ [])) Y (drop (2 + size (held pad)) pad) pad parted
      p (3 + 2 * n) end (omega (arith, s.offset, lx)) k (omega (arith, s.offset, ly, lx, f, counts, size_held pad w, n_is, e))
      (get_or pad 0 0 - 1) (get_or pad 1 0 - n) (omega (arith, o, ly, counts, size_held pad w, s.offset))
      ∙ rw (s.rest, a, b, z, j, append_assoc X Y (drop (2 + size (s.before ++ s.behind)) pad))

  pub erase_stores : (n end : ℕ) (moved : List ℕ) → n ≡ get_or pad (p + 2) 0 → end ≡ 2 + 3 * get_or pad 0 0 + 2 * get_or pad 1 0
      → Put (between (p + (3 + 2 * n)) end pad) p pad moved
      → set (set moved 0 (get_or pad 0 0 - 1)) 1 (get_or pad 1 0 - get_or pad (p + 2) 0) ≡ stored (without id (held pad)) pad
  erase_stores n end moved e f m =
      ap (λ (l : List ℕ). set (set l 0 (get_or pad 0 0 - 1)) 1 (get_or pad 1 0 - get_or pad (p + 2) 0)) m.left
      ∙ ap (λ (k : ℕ). set (set (sets pad p (between (p + (3 + 2 * n)) end pad)) 0 (get_or pad 0 0 - 1)) 1 (get_or pad 1 0 - k)) (sym e)
      ∙ erase_left n end e f

  pub erase_fine : pad_erase pad id ≡ Ok (bar_at pad p)
  unfolding pad_erase held_bars
  erase_fine = rw (w, looked pad id w q)

-- ---- refusals

module _ (pad : List ℕ) (id : ℕ) where
  pub erase_broken : whole pad ≡ false → pad_erase pad id ≡ Err broken_pad
  unfolding pad_erase held_bars
  erase_broken e = rw e

  pub erase_unknown : {p : ℕ} → whole pad ≡ true → place_from 2 (held pad) id ≡ Err p → pad_erase pad id ≡ Err unknown_bar
  unfolding pad_erase held_bars
  erase_unknown w q = rw (w, not_held pad id w q)
