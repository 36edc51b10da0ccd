-- A bar put into the words: what is left is the words with that bar.
-- Assumes nothing.
use Rattle.std.specs.Prelude.{Err, None, Ok}
use mathlib.Core.Path.{◌≡◌, refl, sym, ap, ◌∙◌}
use mathlib.Core.Bool.{true, false}
use mathlib.Core.List.{List, [], ◌∷◌, ◌++◌, append_assoc, append-nil}
use Prim.Native.Nat.{ℕ, ◌+◌, ◌*◌, ◌≤◌, ◌<◌}
use native.Mathlib.Omega.{arith}
use lib.ListN.{length, take, drop, get_or, set, length-append}
use lib.Seq.{sets, sets-eq, take_at, drop_at, take-append-le, take-take, length-take-le}
use borrow.Author.Tests.{lt-ltb, le-ltb, le-leb, lt-leb}
use Rattle.segment.specs.declared.refusal.Refusal.{Refusal}
use Rattle.segment.specs.Refusals.{broken_pad, already_held, pad_full}
use Rattle.segment.specs.Records.{between}
use Rattle.pad_map.specs.Bars.{Bar, bar, hits_in, lookup, insert, hits_in_all}
use Rattle.pad_map.specs.Rules.{check_hits}
use Rattle.pad_map.specs.Acts.{save}
use Rattle.pad_map.specs.Claims.{ListsWell}
use Rattle.pad_map.proofs.Saved.{hits_count}
use Rattle.pad_words.specs.Words.{size, hit_words, bar_words, held, stored}
use Rattle.pad_words.specs.Whole.{whole}
use Rattle.pad_words.specs.Calls.{held_bars, pad_save}
use Rattle.pad_words.specs.Steps.{place_from}
use Rattle.pad_words.proofs.Wholes.{held_many, whole_parts, total_is, size_held, inside}
use Rattle.pad_words.proofs.Found.{not_held, looked}
use Rattle.pad_words.proofs.Words.{bar_words_length, bar_words_join, size_join, hits_join, words_are}
use Rattle.pad_record.specs.Steps.{words_of, BarPut}
use Rattle.pad_record.proofs.Splits.{FreeSplit, free_split}
use Rattle.pad_record.proofs.Erasing.{between_is}

module _ (c t : ℕ) (X B Y R pad : List ℕ) (is : pad ≡ c ∷ (t ∷ (X ++ (Y ++ R)))) (p k end : ℕ)
    (at : p ≡ 2 + length X) (by : k ≡ length B) (to : end ≡ p + length Y) (room : p + k + length Y ≤ length pad) where
  moved : sets pad (p + k) (between p end pad) ≡ take (p + k) pad ++ (Y ++ drop (p + k + length Y) pad)
  moved =
      ap (λ (l : List ℕ). sets pad (p + k) l) (between_is (c ∷ (t ∷ X)) Y R pad p end is (omega (arith, at)) to)
      ∙ sets-eq Y pad (p + k) room ∙ append_assoc (take (p + k) pad) Y (drop (p + k + length Y) pad)

  long : length (take (p + k) pad) ≡ p + k
  long = length-take-le (p + k) pad (omega (arith, room))

  front : take p (take (p + k) pad ++ (Y ++ drop (p + k + length Y) pad)) ≡ c ∷ (t ∷ X)
  front =
      take-append-le p (take (p + k) pad) (Y ++ drop (p + k + length Y) pad) (omega (arith, long))
      ∙ take-take p (p + k) pad (omega arith)
      ∙ ap (λ (l : List ℕ). take p l) is ∙ take_at (c ∷ (t ∷ X)) (Y ++ R) p (omega (arith, at))

  back : drop (p + length B) (take (p + k) pad ++ (Y ++ drop (p + k + length Y) pad)) ≡ Y ++ drop (p + k + length Y) pad
  back = drop_at (take (p + k) pad) (Y ++ drop (p + k + length Y) pad) (p + length B) (omega (arith, long, by))

  opened : (c' t' : ℕ)
      → set (set (sets (sets pad (p + k) (between p end pad)) p B) 0 c') 1 t'
      ≡ c' ∷ (t' ∷ (X ++ (B ++ (Y ++ drop (p + k + length Y) pad))))
  opened c' t' =
      let q = take (p + k) pad ++ (Y ++ drop (p + k + length Y) pad) in
      let fits : p + length B ≤ length q = omega (arith, by, length-append (take (p + k) pad) (Y ++ drop (p + k + length Y) pad), long) in
      let all : sets (sets pad (p + k) (between p end pad)) p B ≡ c ∷ (t ∷ (X ++ (B ++ (Y ++ drop (p + k + length Y) pad)))) =
      ap (λ (l : List ℕ). sets l p B) moved ∙ sets-eq B q p fits ∙ append_assoc (take p q) B (drop (p + length B) q)
      ∙ ap (λ (l : List ℕ). l ++ (B ++ drop (p + length B) q)) front
      ∙ ap (λ (l : List ℕ). (c ∷ (t ∷ X)) ++ (B ++ l)) back in
      ap (λ (l : List ℕ). set (set l 0 c') 1 t') all

one_bar : (b : Bar) → bar_words (b ∷ []) ≡ b.id ∷ (b.len ∷ (length b.hits ∷ (hit_words b.hits ++ [])))
unfolding bar_words
one_bar b = refl

module _ (pad : List ℕ) (id len : ℕ) (ss ts vs : List ℕ) where
  pub save_broken : whole pad ≡ false → pad_save pad id len ss ts vs ≡ Err broken_pad
  unfolding pad_save held_bars
  save_broken e = rw e

  module _ (w : whole pad ≡ true) where
    pub save_is : pad_save pad id len ss ts vs ≡ save (held pad) id len ss ts vs
    unfolding pad_save held_bars
    save_is = rw w

    pub save_held : {p : ℕ} → place_from 2 (held pad) id ≡ Ok p → pad_save pad id len ss ts vs ≡ Err already_held
    unfolding save
    save_held q = save_is ∙ rw (looked pad id w q)

    module _ {p : ℕ} (q : place_from 2 (held pad) id ≡ Err p) where
      absent : lookup (held pad) id ≡ None
      absent = not_held pad id w q

      pub save_lists : {x : Refusal} → check_hits len ss ts vs ≡ Err x → pad_save pad id len ss ts vs ≡ Err x
      unfolding save
      save_lists e = save_is ∙ rw (absent, e)

      module _ (e : check_hits len ss ts vs ≡ Ok tt) where
        pub save_bars : 256 ≤ get_or pad 0 0 → pad_save pad id len ss ts vs ≡ Err pad_full
        unfolding save
        save_bars h = save_is ∙ rw (absent, e, held_many pad, le-ltb (get_or pad 0 0) 256 h)

        module _ (h : get_or pad 0 0 < 256) where
          pub save_hits : 8192 < get_or pad 1 0 + length ss → pad_save pad id len ss ts vs ≡ Err pad_full
          unfolding save
          save_hits k =
              save_is
              ∙ rw (absent, e, held_many pad, total_is pad w, lt-ltb (get_or pad 0 0) 256 h, lt-leb (get_or pad 1 0 + length ss) 8192 k)

          pub save_fine : get_or pad 1 0 + length ss ≤ 8192
              → pad_save pad id len ss ts vs ≡ Ok (insert (bar id len (hits_in ss ts vs)) (held pad))
          unfolding save
          save_fine k =
              save_is
              ∙ rw (absent, e, held_many pad, total_is pad w, lt-ltb (get_or pad 0 0) 256 h, le-leb (get_or pad 1 0 + length ss) 8192 k)

      split : FreeSplit 2 (held pad) (bar id len (hits_in ss ts vs)) p
      split = free_split 2 (held pad) (bar id len (hits_in ss ts vs)) q

      counts : (get_or pad 0 0 ≡ length split.before + length split.behind)
          × (get_or pad 1 0 ≡ hits_in_all split.before + hits_in_all split.behind)
          × (size (held pad) ≡ size split.before + size split.behind)
      counts =
          let s = split in
          let e = s.parts in (
            sym (held_many pad) ∙ ap length e ∙ length-append s.before s.behind,
            sym (total_is pad w) ∙ ap hits_in_all e ∙ hits_join s.before s.behind,
            ap size e ∙ size_join s.before s.behind,
          )

      pub save_offset : p ≤ 2 + 3 * get_or pad 0 0 + 2 * get_or pad 1 0
      save_offset = omega (arith, counts, split.offset, size_held pad w)

      parted : pad
          ≡ get_or pad 0 0 ∷ (get_or pad 1 0 ∷ (bar_words split.before ++ (bar_words split.behind ++ drop (2 + size (held pad)) pad)))
      parted =
          let s = split in
          let R = drop (2 + size (held pad)) pad in
          let e : bar_words (held pad) ≡ bar_words s.before ++ bar_words s.behind =
          ap bar_words s.parts ∙ bar_words_join s.before s.behind in
          words_are pad (inside pad w)
          ∙ ap (λ (l : List ℕ). get_or pad 0 0 ∷ (get_or pad 1 0 ∷ l))
          (ap (λ (l : List ℕ). l ++ R) e ∙ append_assoc (bar_words s.before) (bar_words s.behind) R)

      module _ (lists : ListsWell len ss ts vs) (h : get_or pad 0 0 < 256) (k : get_or pad 1 0 + length ss ≤ 8192) where
        many : length (hits_in ss ts vs) ≡ length ss
        many = hits_count ss ts vs lists.side_by_side

        words_same : words_of id len ss ts vs ≡ bar_words (bar id len (hits_in ss ts vs) ∷ [])
        words_same = sym (one_bar (bar id len (hits_in ss ts vs)) ∙ rw (many, append-nil (hit_words (hits_in ss ts vs))))

        save_left : (end : ℕ) → end ≡ 2 + 3 * get_or pad 0 0 + 2 * get_or pad 1 0
            → set (set (sets (sets pad (p + (3 + 2 * length ss)) (between p end pad)) p (words_of id len ss ts vs)) 0 (get_or pad 0 0 + 1)) 1
            (get_or pad 1 0 + length ss)
            ≡ stored (insert (bar id len (hits_in ss ts vs)) (held pad)) pad
        unfolding stored
        save_left end f =
            let s = split in
            let b = bar id len (hits_in ss ts vs) in
            let o = whole_parts pad w in
            let X = bar_words s.before in
            let B = bar_words (b ∷ []) in
            let Y = bar_words s.behind in
            let lx = bar_words_length s.before in
            let ly = bar_words_length s.behind in
            let lb = bar_words_length (b ∷ []) in
            let cs = counts in
            let sh = size_held pad w in
            let kb : 3 + 2 * length ss ≡ length B = omega (arith, lb, many) in
            let a : get_or pad 0 0 + 1 ≡ length (s.before ++ (b ∷ s.behind)) =
            omega (arith, cs, length-append s.before (b ∷ s.behind)) in
            let d : get_or pad 1 0 + length ss ≡ hits_in_all (s.before ++ (b ∷ s.behind)) =
            omega (arith, cs, many, hits_join s.before (b ∷ s.behind)) in
            let z : p + (3 + 2 * length ss) + length Y ≡ 2 + size (s.before ++ (b ∷ s.behind)) =
            omega (arith, s.offset, ly, many, size_join s.before (b ∷ s.behind)) in
            let j : bar_words (s.before ++ (b ∷ s.behind)) ≡ X ++ (B ++ Y) =
            bar_words_join s.before (b ∷ s.behind) ∙ ap (λ (l : List ℕ). X ++ l) (bar_words_join (b ∷ []) s.behind) in
            let D = drop (2 + size (s.before ++ (b ∷ s.behind))) pad in
            ap (λ (l : List ℕ). set (set (sets (sets pad (p + (3 + 2 * length ss)) (between p end pad)) p l) 0 (get_or pad 0 0 + 1)) 1
            (get_or pad 1 0 + length ss)) words_same
            ∙ opened (get_or pad 0 0) (get_or pad 1 0) X B Y (drop (2 + size (held pad)) pad) pad parted p (3 + 2 * length ss) end
            (omega (arith, s.offset, lx)) kb (omega (arith, s.offset, ly, f, cs, sh)) (omega (arith, s.offset, ly, cs, sh, o, h, k))
            (get_or pad 0 0 + 1) (get_or pad 1 0 + length ss)
            ∙ rw (s.added, a, d, z, j, append_assoc X (B ++ Y) D, append_assoc B Y D)

        -- the stores of the code
        pub save_stores : (bars total : ℕ) (put : List ℕ) → bars ≡ get_or pad 0 0 → total ≡ get_or pad 1 0
            → BarPut pad p (2 + 3 * bars + 2 * total) id len ss ts vs put
            → set (set put 0 (bars + 1)) 1 (total + length ss) ≡ stored (insert (bar id len (hits_in ss ts vs)) (held pad)) pad
        save_stores bars total put e f m =
            rw (e, f)
            (ap (λ (l : List ℕ). set (set l 0 (get_or pad 0 0 + 1)) 1 (get_or pad 1 0 + length ss)) (rw (e, f) at m.left)
            ∙ save_left (2 + 3 * get_or pad 0 0 + 2 * get_or pad 1 0) refl)
