-- Words moved and stored.
-- Assumes nothing.
use mathlib.Core.Path.{◌≡◌, sym, ap, ◌∙◌}
use mathlib.Core.List.{List, ◌∷◌}
use Prim.Native.Nat.{ℕ, suc, ◌+◌, ◌-◌, ◌*◌, ◌≤◌, ◌<◌}
use native.Mathlib.Omega.{arith}
use lib.ListN.{length, drop, get_or, set, length-set, length-drop}
use lib.Seq.{sets, sets-eq, length-sets, length-take-le}
use Rattle.std.specs.List.{copy_within}
use Rattle.common.proofs.Loops.{drop_step, drop_end}
use Rattle.segment.specs.Records.{between}
use Rattle.pad_map.specs.Bars.{hits_in}
use Rattle.pad_words.specs.Words.{hit_words}
use Rattle.pad_record.specs.Steps.{Put, words_of, BarPut}

-- words copied within the pad, where they fit
pub copied : (l : List ℕ) (from to at : ℕ) → from ≤ to → to ≤ length l → at + (to - from) ≤ length l
    → copy_within l from to at ≡ sets l at (between from to l)
copied l from to at h k m =
    let many : length (between from to l) ≡ to - from = length-take-le (to - from) (drop from l) (omega (arith, length-drop from l)) in
    sym (sets-eq (between from to l) l at (omega (arith, many)) ∙ rw many)

-- ---- hits stored

module _ (pad ss ts vs : List ℕ) (next i : ℕ) (e : length ss ≡ length ts) (d : length ss ≡ length vs) {all : List ℕ}
    (inv : sets pad next (hit_words (hits_in (drop i ss) (drop i ts) (drop i vs))) ≡ all) where
  pub put_next : i < length ss → (w : ℕ) → w ≡ get_or ss i 0 + 256 * get_or vs i 0
      → sets (set (set pad next w) (next + 1) (get_or ts i 0)) (next + 2)
      (hit_words (hits_in (drop (i + 1) ss) (drop (i + 1) ts) (drop (i + 1) vs)))
      ≡ all
  put_next h w is =
      let one : next + 1 ≡ suc next = omega arith in
      let two : next + 2 ≡ suc (suc next) = omega arith in
      rw (is, one, two)
      (rw (drop_step ss i 0 h, drop_step ts i 0 (omega arith), drop_step vs i 0 (omega arith)) at inv)

  pub put_end : length ss ≤ i → pad ≡ all
  put_end h = rw (drop_end ss i h) at inv

-- ---- nothing is longer or shorter

pub two_sets : (l : List ℕ) (k a b : ℕ) → length (set (set l k a) (k + 1) b) ≡ length l
two_sets l k a b = simp length-set

pub three_sets : (l : List ℕ) (k a b c : ℕ) → length (set (set (set l k a) (k + 1) b) (k + 2) c) ≡ length l
three_sets l k a b c = simp length-set

pub put_same : {words pad pad' : List ℕ} {at : ℕ} → Put words at pad pad' → length pad' ≡ length pad
put_same {words} {pad} {pad'} {at} m = ap length m.left ∙ length-sets pad at words

pub bar_same : {pad ss ts vs pad' : List ℕ} {p end id len : ℕ} → BarPut pad p end id len ss ts vs pad' → length pad' ≡ length pad
bar_same {pad} {ss} {ts} {vs} {pad'} {p} {end} {id} {len} m =
    ap length m.left ∙ length-sets (sets pad (p + (3 + 2 * length ss)) (between p end pad)) p (words_of id len ss ts vs)
    ∙ length-sets pad (p + (3 + 2 * length ss)) (between p end pad)

-- ---- three words stored, and a run behind them

pub put_four : (at a b c : ℕ) (m : List ℕ) {pad pad' words moved : List ℕ} {to : ℕ} → Put moved to pad m
    → Put words (at + 3) (set (set (set m at a) (at + 1) b) (at + 2) c) pad'
    → pad' ≡ sets (sets pad to moved) at (a ∷ (b ∷ (c ∷ words)))
put_four at a b c m {pad} {pad'} {words} {moved} {to} first put =
    let one : at + 1 ≡ suc at = omega arith in
    let two : at + 2 ≡ suc (suc at) = omega arith in
    let three : at + 3 ≡ suc (suc (suc at)) = omega arith in
    let e : pad' ≡ sets m at (a ∷ (b ∷ (c ∷ words))) = rw (one, two, three) at put.left in
    e ∙ ap (λ (l : List ℕ). sets l at (a ∷ (b ∷ (c ∷ words)))) first.left
