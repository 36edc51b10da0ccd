-- The words are those of the bars that they hold, and free ones behind them; how many words bars take, and bars one behind another.
-- Assumes nothing.
use mathlib.Core.Path.{◌≡◌, refl, sym, ap, ◌∙◌}
use mathlib.Core.List.{List, [], ◌∷◌, ◌++◌, append_assoc}
use Prim.Native.Nat.{ℕ, zero, suc, ◌+◌, ◌*◌, ◌/◌, ◌%◌, ◌≤◌}
use native.Mathlib.Omega.{arith}
use lib.ListN.{length, drop, get_or, length-append, length-drop}
use lib.Seq.{drop-drop}
use Rattle.pad_map.specs.Bars.{Hit, Bar, hits_in_all}
use Rattle.pad_words.specs.Words.{size, hit_words, bar_words, hits_of, bars_of, held}
use Rattle.pad_words.specs.Steps.{Inside}
use Rattle.pad_words.proofs.Steps.{hits_many}

pub hits_words : (n : ℕ) (ws : List ℕ) → 2 * n ≤ length ws → ws ≡ hit_words (hits_of n ws) ++ drop (2 * n) ws
unfolding hits_of
hits_words zero ws h = refl
hits_words (suc n) [] h = absurd (omega arith)
hits_words (suc n) (a ∷ []) h = absurd (omega arith)
hits_words (suc n) (a ∷ (b ∷ r)) h =
    let e : 2 * suc n ≡ suc (suc (2 * n)) = omega arith in
    let s = hits_words n r (omega arith) in
    let w : a ≡ a % 256 + 256 * (a / 256) = omega arith in
    rw (e, ← w) (ap (λ (l : List ℕ). a ∷ (b ∷ l)) s)

pub bars_words : (n : ℕ) (ws : List ℕ) → size (bars_of n ws) ≤ length ws → ws ≡ bar_words (bars_of n ws) ++ drop (size (bars_of n ws)) ws
unfolding bars_of bar_words
bars_words zero ws h = refl
bars_words (suc n) [] h = absurd (omega arith)
bars_words (suc n) (a ∷ []) h = absurd (omega arith)
bars_words (suc n) (a ∷ (b ∷ [])) h = absurd (omega arith)
bars_words (suc n) (a ∷ (b ∷ (c ∷ r))) h =
    let hs = hits_of c r in
    let e : 3 + 2 * c ≡ suc (suc (suc (2 * c))) = omega arith in
    let m = hits_many c r in
    let rest = bars_of n (drop (2 * c) r) in
    let k : 3 + 2 * length hs + size rest ≤ suc (suc (suc (length r))) = rw e at h in
    let q : 3 + 2 * length hs + size rest ≡ suc (suc (suc (2 * c + size rest))) = omega (arith, m) in
    let s = hits_words c r (omega (arith, m, k)) in
    let t = bars_words n (drop (2 * c) r) (simp length-drop (omega (arith, m, k))) in
    let d = drop-drop (size rest) (2 * c) r in
    let all : r ≡ (hit_words hs ++ bar_words rest) ++ drop (2 * c + size rest) r =
    s ∙ ap (λ (l : List ℕ). hit_words hs ++ l) (t ∙ ap (λ (l : List ℕ). bar_words rest ++ l) d)
    ∙ sym (append_assoc (hit_words hs) (bar_words rest) (drop (2 * c + size rest) r)) in
    rw (e, q, m) (ap (λ (l : List ℕ). a ∷ (b ∷ (c ∷ l))) all)

-- ---- lengths and joins

pub hit_words_length : (hs : List Hit) → length (hit_words hs) ≡ 2 * length hs
hit_words_length [] = refl
hit_words_length (h ∷ hs) = omega (arith, hit_words_length hs)

pub bar_words_length : (bs : List Bar) → length (bar_words bs) ≡ size bs
unfolding bar_words
bar_words_length [] = refl
bar_words_length (b ∷ bs) =
    omega (arith, length-append (hit_words b.hits) (bar_words bs), hit_words_length b.hits, bar_words_length bs)

pub bar_words_join : (xs ys : List Bar) → bar_words (xs ++ ys) ≡ bar_words xs ++ bar_words ys
unfolding bar_words
bar_words_join [] ys = refl
bar_words_join (x ∷ xs) ys = rw (bar_words_join xs ys, append_assoc (hit_words x.hits) (bar_words xs) (bar_words ys))

pub size_join : (xs ys : List Bar) → size (xs ++ ys) ≡ size xs + size ys
size_join [] ys = omega arith
size_join (x ∷ xs) ys = omega (arith, size_join xs ys)

pub hits_join : (xs ys : List Bar) → hits_in_all (xs ++ ys) ≡ hits_in_all xs + hits_in_all ys
hits_join [] ys = omega arith
hits_join (x ∷ xs) ys = omega (arith, hits_join xs ys)

-- ---- the whole pad

two_first : (pad : List ℕ) → 2 ≤ length pad → pad ≡ get_or pad 0 0 ∷ (get_or pad 1 0 ∷ drop 2 pad)
two_first [] h = absurd (omega arith)
two_first (a ∷ []) h = absurd (omega arith)
two_first (a ∷ (b ∷ r)) h = refl

pub words_are : (pad : List ℕ) → Inside pad
    → pad ≡ get_or pad 0 0 ∷ (get_or pad 1 0 ∷ (bar_words (held pad) ++ drop (2 + size (held pad)) pad))
unfolding held
words_are pad i =
    let n = get_or pad 0 0 in
    two_first pad i.two
    ∙ ap (λ (l : List ℕ). n ∷ (get_or pad 1 0 ∷ l))
    (bars_words n (drop 2 pad) (simp length-drop (omega (arith, i.two, i.room)))
    ∙ ap (λ (l : List ℕ). bar_words (bars_of n (drop 2 pad)) ++ l) (drop-drop (size (bars_of n (drop 2 pad))) 2 pad))
