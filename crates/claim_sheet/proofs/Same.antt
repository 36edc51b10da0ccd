-- The words leave no choice: two texts that are the same bar on paper are one.
-- Assumes nothing.
use mathlib.Core.Path.{◌≡◌, refl, sym, ap, ap₂, ◌∙◌, subst}
use mathlib.Core.Bool.{Bool, true, false}
use mathlib.Core.List.{List, ◌∷◌, ◌++◌}
use mathlib.Core.Logic.{⊎_elim}
use Prim.Native.Nat.{ℕ, ◌+◌, ◌-◌, ◌≤◌, ◌<◌}
use native.Mathlib.Omega.{arith}
use lib.Dec.{eqb}
use lib.ListN.{length, take, drop, get_or, take-append-drop}
use lib.Seq.{get_or-take, get_or-drop, drop-drop, ext_get_or}
use borrow.Author.Tests.{eqb-true, eqb-false}
use Rattle.common.proofs.Loops.{lt_or_ge}
use Rattle.common.proofs.Rising.{rising_unique}
use Rattle.segment.specs.Records.{Term}
use Rattle.claim_sheet.specs.Words.{Hit, Hits, InColumns, FirstLine, SoundLine, SoundLines, none, silent, drawn, at_step, in_bytes}
use Rattle.claim_sheet.specs.Claims.{OneSheet}
use Rattle.claim_sheet.proofs.Decimals.{columns_same}

-- ---- the first line

parts : (line : List ℕ) → line ≡ take 10 line ++ (take 10 (drop 10 line) ++ drop 20 line)
parts line =
    sym (take-append-drop 10 line)
    ∙ ap (λ (l : List ℕ). take 10 line ++ l)
    (sym (take-append-drop 10 (drop 10 line)) ∙ ap (λ (l : List ℕ). take 10 (drop 10 line) ++ l) (drop-drop 10 10 line))

first_same : (id len : ℕ) (x y : List ℕ) → FirstLine id len x → FirstLine id len y → x ≡ y
first_same id len x y a b =
    parts x
    ∙ cc (columns_same a.has_id b.has_id, columns_same a.has_length b.has_length, a.blanks, b.blanks)
    ∙ sym (parts y)

-- ---- a sound's line

number_same : (t : Term) (id n m : ℕ) → Hits t id n → Hits t id m → n ≡ m
number_same t id n m a b =
    sym a.counted
    ∙ ap length
    (rising_unique a.steps b.steps a.once b.once
    (λ s k. (b.are s).1 ((a.are s).0 k))
    (λ s k. (a.are s).1 ((b.are s).0 k)))
    ∙ b.counted

module _ (t : Term) (id len : ℕ) (x y : List ℕ) (a : SoundLine t id len x) (b : SoundLine t id len y) where
  step_same : (s : ℕ) → s < 64 → at_step x s ≡ at_step y s
  step_same s h = pick (eqb (at_step x s) 111) refl
    where
      pick : (u : Bool) → eqb (at_step x s) 111 ≡ u → at_step x s ≡ at_step y s
      pick true e =
          let o = eqb-true (at_step x s) 111 e in
          o ∙ sym ((b.hit s h).1 ((a.hit s h).0 o))
      pick false e =
          let no_hit : Hit t id s → ⊥ = λ k. eqb-false (at_step x s) 111 e ((a.hit s h).1 k) in
          ⊎_elim
          (λ (k : s < len). a.other s h k no_hit ∙ sym (b.other s h k no_hit))
          (λ (k : len ≤ s). a.past s h k ∙ sym (b.past s h k))
          (lt_or_ge s len)

  name_same : take 12 x ≡ take 12 y
  name_same = a.name ∙ sym b.name

  count_same : drop 76 x ≡ drop 76 y
  count_same =
      let same = number_same t id a.hits b.hits a.are_hits b.are_hits in
      columns_same (subst (λ (n : ℕ). InColumns 4 n (drop 76 x)) same a.number) b.number

  place_same : (i : ℕ) → get_or x i 0 ≡ get_or y i 0
  place_same i = ⊎_elim
      (λ (h : i < 12). sym (get_or-take 12 x i 0 h) ∙ ap (λ (l : List ℕ). get_or l i 0) name_same ∙ get_or-take 12 y i 0 h)
      (λ (h : 12 ≤ i).
      ⊎_elim
      (λ (k : i < 76).
      let e : i ≡ 12 + (i - 12) = omega arith in
      ap (λ (j : ℕ). get_or x j 0) e ∙ step_same (i - 12) (omega arith) ∙ ap (λ (j : ℕ). get_or y j 0) (sym e))
      (λ (k : 76 ≤ i).
      let e : i ≡ 76 + (i - 76) = omega arith in
      ap (λ (j : ℕ). get_or x j 0) e ∙ sym (get_or-drop 76 x (i - 76) 0) ∙ ap (λ (l : List ℕ). get_or l (i - 76) 0) count_same
      ∙ get_or-drop 76 y (i - 76) 0 ∙ ap (λ (j : ℕ). get_or y j 0) (sym e))
      (lt_or_ge i 76))
      (lt_or_ge i 12)

  sound_same : x ≡ y
  sound_same = ext_get_or 0 x y (a.is_line.wide ∙ sym b.is_line.wide) (λ i h. place_same i)

-- ---- all lines

lines_same : (id len : ℕ) {ts : List Term} {xs ys : List (List ℕ)} → SoundLines id len ts xs → SoundLines id len ts ys → xs ≡ ys
lines_same id len none none = refl
lines_same id len (silent a more) (silent b others) = lines_same id len more others
lines_same id len (silent a more) (drawn s h b others) = absurd (a s h)
lines_same id len (drawn s h a more) (silent b others) = absurd (b s h)
lines_same id len (drawn {t = t} {line = x} s h a more) (drawn {line = y} r k b others) =
    ap₂ ◌∷◌ (sound_same t id len x y a b) (lines_same id len more others)

pub one_sheet : OneSheet
one_sheet id len sounds a b p q =
    p.are_bytes
    ∙ ap₂ (λ (x : List ℕ) (xs : List (List ℕ)). in_bytes (x ∷ xs))
    (first_same id len p.first q.first p.first_line q.first_line)
    (lines_same id len p.sound_lines q.sound_lines)
    ∙ sym q.are_bytes
