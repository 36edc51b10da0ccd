-- One cursor a bar: past the hits of lower sounds, and, once the bar is done, past those of this sound too.
-- Assumes nothing.
use mathlib.Core.Path.{◌≡◌, refl, sym, ap, ◌∙◌}
use mathlib.Core.List.{List, [], ◌∷◌, map}
use Prim.Native.Nat.{ℕ, zero, suc, ◌+◌, ◌≤◌, ◌<◌}
use native.Mathlib.Omega.{arith}
use lib.ListN.{length, drop, get_or, set, replicate, length-drop}
use lib.Seq.{get_or-set_other}
use Rattle.common.proofs.OneMore.{each_set}
use Rattle.pad_map.specs.Bars.{Bar}
use Rattle.pad_lists.specs.Steps.{lower, Cursors}
use Rattle.pad_lists.proofs.Runs.{lower_none}

-- ---- at the first sound

pub cursors_begin : (bars : List Bar) (cs : List ℕ) → ((i : ℕ) → get_or cs i 0 ≡ 0) → Cursors 0 bars cs
cursors_begin bars cs zeros = record { each = λ i h. zeros i ∙ sym (none bars i) }
  where
    none : (bars : List Bar) (i : ℕ) → get_or (map (λ (b : Bar). lower 0 b.hits) bars) i 0 ≡ 0
    none [] i = refl
    none (b ∷ bs) zero = lower_none b.hits
    none (b ∷ bs) (suc i) = none bs i

-- an array of zeros
pub cursors_zeros : (bars : List Bar) (n : ℕ) → Cursors 0 bars (replicate n 0)
cursors_zeros bars n = cursors_begin bars (replicate n 0) (zeros n)
  where
    zeros : (n i : ℕ) → ◌≡◌ {A = ℕ} (get_or (replicate n 0) i 0) 0
    zeros zero i = refl
    zeros (suc n) zero = refl
    zeros (suc n) (suc i) = zeros n i

-- ---- while the bars before i are done

abbrev lowers : (sound : ℕ) → List Bar → List ℕ
lowers s bars = map (λ (b : Bar). lower s b.hits) bars

pub record CursorsAt (sound : ℕ) (bars : List Bar) (i : ℕ) (cs : List ℕ) : Type 0 where
  pub done : (j : ℕ) → j < i → j < length bars → get_or cs j 0 ≡ get_or (lowers (suc sound) bars) j 0
  pub ahead : (j : ℕ) → i ≤ j → j < length bars → get_or cs j 0 ≡ get_or (lowers sound bars) j 0

pub at_start : {sound : ℕ} {bars : List Bar} {cs : List ℕ} → Cursors sound bars cs → CursorsAt sound bars 0 cs
at_start c = record { done = λ j l h. absurd (omega arith); ahead = λ j l h. c.each j h }

at_bar : (s : ℕ) (bars : List Bar) (i : ℕ) {b : Bar} {bs : List Bar} → drop i bars ≡ b ∷ bs → get_or (lowers s bars) i 0 ≡ lower s b.hits
at_bar s [] zero e = absurd (omega (arith, ap length e))
at_bar s [] (suc i) e = absurd (omega (arith, ap length e))
at_bar s (c ∷ cs) zero {b} e = let w : c ≡ b = cc in ap (λ (x : Bar). lower s x.hits) w
at_bar s (c ∷ cs) (suc i) e = at_bar s cs i e

module _ {sound : ℕ} {bars : List Bar} {i : ℕ} {cs : List ℕ} (c : CursorsAt sound bars i cs) where
  module _ {b : Bar} {bs : List Bar} (here : drop i bars ≡ b ∷ bs) where
    pub cursor_here : get_or cs i 0 ≡ lower sound b.hits
    cursor_here = c.ahead i (omega arith) (omega (arith, length-drop i bars, ap length here)) ∙ at_bar sound bars i here

    pub cursor_next : {v : ℕ} → i < length cs → v ≡ lower (suc sound) b.hits → CursorsAt sound bars (i + 1) (set cs i v)
    cursor_next {v} h e = record {
      done = each_set 0 cs i v (λ j x. (j < length bars → x ≡ get_or (lowers (suc sound) bars) j 0)) h c.done
          (λ l. e ∙ sym (at_bar (suc sound) bars i here));
      ahead = λ j l k. get_or-set_other cs i j v 0 (λ x. omega arith) ∙ c.ahead j (omega arith) k;
    }

  pub at_end : drop i bars ≡ [] → Cursors (suc sound) bars cs
  at_end e = record { each = λ j h. c.done j (omega (arith, length-drop i bars, ap length e)) h }
