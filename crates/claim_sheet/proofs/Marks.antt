-- The 64 steps by their place, and what stands there: o exactly on a hit, else a full stop within the bar's length and a blank past it. As
-- many o as hits.
-- Assumes nothing.
use mathlib.Core.Path.{◌≡◌, refl, sym, ap, ap₂, ◌∙◌}
use mathlib.Core.Bool.{Bool, true, false, cond}
use mathlib.Core.List.{List, [], ◌∷◌}
use mathlib.Core.Logic.{◌↔◌, ⊎_elim, inl, inr}
use Prim.Native.Nat.{ℕ, zero, suc, ◌+◌, ◌≤◌, ◌<◌}
use native.Mathlib.Omega.{arith}
use lib.Dec.{ltb, eqb}
use lib.ListN.{length, get_or}
use lib.Seq.{get_or-drop}
use borrow.Author.Tests.{lt-ltb, le-ltb, ne_eqb}
use Rattle.common.specs.Elements.{◌∈◌, Rising}
use Rattle.common.specs.Members.{some_of}
use Rattle.common.proofs.Elements.{rising_tail, rising_above}
use Rattle.common.proofs.Loops.{lt_or_ge}
use Rattle.common.proofs.Membership.{has_gives, has_from}
use Rattle.rules.specs.Rules.{has}
use Rattle.calls.specs.Sheet.{mark, marks}
use Rattle.show_steps.proofs.Marks.{marks_step}
use Rattle.claim_sheet.specs.Words.{times}

module _ (len : ℕ) (hits : List ℕ) where
  pub marks_at : (many i : ℕ) → i < many → get_or (marks len hits many 0) i 0 ≡ mark len hits i
  marks_at many i h =
      let all = marks len hits many 0 in
      let place : i ≡ i + 0 = omega arith in
      ap (λ (j : ℕ). get_or all j 0) place ∙ sym (get_or-drop i all 0 0) ∙ ap (λ (l : List ℕ). get_or l 0 0) (marks_step len hits many i h)

  module _ (s : ℕ) where
    mark_gives : mark len hits s ≡ 111 → s ∈ hits
    mark_gives e = pick (has hits s) (ltb s len) refl e
      where
        pick : (a b : Bool) → has hits s ≡ a → ◌≡◌ {A = ℕ} (cond a 111 (cond b 46 32)) 111 → s ∈ hits
        pick true b t e = has_gives hits s t
        pick false true t e = absurd (omega arith)
        pick false false t e = absurd (omega arith)

    pub mark_hit : (mark len hits s ≡ 111) ↔ (s ∈ hits)
    mark_hit = (mark_gives, λ m. rw (has_from hits s m))

    mark_none : (s ∈ hits → ⊥) → mark len hits s ≡ cond (ltb s len) 46 32
    mark_none no_hit = pick (has hits s) refl
      where
        pick : (a : Bool) → has hits s ≡ a → ◌≡◌ {A = ℕ} (cond a 111 (cond (ltb s len) 46 32)) (cond (ltb s len) 46 32)
        pick true t = absurd (no_hit (has_gives hits s t))
        pick false t = refl

    pub mark_other : (s ∈ hits → ⊥) → s < len → mark len hits s ≡ 46
    mark_other no_hit h = mark_none no_hit ∙ rw (lt-ltb s len h)

    pub mark_past : (s ∈ hits → ⊥) → len ≤ s → mark len hits s ≡ 32
    mark_past no_hit h = mark_none no_hit ∙ rw (le-ltb s len h)

-- ---- as many o as hits

module _ (len : ℕ) where
  -- a hit before these steps is on none of them
  mark_behind : (x : ℕ) (hits : List ℕ) (s : ℕ) → x < s → mark len (x ∷ hits) s ≡ mark len hits s
  unfolding some_of
  mark_behind x hits s h = rw (ne_eqb s x (λ e. omega arith))

  marks_behind : (x : ℕ) (hits : List ℕ) (many from : ℕ) → x < from → marks len (x ∷ hits) many from ≡ marks len hits many from
  unfolding marks
  marks_behind x hits zero from h = refl
  marks_behind x hits (suc n) from h = ap₂ ◌∷◌ (mark_behind x hits from h) (marks_behind x hits n (suc from) (omega arith))

  module _ (hits : List ℕ) (s : ℕ) where
    abbrev one_drawn : ℕ
    one_drawn = cond (eqb (mark len hits s) 111) 1 0

    drawn_there : s ∈ hits → one_drawn ≡ 1
    drawn_there m = rw ((mark_hit len hits s).1 m)

    none_there : (s ∈ hits → ⊥) → one_drawn ≡ 0
    none_there no_hit = rw (ne_eqb (mark len hits s) 111 (λ e. no_hit ((mark_hit len hits s).0 e)))

  -- hits that rise, each on one of the steps from `from` on and before `to`
  module _ (to : ℕ) where
    pub marks_drawn : (hits : List ℕ) (many from : ℕ) → from + many ≡ to → Rising hits → ((x : ℕ) → x ∈ hits → from ≤ x)
        → ((x : ℕ) → x ∈ hits → x < to) → times 111 (marks len hits many from) ≡ length hits
    unfolding marks times
    marks_drawn [] zero from e r low high = refl
    marks_drawn (x ∷ xs) zero from e r low high = absurd (omega (arith, low x (inl refl), high x (inl refl)))
    marks_drawn [] (suc n) from e r low high =
        let later = marks_drawn [] n (suc from) (omega arith) r (λ x m. absurd m) high in
        omega (arith, none_there [] from (λ m. m))
    marks_drawn (x ∷ xs) (suc n) from e r low high = ⊎_elim
        (λ (k : from < x).
        let later = marks_drawn (x ∷ xs) n (suc from) (omega arith) r (above k) high in
        omega (arith, none_there (x ∷ xs) from (λ m. omega (arith, above k from m))))
        (λ (k : x ≤ from).
        let here : x ≡ from = omega (arith, low x (inl refl)) in
        let later =
        ap (times 111) (marks_behind x xs n (suc from) (omega arith))
        ∙ marks_drawn xs n (suc from) (omega arith) (rising_tail x xs r) (λ y m. omega (arith, rising_above x xs r y m))
        (λ y m. high y (inr m)) in
        omega (arith, drawn_there (x ∷ xs) from (inl (sym here))))
        (lt_or_ge from x)
      where
        above : from < x → (y : ℕ) → y ∈ (x ∷ xs) → suc from ≤ y
        above k y (inl e) = omega arith
        above k y (inr m) = omega (arith, rising_above x xs r y m)
