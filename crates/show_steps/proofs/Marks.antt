-- The marks of a bar's steps, as a cursor that is sought from step to step shows them.
-- Assumes nothing.
use Prim.Native.Nat.{ℕ, zero, suc, ◌+◌, ◌≤◌, ◌<◌}
use mathlib.Core.Path.{◌≡◌, refl, sym, ap, ◌∙◌}
use mathlib.Core.List.{List, [], ◌∷◌}
use mathlib.Core.Bool.{Bool, true, false, cond, ◌&&◌, ◌||◌, and-false}
use native.Mathlib.Nat.{add-zero}
use native.Mathlib.Omega.{arith}
use lib.Dec.{ltb, eqb}
use lib.ListN.{length, drop, get_or}
use borrow.Author.Tests.{lt-ltb, le-ltb, ltb-true, ltb-false, eq-eqb, ne_eqb, eqb-true, eqb-false}
use Rattle.common.specs.Members.{some_of}
use Rattle.common.specs.Stores.{Stored}
use Rattle.common.proofs.Loops.{drop_step}
use Rattle.rules.specs.Rules.{has}
use Rattle.read_cursors.specs.declared.positions.Positions.{Positions}
use Rattle.read_cursors.specs.Held.{seek_in}
use Rattle.read_cursors.specs.Steps.{positions_from, SoughtPosition}
use Rattle.read_cursors.proofs.Seeks.{Ahead, seek_twice}
use Rattle.read_cursors.proofs.Entering.{positions_ahead}
use Rattle.read_cursors.proofs.Rising.{Rises, from_rise}
use Rattle.calls.specs.Sheet.{mark, marks}
use Rattle.show_steps.specs.Steps.{mark_at}

-- the hits that are not before a step, of a list that rises
abbrev pub onward : ℕ → List ℕ → List ℕ
onward step l = seek_in (λ (p : ℕ). p) step l

-- ---- one step

-- all hits are later
has_later : (low step : ℕ) (l : List ℕ) → Rises (λ (p : ℕ). p) low l → step < low → has l step ≡ false
unfolding some_of
has_later low step [] u h = refl
has_later low step (x ∷ l) (b, u) h = rw (ne_eqb step x (λ e. omega arith)) (has_later (suc x) step l u (omega arith))

-- a hit is on this step exactly where the first that is not before it is there
first_is : (step low : ℕ) {k remaining : ℕ} (l : List ℕ) → Rises (λ (p : ℕ). p) low l
    → Ahead (λ (p : ℕ). p) k remaining (onward step l) → has l step ≡ ltb 0 remaining && eqb k step
unfolding some_of
first_is step low [] u Ahead.none = refl
first_is step low {k} {remaining} (x ∷ l) (b, u) a = go (ltb x step) refl a (first_is step (suc x) l u)
  where
    here : (t : Bool) → eqb step x ≡ t → step ≤ x → {n : ℕ} → Ahead (λ (p : ℕ). p) k n (x ∷ l) → t || has l step ≡ ltb 0 n && eqb k step
    here true e h (Ahead.one {n = n} f) = rw (eq-eqb k step (omega (arith, eqb-true step x e)), lt-ltb 0 (suc n) (omega arith))
    here false e h (Ahead.one {n = n} f) =
        let later : step < suc x = omega arith in
        let apart : k ≡ step → ⊥ = λ same. eqb-false step x e (omega arith) in
        rw (ne_eqb k step apart) (has_later (suc x) step l u later ∙ sym (and-false (ltb 0 (suc n))))

    go : (t : Bool) → ltb x step ≡ t → Ahead (λ (p : ℕ). p) k remaining (cond t (onward step l) (x ∷ l))
        → (Ahead (λ (p : ℕ). p) k remaining (onward step l) → has l step ≡ ltb 0 remaining && eqb k step)
        → eqb step x || has l step ≡ ltb 0 remaining && eqb k step
    go true e a ih = rw (ne_eqb step x (λ f. omega (arith, ltb-true x step e))) (ih a)
    go false e a ih = here (eqb step x) refl (ltb-false x step e) a

-- the tests of a cursor, as the code makes them
abbrev pub Here : Positions → ℕ → Bool → Type 0
Here c step t = ltb 0 c.remaining && eqb c.pos.0 step ≡ t

module _ (c : Positions) (step : ℕ) where
  pub elsewhere : eqb c.pos.0 step ≡ false → Here c step false
  elsewhere e = rw e (and-false (ltb 0 c.remaining))

  pub none_remains : c.remaining ≤ 0 → Here c step false
  none_remains h = rw (le-ltb 0 c.remaining h)

  module _ (len : ℕ) where
    pub mark_hit : 0 < c.remaining → eqb c.pos.0 step ≡ true → 111 ≡ mark_at c len step
    mark_hit h e = rw (lt-ltb 0 c.remaining h, e)

    pub mark_free : Here c step false → step < len → 46 ≡ mark_at c len step
    mark_free e h = rw (e, lt-ltb step len h)

    pub mark_blank : Here c step false → len ≤ step → 32 ≡ mark_at c len step
    mark_blank e h = rw (e, le-ltb step len h)

-- a cursor that was sought to this step shows its mark
module _ (bytes : List ℕ) (hits c : Positions) (len step : ℕ) where
  pub mark_drawn : {r : ℕ} → positions_from bytes c ≡ onward step (positions_from bytes hits) → r ≡ mark_at c len step
      → r ≡ mark len (positions_from bytes hits) step
  mark_drawn e drawn =
      let first = rw e at (positions_ahead bytes c.remaining c.at c.pos.0) in
      let rises = from_rise bytes hits.remaining hits.at hits.pos.0 in
      drawn ∙ ap (λ t. cond t 111 (cond (ltb step len) 46 32)) (sym (first_is step hits.pos.0 (positions_from bytes hits) rises first))

-- ---- all steps

module _ (len : ℕ) (hits : List ℕ) where
  pub marks_length : (many from : ℕ) → length (marks len hits many from) ≡ many
  unfolding marks
  marks_length zero from = refl
  marks_length (suc n) from = ap suc (marks_length n (suc from))

  mark_of : (many from i : ℕ) → i < many → get_or (marks len hits many from) i 0 ≡ mark len hits (from + i)
  unfolding marks
  mark_of zero from i h = absurd (omega arith)
  mark_of (suc n) from zero h = ap (mark len hits) (sym (add-zero from))
  mark_of (suc n) from (suc i) h =
      let e : suc from + i ≡ from + suc i = omega arith in
      mark_of n (suc from) i (omega arith) ∙ ap (mark len hits) e

  pub marks_step : (many i : ℕ) → i < many → drop i (marks len hits many 0) ≡ mark len hits i ∷ drop (i + 1) (marks len hits many 0)
  marks_step many i h =
      let all = marks len hits many 0 in
      let e : 0 + i ≡ i = omega arith in
      drop_step all i 0 (omega (arith, marks_length many 0))
      ∙ ap (λ (b : ℕ). b ∷ drop (i + 1) all) (mark_of many 0 i h ∙ ap (mark len hits) e)

  pub past_steps : {at next : ℕ} {l o : List ℕ} → Stored (marks len hits 64 0) at l next o → next ≡ at + 64
  past_steps s = omega (arith, s.past, marks_length 64 0)

-- ---- from step to step

pub onward_start : (l : List ℕ) → l ≡ onward 0 l
onward_start [] = refl
onward_start (x ∷ l) = rw (le-ltb x 0 (omega arith))

pub onward_next : (step : ℕ) (all : List ℕ) {bytes : List ℕ} {c d : Positions} → positions_from bytes c ≡ onward step all
    → SoughtPosition bytes (step + 1) c d → positions_from bytes d ≡ onward (step + 1) all
onward_next step all e s = s.holds ∙ ap (onward (step + 1)) e ∙ seek_twice (λ (p : ℕ). p) step (step + 1) all (omega arith)
