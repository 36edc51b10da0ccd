-- The elements of a rising list that pass a test, found one after the other, and for each a number stored: what is still to come.
-- Assumes nothing.
use Prim.Native.Nat.{ℕ, ◌+◌, ◌≤◌, ◌<◌}
use mathlib.Core.Path.{◌≡◌, sym, ap, ◌∙◌}
use mathlib.Core.Bool.{Bool, true, false}
use mathlib.Core.List.{List, map}
use native.Mathlib.Numerals.{add-one}
use native.Mathlib.Omega.{arith}
use lib.ListN.{length, set}
use lib.Seq.{sets}
use Rattle.common.specs.Members.{kept}
use Rattle.common.specs.Elements.{◌∈◌, Rising}
use Rattle.common.proofs.Loops.{true_false}
use Rattle.common.proofs.Membership.{kept_gives, kept_from}
use Rattle.common.proofs.Rising.{kept_rises}
use Rattle.common.proofs.ToCome.{to_come, come_all, come_none, come_same, come_next}

-- what passes from a on
abbrev pub later : (f : ℕ → Bool) (whole : List ℕ) (a : ℕ) → List ℕ
later f whole a = to_come (kept f whole) a

-- so many are found, what passes from a on is to come; the buffer has the number g of each at its front
pub record Stored (f : ℕ → Bool) (g : ℕ → ℕ) (whole before after : List ℕ) (count a : ℕ) : Type 0 where
  pub counted : count + length (later f whole a) ≡ length (kept f whole)
  pub stored : sets after count (map g (later f whole a)) ≡ sets before 0 (map g (kept f whole))

module _ (f : ℕ → Bool) (whole : List ℕ) where
  -- what is kept passes
  fails : (d : ℕ) → d ∈ kept f whole → f d ≡ false → ⊥
  fails d m e = true_false (sym (kept_gives f whole d m).1 ∙ e)

module _ (f : ℕ → Bool) (g : ℕ → ℕ) (whole : List ℕ) where
  pub stored_start : (before : List ℕ) → Stored f g whole before before 0 0
  stored_start before =
      let e = come_all (kept f whole) in
      record { counted = rw e (omega arith); stored = ap (λ (l : List ℕ). sets before 0 (map g l)) e }

  module _ {before now : List ℕ} {count a : ℕ} (s : Stored f g whole before now count a) where
    -- the buffer with what is to come is the same whatever was found to be to come
    over : {xs : List ℕ} → later f whole a ≡ xs → sets now count (map g xs) ≡ sets before 0 (map g (kept f whole))
    over e = sym (ap (λ (l : List ℕ). sets now count (map g l)) e) ∙ s.stored

    pub stored_end : ((d : ℕ) → a ≤ d → f d ≡ false)
        → (count ≡ length (kept f whole)) × (now ≡ sets before 0 (map g (kept f whole)))
    stored_end none =
        let e = come_none (kept f whole) a (λ d m h. fails f whole d m (none d h)) in
        (omega (arith, s.counted, ap length e), over e)

    pub stored_skip : {more : ℕ} → a ≤ more → ((d : ℕ) → a ≤ d → d < more → f d ≡ false) → Stored f g whole before now count more
    stored_skip {more} up none =
        let e = come_same (kept f whole) a more up (λ d m h l. fails f whole d m (none d h l)) in
        record { counted = omega (arith, s.counted, ap length e); stored = over (sym e) }

    pub stored_hit : {after : List ℕ} → Rising whole → a ∈ whole → f a ≡ true → after ≡ set now count (g a)
        → Stored f g whole before after (count + 1) (a + 1)
    stored_hit up is t put =
        let e = come_next (kept f whole) (kept_rises f whole up) a a (omega arith) (kept_from f whole a is t) (λ d m h. h) in
        record { counted = omega (arith, s.counted, ap length e); stored = rw (add-one count, put) (over e) }
