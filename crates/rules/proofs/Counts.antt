-- The number of starts at which a phrase fits: the definition's is the number in words, and there is one.
-- Assumes nothing.
use mathlib.Core.Path.{◌≡◌, refl, sym, ap, ◌∙◌}
use mathlib.Core.Bool.{true}
use mathlib.Core.List.{List, [], ◌∷◌}
use mathlib.Core.Logic.{◌↔◌}
use Prim.Native.Nat.{ℕ, ◌<◌}
use native.Mathlib.Nat.{not-suc-le-zero}
use native.Mathlib.Omega.{arith}
use lib.ListN.{length, get_or}
use Rattle.common.specs.Elements.{Rising}
use Rattle.common.proofs.Loops.{true_false}
use Rattle.common.proofs.Rising.{rising_unique}
use Rattle.rules.specs.Words.{FitsSoOften}
use Rattle.rules.specs.Rules.{starts, not_empty, starts_count}
use Rattle.rules.specs.Claims.{StartsCounted, StartsNumber, StartsSome}
use Rattle.rules.proofs.Starts.{starts_are, starts_rise}

-- it is enough that the positions of the first name rise
pub starts_counted_named : (own : List ℕ → List ℕ) (ns : List (List ℕ)) → 0 < length ns → Rising (own (get_or ns 0 []))
    → FitsSoOften own ns (starts_count own ns)
starts_counted_named own ns h r = record {
  starts = starts own ns;
  different = starts_rise own ns r;
  just = λ start. (
    λ m. record { on = ((starts_are own ns start).0 m).1 },
    λ f. (starts_are own ns start).1 (h, f.on),
  );
  number = refl;
}

pub starts_counted : StartsCounted
starts_counted own ns h r = starts_counted_named own ns h (r (get_or ns 0 []))

pub starts_number : StartsNumber
starts_number own ns c d a b =
    let e = rising_unique a.starts b.starts a.different b.different
    (λ p m. (b.just p).1 ((a.just p).0 m)) (λ p m. (a.just p).1 ((b.just p).0 m)) in
    a.number ∙ ap length e ∙ sym b.number

-- a list is not empty exactly when it has an element
not_empty_is : (xs : List ℕ) → (not_empty xs ≡ true) ↔ (0 < length xs)
not_empty_is [] = (λ t. true_false (sym t), λ h. absurd (not-suc-le-zero h))
not_empty_is (x ∷ xs) = (λ t. omega arith, λ h. refl)

pub starts_some : StartsSome
starts_some own ns = not_empty_is (starts own ns)
