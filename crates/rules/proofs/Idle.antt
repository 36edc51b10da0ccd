-- Which questions are put.
-- Assumes nothing.
use mathlib.Core.Path.{◌≡◌}
use mathlib.Core.Bool.{false, ◌||◌}
use mathlib.Core.Logic.{◌↔◌}
use Prim.Native.Nat.{ℕ, ◌≤◌, ◌<◌}
use native.Mathlib.Omega.{arith}
use lib.Dec.{eqb, ltb}
use borrow.Author.Tests.{eqb-false, ltb-false, ne_eqb, le-ltb}
use Rattle.rules.specs.declared.rule.Rule.{Rule}
use Rattle.rules.specs.declared.rule.Rule.TheVariants.{Phrase, Ordered, Unordered}
use Rattle.rules.specs.Kinds.{Enough}
use Rattle.rules.specs.Claims as claims
use Rattle.common.proofs.Membership.{neither}

near_idle : (k w : ℕ) → (ltb k 2 || eqb w 0 ≡ false) ↔ ((2 ≤ k) × (1 ≤ w))
near_idle k w = (
  λ e. let (a, b) = neither (ltb k 2) (eqb w 0) e in omega (arith, ltb-false k 2 a, eqb-false w 0 b),
  λ h. rw (le-ltb k 2 h.0, ne_eqb w 0 (λ e. omega arith)),
)

pub not_idle_is : claims.IdleExactly
not_idle_is Phrase k = (λ e. omega (arith, eqb-false k 0 e), λ h. ne_eqb k 0 (λ e. omega arith))
not_idle_is (Ordered w) k = near_idle k w
not_idle_is (Unordered w) k = near_idle k w

pub some_named : (rule : Rule) (k : ℕ) → Enough rule k → 0 < k
some_named Phrase k h = h
some_named (Ordered w) k h = omega arith
some_named (Unordered w) k h = omega arith
