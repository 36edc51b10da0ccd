-- What is measured is what passes its check.
-- Assumes nothing.
use Rattle.std.specs.Prelude.{Err, Ok}
use mathlib.Core.Path.{◌≡◌, refl, ap}
use Prim.Native.Nat.{ℕ}
use native.Mathlib.Omega.{arith}
use Rattle.segment.specs.declared.refusal.Refusal.{Refusal}
use Rattle.segment.specs.Results.{Answer}
use Rattle.segment.specs.Steps.{checked}
use Rattle.write_checks.specs.Steps.{measured}

pub measure_stops : {A : Type 0} (r : Answer A) (n : ℕ) {x : Refusal} → Err x ≡ checked r → Err x ≡ measured r n
measure_stops (Ok a) n e = let z : ◌≡◌ {A = ℕ} 0 1 = cc in absurd (omega arith)
measure_stops (Err y) n e = cc

pub measure_ends : {A : Type 0} (r : Answer A) (n : ℕ) {s : ℕ} → (Ok tt) ≡ checked r → s ≡ n → Ok s ≡ measured r n
measure_ends (Ok a) n e is = ap Ok is
measure_ends (Err y) n e is = let z : ◌≡◌ {A = ℕ} 0 1 = cc in absurd (omega arith)

pub measured_refused : {A : Type 0} (r : Answer A) (n : ℕ) {x : Refusal} → Err x ≡ measured r n → Err x ≡ checked r
measured_refused (Ok a) n e = let z : ◌≡◌ {A = ℕ} 0 1 = cc in absurd (omega arith)
measured_refused (Err y) n e = cc

pub measured_passed : {A : Type 0} (r : Answer A) (n : ℕ) {s : ℕ} → Ok s ≡ measured r n → ((Ok tt) ≡ checked r) × (s ≡ n)
measured_passed (Ok a) n e = (refl, cc)
measured_passed (Err y) n e = let z : ◌≡◌ {A = ℕ} 0 1 = cc in absurd (omega arith)

-- checks that answer alike, with one size
pub measured_alike : {A : Type 0} (r s : Answer A) (n : ℕ) → checked r ≡ checked s → measured r n ≡ measured s n
measured_alike (Ok a) (Ok b) n e = refl
measured_alike (Ok a) (Err y) n e = let z : ◌≡◌ {A = ℕ} 0 1 = cc in absurd (omega arith)
measured_alike (Err x) (Ok b) n e = let z : ◌≡◌ {A = ℕ} 0 1 = cc in absurd (omega arith)
measured_alike (Err x) (Err y) n e = cc
