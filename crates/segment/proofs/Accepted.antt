-- What a check that was passed says, and what the code's answers say: of a check, and of the value before.
-- Assumes nothing.
use Rattle.std.specs.Prelude.{Err, Ok, Some}
use mathlib.Core.Path.{◌≡◌, refl}
use mathlib.Core.Bool.{Bool, true, false}
use Prim.Native.Nat.{ℕ, ◌+◌}
use native.Mathlib.Omega.{arith}
use lib.Dec.{eqb}
use borrow.Author.Tests.{ne_eqb}
use Rattle.segment.specs.declared.refusal.Refusal.{Refusal}
use Rattle.segment.specs.Results.{Answer, ◌>>=◌, check}
use Rattle.segment.specs.Steps.{earlier, checked}
use Rattle.segment.proofs.Binds.{refuse_ok}

pub check_gives : {B : Type 0} (t : Bool) (x : Refusal) (f : Unit {0} → Answer B) {b : B} → check t x >>= f ≡ Ok b
    → (t ≡ true) × (f tt ≡ Ok b)
check_gives true x f e = (refl, e)
check_gives false x f e = refuse_ok e

-- a result by the code's answer of it
pub passed_ok : {A : Type 0} (r : Answer A) → (Ok tt) ≡ checked r → (a : A) × (r ≡ Ok a)
passed_ok (Ok a) e = (a, refl)
passed_ok (Err x) e = let z : ◌≡◌ {A = ℕ} 0 1 = cc in absurd (omega arith)

pub refused_is : {A : Type 0} (r : Answer A) {x : Refusal} → Err x ≡ checked r → r ≡ Err x
refused_is (Ok a) e = let z : ◌≡◌ {A = ℕ} 0 1 = cc in absurd (omega arith)
refused_is (Err y) e = cc

-- a chain of checks: out at the first refusal, and on behind what passed
pub stops : {A B : Type 0} (r : Answer A) (f : A → Answer B) {x : Refusal} → Err x ≡ checked r → Err x ≡ checked (r >>= f)
stops (Ok a) f e = let z : ◌≡◌ {A = ℕ} 0 1 = cc in absurd (omega arith)
stops (Err y) f e = e

pub goes : {B : Type 0} (r : Answer (Unit {0})) (f : Unit {0} → Answer B) {c : (Answer (Unit {0}))} → (Ok tt) ≡ checked r → c ≡ checked (f tt)
    → c ≡ checked (r >>= f)
goes (Ok a) f e h = h
goes (Err x) f e h = let z : ◌≡◌ {A = ℕ} 0 1 = cc in absurd (omega arith)

-- what is made of an accepted value has no part in the answer
pub same_check : {A B : Type 0} (r : Answer A) (f : A → B) → checked (r >>= λ a. Ok (f a)) ≡ checked r
same_check (Ok a) f = refl
same_check (Err x) f = refl

-- past the first there is one before
pub earlier_next : {A : Type 0} (i : ℕ) (p : A) → earlier (eqb (i + 1) 0) p ≡ Some p
earlier_next i p = rw (ne_eqb (i + 1) 0 (λ e. omega arith))
