-- A chain of steps that refuses: which of its steps did.
-- Assumes nothing.
use Rattle.std.specs.Prelude.{Err, Ok}
use mathlib.Core.Path.{◌≡◌, refl, ap}
use mathlib.Core.Bool.{Bool, true, false}
use mathlib.Core.Logic.{◌⊎◌, inl, inr}
use Prim.Native.Nat.{ℕ}
use native.Mathlib.Omega.{arith}
use Rattle.segment.specs.declared.refusal.Refusal.{Refusal}
use Rattle.segment.specs.Results.{Answer, ◌>>=◌, check}

pub ok_refuse : {A : Type 0} {P : Type 0} {a : A} {x : Refusal} → Ok a ≡ Err x → P
ok_refuse e = let z : ◌≡◌ {A = ℕ} 0 1 = cc in absurd (omega arith)

pub refuse_same : {A : Type 0} {x y : Refusal} → ◌≡◌ {A = Answer A} (Err x) (Err y) → x ≡ y
refuse_same e = cc

-- its first step does, or what follows on its value
pub refused_by : {A B : Type 0} (r : Answer A) (f : A → Answer B) {x : Refusal} → (r >>= f) ≡ Err x
    → (r ≡ Err x) ⊎ ((a : A) × (r ≡ Ok a) × (f a ≡ Err x))
refused_by (Ok a) f e = inr (a, refl, e)
refused_by (Err y) f e = inl (ap Err (refuse_same e))

pub check_refuses : (t : Bool) (y : Refusal) {x : Refusal} → check t y ≡ Err x → (t ≡ false) × (y ≡ x)
check_refuses true y e = ok_refuse e
check_refuses false y e = (refl, refuse_same e)
