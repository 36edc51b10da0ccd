-- Results: a chain of steps that was passed had each of its steps passed.
-- Assumes nothing.
use Rattle.std.specs.Prelude.{Err, None, Ok, Option, Some}
use mathlib.Core.Path.{◌≡◌, refl}
use mathlib.Core.Bool.{Bool, true, false}
use Prim.Native.Nat.{ℕ}
use native.Mathlib.Omega.{arith}
use Rattle.segment.specs.declared.refusal.Refusal.{Refusal}
use Rattle.segment.specs.Results.{Answer, ◌>>=◌, check}

module _ {A : Type 0} where
  pub refuse_ok : {P : Type 0} {x : Refusal} {a : A} → ◌≡◌ {A = Answer A} (Err x) (Ok a) → P
  refuse_ok e = let z : ◌≡◌ {A = ℕ} 0 1 = cc in absurd (omega arith)

  pub ok_same : {a b : A} → ◌≡◌ {A = Answer A} (Ok a) (Ok b) → a ≡ b
  ok_same e = cc

pub bind_gives : {A B : Type 0} (r : Answer A) (f : A → Answer B) {b : B} → (r >>= f) ≡ Ok b → (a : A) × (r ≡ Ok a) × (f a ≡ Ok b)
bind_gives (Ok a) f e = (a, refl, e)
bind_gives (Err x) f e = refuse_ok e

-- steps taken together, or one by one
pub bind_twice : {A B C : Type 0} (r : Answer A) (f : A → Answer B) (g : B → Answer C) → ((r >>= f) >>= g) ≡ (r >>= λ a. f a >>= g)
bind_twice (Ok a) f g = refl
bind_twice (Err x) f g = refl

-- the two tests of a value that rises
pub both_gives : {B : Type 0} (t u : Bool) (x y : Refusal) (m : B) {n : B} → (check t x >>= (λ _. check u y >>= (λ _. Ok m))) ≡ Ok n
    → (t ≡ true) × (u ≡ true) × (m ≡ n)
both_gives true true x y m e = (refl, refl, ok_same e)
both_gives true false x y m e = refuse_ok e
both_gives false true x y m e = refuse_ok e
both_gives false false x y m e = refuse_ok e

-- what a result carries, whatever a refusal says
abbrev pub carried : {A : Type 0} → Answer A → Option A
carried (Ok a) = Some a
carried (Err x) = None

pub carried_ok : {A : Type 0} (r : Answer A) {a : A} → carried r ≡ Some a → r ≡ Ok a
carried_ok (Ok b) e = cc
carried_ok (Err x) e = let z : ◌≡◌ {A = ℕ} 0 1 = cc in absurd (omega arith)

pub carried_bind : {A B : Type 0} (r q : Answer A) (f g : A → Answer B) → carried r ≡ carried q → ((a : A) → carried (f a) ≡ carried (g a))
    → carried (r >>= f) ≡ carried (q >>= g)
carried_bind (Ok a) (Ok b) f g e h = let s : a ≡ b = cc in rw s (h b)
carried_bind (Ok a) (Err y) f g e h = let z : ◌≡◌ {A = ℕ} 0 1 = cc in absurd (omega arith)
carried_bind (Err x) (Ok b) f g e h = let z : ◌≡◌ {A = ℕ} 0 1 = cc in absurd (omega arith)
carried_bind (Err x) (Err y) f g e h = refl

pub carried_check : (t : Bool) (x y : Refusal) → carried (check t x) ≡ carried (check t y)
carried_check true x y = refl
carried_check false x y = refl
