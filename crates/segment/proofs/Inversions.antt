-- What the last test of a chain says where the chain was passed, and what the code answers of a chain that is known to make a whole.
-- Assumes nothing.
use Rattle.std.specs.Prelude.{Err, Ok}
use mathlib.Core.Path.{◌≡◌, refl, ◌∙◌}
use mathlib.Core.Bool.{Bool, true, false, ◌&&◌}
use Prim.Native.Nat.{ℕ}
use native.Mathlib.Omega.{arith}
use Rattle.segment.specs.declared.refusal.Refusal.{Refusal}
use Rattle.segment.specs.Results.{Answer, ◌>>=◌, check}
use Rattle.segment.specs.Steps.{checked}
use Rattle.segment.proofs.Binds.{refuse_ok}
use Rattle.segment.proofs.Accepted as answers

pub last_gives : (t : Bool) (x : Refusal) {u : Unit {0}} → check t x ≡ Ok u → t ≡ true
last_gives true x e = refl
last_gives false x e = refuse_ok e

-- the code's answer of a step: out with its refusal, or on behind it
pub stops : (r : Answer (Unit {0})) (f : Unit {0} → Answer (Unit {0})) {whole : (Answer (Unit {0}))} {x : Refusal} → checked (r >>= f) ≡ whole
    → Err x ≡ checked r → Err x ≡ whole
stops r f inv e = answers.stops r f e ∙ inv

pub goes_on : (r : Answer (Unit {0})) (f : Unit {0} → Answer (Unit {0})) {whole : (Answer (Unit {0}))} → checked (r >>= f) ≡ whole
    → (Ok tt) ≡ checked r → checked (f tt) ≡ whole
goes_on (Ok u) f inv e = inv
goes_on (Err y) f inv e = let z : ◌≡◌ {A = ℕ} 0 1 = cc in absurd (omega arith)

-- one test that fails is enough
pub and_none : (a : Bool) → a && false ≡ false
and_none true = refl
and_none false = refl
