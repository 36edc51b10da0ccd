-- What a definition answers: a value, or the first refusal in document 01's order of tests.
use Rattle.std.specs.Prelude.{ℕ, Bool, true, false, leb, Result, Ok, Err}
use Rattle.segment.specs.declared.refusal.Refusal.{Refusal}
use Rattle.segment.specs.Refusals.{no_room}

abbrev pub Answer : Type 0 → Type 0
Answer A = Result A Refusal

infixl 10 ◌>>=◌
-- continue with the value, or return the refusal
abbrev pub ◌>>=◌ : {A B : Type 0} → Answer A → (A → Answer B) → Answer B
Ok a >>= f = f a
Err x >>= f = Err x

-- continue where the test passes, else return the refusal
abbrev pub check : Bool → Refusal → Answer (Unit {0})
check true x = Ok tt
check false x = Err x

-- 13: the answer has more elements than the buffer has places
abbrev pub roomy : (buffer needed room : ℕ) → Answer (Unit {0})
roomy buffer needed room = check (leb needed room) (no_room buffer needed)
