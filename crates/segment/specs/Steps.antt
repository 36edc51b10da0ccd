-- The value of a definition for each answer of the code.
use Rattle.std.specs.Prelude.{Err, None, Ok, Option, Some, option_map, ℕ, cond, Bool, true, false, List}
use Rattle.segment.specs.declared.ids.DocId.{DocId}
use Rattle.std.specs.declared.cmp.Ordering.TheVariants.{Equal, Greater, Less}
use Rattle.std.specs.declared.cmp.Ordering.{Ordering}
use Rattle.segment.specs.Names.{same, precedes}
use Rattle.segment.specs.Results.{Answer}

-- the order of two names
abbrev pub order : List ℕ → List ℕ → Ordering
order a b = cond (precedes a b) Less (cond (same a b) Equal Greater)

-- the number of an id, where there is one
abbrev pub id_of : Option DocId → Option ℕ
id_of d = option_map (λ (x : DocId). x.0) d

-- the value before, which the code keeps even before the first: none for the first
abbrev pub earlier : {A : Type 0} → Bool → A → Option A
earlier true p = None
earlier false p = Some p

-- whether a check passed
abbrev pub checked : {A : Type 0} → Answer A → Answer (Unit {0})
checked (Ok a) = (Ok tt)
checked (Err x) = Err x
