-- Names that rise after what stood before them, as their tests say it and in words; and numbers that do not fall short.
-- Assumes nothing.
use Rattle.std.specs.Prelude.{None, Option, Some}
use mathlib.Core.Path.{◌≡◌, refl}
use mathlib.Core.Bool.{true}
use mathlib.Core.List.{List, [], ◌∷◌}
use Prim.Native.Nat.{ℕ}
use native.Mathlib.Omega.{arith}
use borrow.Author.Tests.{ltb-true, le-leb}
use Rattle.segment.specs.Records.{rises}
use Rattle.segment.specs.Directory.{follows}
use Rattle.segment.proofs.Strings.{precedes_is}
use Rattle.calls.specs.Checks.{reaches}
use Rattle.calls.specs.Acceptance.{NamesRising}

-- ---- numbers

-- what rises does not fall short
pub rises_reaches : (previous : Option ℕ) (x : ℕ) → rises previous x ≡ true → reaches previous x ≡ true
rises_reaches None x t = refl
rises_reaches (Some p) x t = le-leb p x (omega (arith, ltb-true p x t))

-- ---- names

abbrev pub AfterName : Option (List ℕ) → List (List ℕ) → Type 0
AfterName None xs = NamesRising xs
AfterName (Some p) xs = NamesRising (p ∷ xs)

pub name_none : (previous : Option (List ℕ)) → AfterName previous []
name_none None = tt
name_none (Some p) = tt

pub name_cons : (previous : Option (List ℕ)) (x : List ℕ) (xs : List (List ℕ)) → follows previous x ≡ true → AfterName (Some x) xs
    → AfterName previous (x ∷ xs)
name_cons None x xs t r = r
name_cons (Some p) x xs t r = ((precedes_is p x).0 t, r)

pub name_head : (previous : Option (List ℕ)) (x : List ℕ) (xs : List (List ℕ)) → AfterName previous (x ∷ xs) → follows previous x ≡ true
name_head None x xs r = refl
name_head (Some p) x xs r = (precedes_is p x).1 r.0

pub name_tail : (previous : Option (List ℕ)) (x : List ℕ) (xs : List (List ℕ)) → AfterName previous (x ∷ xs) → AfterName (Some x) xs
name_tail None x xs r = r
name_tail (Some p) x xs r = r.1
