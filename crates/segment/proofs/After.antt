-- Numbers that rise after what stood before them, as the readers test it and in words.
-- Assumes nothing.
use Rattle.std.specs.Prelude.{None, Option, Some}
use mathlib.Core.Path.{◌≡◌, refl}
use mathlib.Core.Bool.{true}
use mathlib.Core.List.{List, [], ◌∷◌}
use Prim.Native.Nat.{ℕ}
use borrow.Author.Tests.{ltb-true, lt-ltb}
use Rattle.common.specs.Elements.{Rising}
use Rattle.segment.specs.Records.{rises}

abbrev pub After : Option ℕ → List ℕ → Type 0
After None xs = Rising xs
After (Some p) xs = Rising (p ∷ xs)

pub after_none : (previous : Option ℕ) → After previous []
after_none None = tt
after_none (Some p) = tt

pub after_cons : (previous : Option ℕ) (x : ℕ) (xs : List ℕ) → rises previous x ≡ true → After (Some x) xs → After previous (x ∷ xs)
after_cons None x xs t r = r
after_cons (Some p) x xs t r = (ltb-true p x t, r)

pub after_head : (previous : Option ℕ) (x : ℕ) (xs : List ℕ) → After previous (x ∷ xs) → rises previous x ≡ true
after_head None x xs r = refl
after_head (Some p) x xs r = lt-ltb p x r.0

pub after_tail : (previous : Option ℕ) (x : ℕ) (xs : List ℕ) → After previous (x ∷ xs) → After (Some x) xs
after_tail None x xs r = r
after_tail (Some p) x xs r = r.1
