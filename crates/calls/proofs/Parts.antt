-- Lists cut into parts and joined, names cut out of a text: nothing is lost.
-- Assumes nothing.
use mathlib.Core.Path.{◌≡◌, refl, ap, ◌∙◌}
use mathlib.Core.Bool.{true}
use mathlib.Core.List.{List, [], ◌∷◌, map}
use Prim.Native.Nat.{ℕ, zero, suc, ◌+◌, ◌-◌, ◌*◌, ◌≤◌, ◌<◌}
use native.Mathlib.Omega.{arith}
use lib.Dec.{leb}
use lib.ListN.{length, take, drop, get_or, length-drop, take-append-drop}
use lib.Seq.{length-take-le, drop-drop}
use borrow.Author.Tests.{leb-true, eqb-true}
use Rattle.common.proofs.Loops.{and_left, and_right, drop_step, drop_end}
use Rattle.segment.specs.Texts.{ends_fit, names}
use Rattle.segment.specs.Records.{between}
use Rattle.common.specs.Lists.{parts, joined, total}
use Rattle.calls.specs.Given.{ends_from}

-- ---- parts of a list

module _ {A : Type 0} where
  pub parts_count : (cs : List ℕ) (xs : List A) → length (parts cs xs) ≡ length cs
  parts_count [] xs = refl
  parts_count (c ∷ cs) xs = ap suc (parts_count cs (drop c xs))

  pub parts_joined : (cs : List ℕ) (xs : List A) → total cs ≡ length xs → joined (parts cs xs) ≡ xs
  parts_joined [] [] h = refl
  parts_joined [] (x ∷ xs) h = absurd (omega arith)
  parts_joined (c ∷ cs) xs h = rw (parts_joined cs (drop c xs) (rw length-drop (omega arith)), take-append-drop c xs)

  pub parts_lengths : (cs : List ℕ) (xs : List A) → total cs ≤ length xs → map length (parts cs xs) ≡ cs
  parts_lengths [] xs h = refl
  parts_lengths (c ∷ cs) xs h = rw (length-take-le c xs (omega arith), parts_lengths cs (drop c xs) (rw length-drop (omega arith)))

-- ---- from a place on, and up to a place

module _ {A : Type 0} where
  pub parts_take : (n : ℕ) (cs : List ℕ) (xs : List A) → take n (parts cs xs) ≡ parts (take n cs) xs
  parts_take zero cs xs = refl
  parts_take (suc n) [] xs = refl
  parts_take (suc n) (c ∷ cs) xs = rw (parts_take n cs (drop c xs))

  pub parts_drop : (n : ℕ) (cs : List ℕ) (xs : List A) → drop n (parts cs xs) ≡ parts (drop n cs) (drop (total (take n cs)) xs)
  parts_drop zero cs xs = refl
  parts_drop (suc n) [] xs = refl
  parts_drop (suc n) (c ∷ cs) xs = parts_drop n cs (drop c xs) ∙ rw (drop-drop (total (take n cs)) c xs)

pub total_split : (n : ℕ) (cs : List ℕ) → total cs ≡ total (take n cs) + total (drop n cs)
total_split zero cs = omega arith
total_split (suc n) [] = refl
total_split (suc n) (c ∷ cs) = omega (arith, total_split n cs)

-- a part adds up to no more than the whole, and the whole to no more than its numbers of 32 bits can
pub total_part : (from to : ℕ) (cs : List ℕ) → total (between from to cs) ≤ total cs
total_part from to cs = omega (arith, total_split from cs, total_split (to - from) (drop from cs))

pub total_below : (cs : List ℕ) → ((i : ℕ) → get_or cs i 0 ≤ 4294967295) → total cs ≤ 4294967295 * length cs
total_below [] f = omega arith
total_below (c ∷ cs) f = omega (arith, f 0, total_below cs (λ i. f (suc i)))

pub total_step : (cs : List ℕ) (i : ℕ) → i < length cs → total (drop i cs) ≡ get_or cs i 0 + total (drop (i + 1) cs)
total_step cs i h = ap total (drop_step cs i 0 h)

pub total_end : (cs : List ℕ) (i : ℕ) → length cs ≤ i → total (drop i cs) ≡ 0
total_end cs i h = ap total (drop_end cs i h)

-- ---- names in a text

pub ends_last : (from n : ℕ) (es : List ℕ) → ends_fit from es n ≡ true → from ≤ n
unfolding ends_fit
ends_last from n [] t = omega (arith, eqb-true from n t)
ends_last from n (e ∷ es) t =
    omega (
      arith,
      leb-true from e (and_left (leb from e) (ends_fit e es n) t),
      ends_last e n es (and_right (leb from e) (ends_fit e es n) t),
    )

-- the first name's end lies in the text, and the rest of the text has the other ends
record Split (from e : ℕ) (es text : List ℕ) : Type 0 where
  size : from + length (take (e - from) text) ≡ e
  rest : ends_fit e es (e + length (drop (e - from) text)) ≡ true

split : (from e : ℕ) (es text : List ℕ) → ends_fit from (e ∷ es) (from + length text) ≡ true → Split from e es text
unfolding ends_fit
split from e es text t =
    let up = leb-true from e (and_left (leb from e) (ends_fit e es (from + length text)) t) in
    let rest = and_right (leb from e) (ends_fit e es (from + length text)) t in
    let inside = ends_last e (from + length text) es rest in
    let n : from + length text ≡ e + length (drop (e - from) text) = rw length-drop (omega arith) in
    record { size = rw (length-take-le (e - from) text (omega arith)) (omega arith); rest = rw n at rest }

pub names_joined : (from : ℕ) (es text : List ℕ) → ends_fit from es (from + length text) ≡ true → joined (names from es text) ≡ text
unfolding names ends_fit
names_joined from [] [] t = refl
names_joined from [] (x ∷ xs) t = absurd (omega (arith, eqb-true from (from + suc (length xs)) t))
names_joined from (e ∷ es) text t =
    rw (names_joined e es (drop (e - from) text) (split from e es text t).rest, take-append-drop (e - from) text)

pub names_ends : (from : ℕ) (es text : List ℕ) → ends_fit from es (from + length text) ≡ true → ends_from from (names from es text) ≡ es
unfolding names
names_ends from [] text t = refl
names_ends from (e ∷ es) text t =
    rw ((split from e es text t).size, names_ends e es (drop (e - from) text) (split from e es text t).rest)
