-- Matches of different documents, ranked, stand best first; and of such lists with the same matches there is one.
-- Assumes nothing.
use mathlib.Core.Path.{◌≡◌, refl, sym, ap₂, ◌∙◌}
use mathlib.Core.Bool.{Bool, true, false}
use mathlib.Core.List.{List, [], ◌∷◌, map}
use mathlib.Core.Logic.{inl, inr, ⊎_elim, ◌↔◌}
use Prim.Native.Nat.{ℕ, zero, suc, ◌+◌, ◌≤◌, ◌<◌}
use native.Mathlib.Omega.{arith}
use lib.Dec.{eqb}
use lib.ListN.{length}
use borrow.Author.Tests.{eqb-true, eqb-false, eq-eqb, ne_eqb}
use Rattle.common.specs.Elements.{◌∈◌, Rising}
use Rattle.common.proofs.Loops.{lt_or_ge}
use Rattle.common.proofs.Elements.{map_from, rising_tail, rising_above}
use Rattle.common.proofs.Membership.{at_place, place_of}
use Rattle.calls.specs.Order.{Match, match_of, StandsBefore, BestFirst, ranked, occurs}
use Rattle.calls.specs.Steps.{Before, at}
use Rattle.calls.proofs.Ordered.{order_exactly, not_both, strictly, reflexive, is_listed}
use Rattle.calls.proofs.Ranks.{ranked_ids, ranked_in_order, any_two}

-- ---- how often an id stands in a list

none_there : (d : ℕ) → occurs d [] ≡ 0
unfolding occurs
none_there d = refl

occurs_here : (d : ℕ) (xs : List ℕ) → occurs d (d ∷ xs) ≡ 1 + occurs d xs
unfolding occurs
occurs_here d xs = rw (eq-eqb d d refl)

occurs_other : (d x : ℕ) (xs : List ℕ) → (d ≡ x → ⊥) → occurs d (x ∷ xs) ≡ occurs d xs
unfolding occurs
occurs_other d x xs n = rw (ne_eqb d x n) (omega arith)

occurs_later : (d x : ℕ) (xs : List ℕ) → occurs d xs ≤ occurs d (x ∷ xs)
unfolding occurs
occurs_later d x xs = omega arith

pub occurs_there : (d : ℕ) (xs : List ℕ) → d ∈ xs → 0 < occurs d xs
occurs_there d [] m = absurd m
occurs_there d (x ∷ xs) (inl e) = rw (← e) (omega (arith, occurs_here d xs))
occurs_there d (x ∷ xs) (inr m) = omega (arith, occurs_later d x xs, occurs_there d xs m)

pub occurs_gives : (d : ℕ) (xs : List ℕ) → 0 < occurs d xs → d ∈ xs
occurs_gives d [] h = absurd (omega (arith, none_there d))
occurs_gives d (x ∷ xs) h = step (eqb d x) refl (occurs_gives d xs)
  where
    step : (t : Bool) → eqb d x ≡ t → (0 < occurs d xs → d ∈ xs) → d ∈ (x ∷ xs)
    step true t later = inl (eqb-true d x t)
    step false t later = inr (later (omega (arith, occurs_other d x xs (eqb-false d x t))))

occurs_not : (d : ℕ) (xs : List ℕ) → (d ∈ xs → ⊥) → occurs d xs ≡ 0
occurs_not d [] out = none_there d
occurs_not d (x ∷ xs) out = occurs_other d x xs (λ e. out (inl e)) ∙ occurs_not d xs (λ m. out (inr m))

-- no id stands twice
abbrev pub Once : List ℕ → Type 0
Once xs = (d : ℕ) → occurs d xs ≤ 1

pub rising_once : (xs : List ℕ) → Rising xs → (d : ℕ) → occurs d xs ≤ 1
rising_once [] r d = omega (arith, none_there d)
rising_once (x ∷ xs) r d = step (eqb d x) refl (rising_once xs (rising_tail x xs r) d)
  where
    step : (t : Bool) → eqb d x ≡ t → occurs d xs ≤ 1 → occurs d (x ∷ xs) ≤ 1
    step true t later =
        let e = eqb-true d x t in
        let none = occurs_not x xs (λ m. omega (arith, rising_above x xs r x m)) in
        rw e (omega (arith, occurs_here x xs))
    step false t later = omega (arith, occurs_other d x xs (eqb-false d x t))

-- ---- best first

abbrev ids : List Match → List ℕ
ids ms = map (λ m. m.doc) ms

-- two places have two documents
apart : (ms : List Match) → Once (ids ms) → (i j : ℕ) → i < j → j < length ms → (at ms i).doc ≡ (at ms j).doc → ⊥
apart [] once i j h l e = omega arith
apart (m ∷ ms) once i zero h l e = omega arith
apart (m ∷ ms) once zero (suc j) h l e =
    let there : m.doc ∈ ids ms = rw e (map_from (λ m. m.doc) ms (at ms j) (at_place (match_of 0 0) ms j (omega arith))) in
    omega (arith, once m.doc, occurs_here m.doc (ids ms), occurs_there m.doc (ids ms) there)
apart (m ∷ ms) once (suc i) (suc j) h l e =
    apart ms (λ d. omega (arith, once d, occurs_later d m.doc (ids ms))) i j (omega arith) (omega arith) e

pub best_first : (ms : List Match) → ((d : ℕ) → occurs d (map (λ m. m.doc) ms) ≤ 1) → BestFirst (ranked ms)
best_first ms once i j hi hj = (
  λ l. strictly (any_two (ranked ms) (ranked_in_order ms) i j l hj) (apart (ranked ms) still_once i j l hj),
  λ s. ⊎_elim (λ (l : i < j). l) (λ (l : j ≤ i). absurd (not_both (listed l) s)) (lt_or_ge i j),
)
  where
    still_once : Once (ids (ranked ms))
    still_once d = omega (arith, once d, ranked_ids ms d)

    listed : j ≤ i → Before (at (ranked ms) j) (at (ranked ms) i)
    listed l =
        ⊎_elim
        (λ (k : j < i). any_two (ranked ms) (ranked_in_order ms) j i k hi)
        (λ (k : i ≤ j). let e : j ≡ i = omega arith in rw e (reflexive (at (ranked ms) i)))
        (lt_or_ge j i)

-- ---- the only one

not_itself : (p : Match) → StandsBefore p p → ⊥
not_itself p s = not_both (reflexive p) s

one_way : (p q : Match) → StandsBefore p q → StandsBefore q p → ⊥
one_way p q s t = not_both (is_listed p q ((order_exactly p q).1 s)) t

best_tail : (x : Match) (xs : List Match) → BestFirst (x ∷ xs) → BestFirst xs
best_tail x xs b i j hi hj =
    let (to, back) = b (suc i) (suc j) (omega arith) (omega arith) in
    (λ l. to (omega arith), λ s. omega (arith, back s))

best_above : (x : Match) (xs : List Match) → BestFirst (x ∷ xs) → (y : Match) → y ∈ xs → StandsBefore x y
best_above x xs b y m =
    let (i, h, e) = place_of (match_of 0 0) xs y m in
    rw e at ((b 0 (suc i) (omega arith) (omega arith)).0 (omega arith))

-- all but the first of the one stand behind the first of the other
behind : (x : Match) (xs : List Match) (y : Match) (ys : List Match) → BestFirst (x ∷ xs) → x ≡ y
    → ((m : Match) → m ∈ (x ∷ xs) → m ∈ (y ∷ ys)) → (m : Match) → m ∈ xs → m ∈ ys
behind x xs y ys b heads f m k = step (f m (inr k))
  where
    step : m ∈ (y ∷ ys) → m ∈ ys
    step (inl e) = absurd (not_itself m (rw (heads ∙ sym e) at (best_above x xs b m k)))
    step (inr j) = j

unique : (xs ys : List Match) → BestFirst xs → BestFirst ys → ((m : Match) → m ∈ xs → m ∈ ys) → ((m : Match) → m ∈ ys → m ∈ xs) → xs ≡ ys
unique [] [] b c f g = refl
unique [] (y ∷ ys) b c f g = absurd (g y (inl refl))
unique (x ∷ xs) [] b c f g = absurd (f x (inl refl))
unique (x ∷ xs) (y ∷ ys) b c f g =
    ap₂ ◌∷◌ heads
    (unique xs ys (best_tail x xs b) (best_tail y ys c) (behind x xs y ys b heads f) (behind y ys x xs c (sym heads) g))
  where
    meet : x ∈ (y ∷ ys) → y ∈ (x ∷ xs) → x ≡ y
    meet (inl e) m = e
    meet (inr m) (inl e) = sym e
    meet (inr m) (inr k) = absurd (one_way x y (best_above x xs b y k) (best_above y ys c x m))

    heads : x ≡ y
    heads = meet (f x (inl refl)) (g y (inl refl))

pub best_unique : (xs ys : List Match) → BestFirst xs → BestFirst ys → ((m : Match) → (m ∈ xs) ↔ (m ∈ ys)) → xs ≡ ys
best_unique xs ys b c same = unique xs ys b c (λ m. (same m).0) (λ m. (same m).1)
