-- The walk index by index leaves what the definition says, and is its own inverse.
-- Assumes nothing.
use mathlib.Core.Path.{◌≡◌, refl, ap, ◌∙◌}
use mathlib.Core.List.{List, [], ◌∷◌, map}
use Prim.Native.Nat.{ℕ, zero, suc, ◌+◌, ◌≤◌}
use native.Mathlib.Omega.{arith}
use Rattle.std.proofs.Math.Numerals.{add-one}
use lib.ListN.{length, get_or, set, length-set}
use Rattle.write_records.specs.declared.exchange.DocumentLength.{DocumentLength}
use Rattle.write_records.specs.Steps.{Three, three, document, before, exchanged, Least}

-- what is past the end of the records
abbrev pub no_document : DocumentLength
no_document = document 0 0

-- the exchange at one index
abbrev pub swap_at : ℕ → Three → Three
swap_at i s =
    three (set s.documents i (document (get_or s.ids i 0) (get_or s.lengths i 0)))
    (set s.ids i (get_or s.documents i no_document).id.0)
    (set s.lengths i (get_or s.documents i no_document).len)

-- the first elements exchanged
unfoldable pub after : ℕ → Three → Three
after zero s = s
after (suc i) s = swap_at i (after i s)

module _ (s : Three) where
  pub after_documents : (i : ℕ) → length (after i s).documents ≡ length s.documents
  unfolding after
  after_documents zero = refl
  after_documents (suc i) = length-set (after i s).documents i _ ∙ after_documents i

  pub after_ids : (i : ℕ) → length (after i s).ids ≡ length s.ids
  unfolding after
  after_ids zero = refl
  after_ids (suc i) = length-set (after i s).ids i _ ∙ after_ids i

  pub after_lengths : (i : ℕ) → length (after i s).lengths ≡ length s.lengths
  unfolding after
  after_lengths zero = refl
  after_lengths (suc i) = length-set (after i s).lengths i _ ∙ after_lengths i

-- one index more: what a turn of the walk leaves
pub after_more : (i : ℕ) (s t : Three) → t ≡ after i s → swap_at i t ≡ after (i + 1) s
unfolding after
after_more i s t e = rw add-one (ap (swap_at i) e)

-- the walk over one index more is the first index, then the walk over the others
after_cons : (d : DocumentLength) (x y i : ℕ) (s : Three)
    → after (suc i) (before d x y s) ≡ before (document x y) d.id.0 d.len (after i s)
unfolding after
after_cons d x y zero s = refl
after_cons d x y (suc i) s = ap (swap_at (suc i)) (after_cons d x y i s)

no_more : {a b c r : ℕ} → Least a b c (suc r) → (a ≡ 0 → ⊥) × (b ≡ 0 → ⊥) × (c ≡ 0 → ⊥)
no_more l = (λ e. omega (arith, e, l.first), λ e. omega (arith, e, l.second), λ e. omega (arith, e, l.third))

pub after_all : (ds : List DocumentLength) (xs ys : List ℕ) (r : ℕ) → Least (length ds) (length xs) (length ys) r
    → after r (three ds xs ys) ≡ exchanged ds xs ys
unfolding after exchanged
after_all [] xs ys zero l = refl
after_all (d ∷ ds) [] ys zero l = refl
after_all (d ∷ ds) (x ∷ xs) [] zero l = refl
after_all (d ∷ ds) (x ∷ xs) (y ∷ ys) zero l =
    let h : 1 ≤ 0 = l.reached 1 (omega arith) (omega arith) (omega arith) in
    absurd (omega (arith, h))
after_all [] xs ys (suc r) l = absurd ((no_more l).0 refl)
after_all (d ∷ ds) [] ys (suc r) l = absurd ((no_more l).1 refl)
after_all (d ∷ ds) (x ∷ xs) [] (suc r) l = absurd ((no_more l).2 refl)
after_all (d ∷ ds) (x ∷ xs) (y ∷ ys) (suc r) l =
    let rest : Least (length ds) (length xs) (length ys) r = record {
      first = omega (arith, l.first);
      second = omega (arith, l.second);
      third = omega (arith, l.third);
      reached = λ m a b c. omega (arith, l.reached (suc m) (omega (arith, a)) (omega (arith, b)) (omega (arith, c)));
    } in
    after_cons d x y r (three ds xs ys) ∙ ap (before (document x y) d.id.0 d.len) (after_all ds xs ys r rest)

-- ---- what an entry uses of it

pub exchanged_twice : (ds : List DocumentLength) (xs ys : List ℕ)
    → exchanged (exchanged ds xs ys).documents (exchanged ds xs ys).ids (exchanged ds xs ys).lengths ≡ three ds xs ys
unfolding exchanged
exchanged_twice [] xs ys = refl
exchanged_twice (d ∷ ds) [] ys = refl
exchanged_twice (d ∷ ds) (x ∷ xs) [] = refl
exchanged_twice (d ∷ ds) (x ∷ xs) (y ∷ ys) = ap (before d x y) (exchanged_twice ds xs ys)

-- two exchanges, one after the other
pub given_back : {ds ds' ds'' : List DocumentLength} {xs ys xs' ys' xs'' ys'' : List ℕ}
    → three ds' xs' ys' ≡ exchanged ds xs ys → three ds'' xs'' ys'' ≡ exchanged ds' xs' ys'
    → three ds'' xs'' ys'' ≡ three ds xs ys
given_back {ds} {xs = xs} {ys = ys} e f =
    f ∙ ap (λ (z : Three). exchanged z.documents z.ids z.lengths) e ∙ exchanged_twice ds xs ys

pub ids_taken : (ds : List DocumentLength) (xs ys : List ℕ) → length xs ≡ length ds → length ys ≡ length ds
    → (exchanged ds xs ys).ids ≡ map (λ d. d.id.0) ds
unfolding exchanged
ids_taken [] [] ys e f = refl
ids_taken [] (x ∷ xs) ys e f = absurd (omega (arith, e))
ids_taken (d ∷ ds) [] ys e f = absurd (omega (arith, e))
ids_taken (d ∷ ds) (x ∷ xs) [] e f = absurd (omega (arith, f))
ids_taken (d ∷ ds) (x ∷ xs) (y ∷ ys) e f = ap (λ (l : List ℕ). d.id.0 ∷ l) (ids_taken ds xs ys (omega (arith, e)) (omega (arith, f)))

pub lengths_taken : (ds : List DocumentLength) (xs ys : List ℕ) → length xs ≡ length ds → length ys ≡ length ds
    → (exchanged ds xs ys).lengths ≡ map (λ d. d.len) ds
unfolding exchanged
lengths_taken [] xs [] e f = refl
lengths_taken [] xs (y ∷ ys) e f = absurd (omega (arith, f))
lengths_taken (d ∷ ds) [] ys e f = absurd (omega (arith, e))
lengths_taken (d ∷ ds) (x ∷ xs) [] e f = absurd (omega (arith, f))
lengths_taken (d ∷ ds) (x ∷ xs) (y ∷ ys) e f = ap (λ (l : List ℕ). d.len ∷ l)
    (lengths_taken ds xs ys (omega (arith, e)) (omega (arith, f)))

pub ids_long : (ds : List DocumentLength) (xs ys : List ℕ) → length (exchanged ds xs ys).ids ≡ length xs
unfolding exchanged
ids_long [] xs ys = refl
ids_long (d ∷ ds) [] ys = refl
ids_long (d ∷ ds) (x ∷ xs) [] = refl
ids_long (d ∷ ds) (x ∷ xs) (y ∷ ys) = ap suc (ids_long ds xs ys)

pub lengths_long : (ds : List DocumentLength) (xs ys : List ℕ) → length (exchanged ds xs ys).lengths ≡ length ys
unfolding exchanged
lengths_long [] xs ys = refl
lengths_long (d ∷ ds) [] ys = refl
lengths_long (d ∷ ds) (x ∷ xs) [] = refl
lengths_long (d ∷ ds) (x ∷ xs) (y ∷ ys) = ap suc (lengths_long ds xs ys)
