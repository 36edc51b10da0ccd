-- The length that is found for an id is that of the document with this id.
-- Assumes nothing.
use Rattle.std.specs.Prelude.{None, Ok, Option, Some}
use mathlib.Core.Path.{◌≡◌, refl, ap}
use mathlib.Core.Bool.{Bool, true, false, cond}
use mathlib.Core.List.{List, [], ◌∷◌, map}
use mathlib.Core.Logic.{inl, inr}
use Prim.Native.Nat.{ℕ}
use native.Mathlib.Omega.{arith}
use lib.Dec.{eqb}
use borrow.Author.Tests.{eqb-true, eq-eqb, ne_eqb}
use Rattle.segment.specs.Records.{Document}
use Rattle.segment.specs.Metadata.{length_of}
use Rattle.segment.specs.Postings.{known}
use Rattle.segment.proofs.Binds.{refuse_ok, ok_same}
use Rattle.common.specs.Elements.{◌∈◌, Rising}
use Rattle.common.proofs.Elements.{map_from, rising_tail, rising_above}

-- the document that a length was found for
pub record Found (documents : List Document) (id len : ℕ) : Type 0 where
  pub of : Document
  pub known : of ∈ documents
  pub same : of.id ≡ id
  pub length : of.len ≡ len

found_in : (documents : List Document) (id len : ℕ) → length_of documents id ≡ Some len → Found documents id len
unfolding length_of
found_in [] id len e = let z : ◌≡◌ {A = ℕ} 0 1 = cc in absurd (omega arith)
found_in (d ∷ ds) id len e = by_test (eqb d.id id) refl e (found_in ds id len)
  where
    by_test : (t : Bool) → eqb d.id id ≡ t → cond t (Some d.len) (length_of ds id) ≡ Some len
        → (length_of ds id ≡ Some len → Found ds id len) → Found (d ∷ ds) id len
    by_test true t e ih = record { of = d; known = inl refl; same = eqb-true d.id id t; length = cc }
    by_test false t e ih =
        let f = ih e in
        record { of = f.of; known = inr f.known; same = f.same; length = f.length }

known_is : (o : Option ℕ) (len : ℕ) → known o ≡ Ok len → o ≡ Some len
known_is None len e = refuse_ok e
known_is (Some n) len e = ap Some (ok_same e)

pub known_gives : (documents : List Document) (id len : ℕ) → known (length_of documents id) ≡ Ok len → Found documents id len
known_gives documents id len e = found_in documents id len (known_is (length_of documents id) len e)

-- ids rise, so no other document has this id
pub known_from : (documents : List Document) → Rising (map (λ d. d.id) documents) → (d : Document) → d ∈ documents
    → length_of documents d.id ≡ Some d.len
unfolding length_of
known_from [] r d m = absurd m
known_from (x ∷ xs) r d (inl e) = rw (e, eq-eqb x.id x.id refl)
known_from (x ∷ xs) r d (inr m) =
    let up = rising_above x.id (map (λ d. d.id) xs) r d.id (map_from (λ d. d.id) xs d m) in
    rw (ne_eqb x.id d.id (λ e. omega arith)) (known_from xs (rising_tail x.id (map (λ d. d.id) xs) r) d m)
