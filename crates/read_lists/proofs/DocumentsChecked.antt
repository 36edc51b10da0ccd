-- The metadata checked document by document: what is still to be checked from an offset on is all of it.
-- Assumes nothing.
use Rattle.std.specs.Prelude.{Err, None, Ok, Option, Some}
use mathlib.Core.Path.{◌≡◌, refl, sym, ap, ◌∙◌}
use mathlib.Core.List.{List, ◌∷◌}
use Prim.Native.Nat.{ℕ, suc, ◌+◌, ◌-◌, ◌≤◌, ◌<◌}
use native.Mathlib.Omega.{arith}
use native.Mathlib.Numerals.{add-one}
use lib.Dec.{eqb}
use lib.ListN.{length, drop, length-drop}
use borrow.Author.Tests.{eq-eqb, ne_eqb}
use Rattle.common.proofs.Loops.{left_suc, left_none}
use Rattle.segment.specs.declared.refusal.Refusal.{Refusal}
use Rattle.segment.specs.Refusals.{invalid_layout, trailing_document_metadata}
use Rattle.segment.specs.Results.{Answer, ◌>>=◌, check}
use Rattle.segment.specs.Records.{Document, Read}
use Rattle.segment.specs.Metadata.{document, read_document, read_documents, metadata}
use Rattle.segment.specs.Steps.{checked}
use Rattle.read_lists.specs.Steps.{after}

-- the check at the end, on the bytes after the documents
abbrev trailing : List ℕ → Answer (Unit {0})
trailing rest = check (eqb (length rest) 0) (invalid_layout trailing_document_metadata)

abbrev pub closed : Answer (List ℕ) → Answer (Unit {0})
closed (Ok rest) = checked (trailing rest)
closed (Err x) = Err x

got_forgotten : {A B : Type 0} (r : Answer A) (b : B) → checked (r >>= (λ _. Ok b)) ≡ checked r
got_forgotten (Ok a) b = refl
got_forgotten (Err x) b = refl

closing : (r : Answer (Read (List Document))) → checked (r >>= (λ all. trailing all.rest >>= (λ _. Ok all.got))) ≡ closed (after r)
closing (Ok all) = got_forgotten (trailing all.rest) all.got
closing (Err x) = refl

all_checked : (count : ℕ) (bytes : List ℕ) → checked (metadata count bytes) ≡ closed (after (read_documents count 0 None bytes))
unfolding metadata
all_checked count bytes = closing (read_documents count 0 None bytes)

-- where the reading ended is what the check of all answers
pub ends : (bytes : List ℕ) (count : ℕ) {r : Answer (List ℕ)} → r ≡ after (read_documents count 0 None bytes)
    → closed r ≡ checked (metadata count bytes)
ends bytes count e = ap closed e ∙ sym (all_checked count bytes)

rest_same : (d : Document) (r : Answer (Read (List Document)))
    → after (r >>= (λ more. Ok (record { got = d ∷ more.got; rest = more.rest }))) ≡ after r
rest_same d (Ok more) = refl
rest_same d (Err x) = refl

module _ (s : List ℕ) (count i : ℕ) (previous : Option ℕ) (at : ℕ) {whole : Answer (List ℕ)}
    (inv : after (read_documents (count - i) i previous (drop at s)) ≡ whole) where
  pub documents_next : (id len next : ℕ) → i < count
      → read_document i previous (drop at s) ≡ Ok (record { got = document id len; rest = drop next s })
      → after (read_documents (count - (i + 1)) (i + 1) (Some id) (drop next s)) ≡ whole
  unfolding read_documents
  documents_next id len next h e =
      let m : count - i ≡ suc (count - suc i) = omega arith in
      rw (add-one i)
      (sym (rest_same (document id len) (read_documents (count - suc i) (suc i) (Some id) (drop next s))) ∙ (rw (m, e) at inv))

  pub documents_stop : {x : Refusal} → i < count → read_document i previous (drop at s) ≡ Err x → Err x ≡ whole
  unfolding read_documents
  documents_stop h e = rw (left_suc count i h, e) at inv

  pub documents_end : count ≤ i → Ok (drop at s) ≡ whole
  unfolding read_documents
  documents_end h = rw (left_none count i h) at inv

-- what is left at the end
pub closed_short : (s : List ℕ) (at : ℕ) → at < length s → closed (Ok (drop at s)) ≡ Err (invalid_layout trailing_document_metadata)
closed_short s at h = rw (ne_eqb (length (drop at s)) 0 (omega (arith, length-drop at s)))

pub closed_whole : (s : List ℕ) (at : ℕ) → length s ≤ at → closed (Ok (drop at s)) ≡ (Ok tt)
closed_whole s at h = rw (eq-eqb (length (drop at s)) 0 (omega (arith, length-drop at s)))
