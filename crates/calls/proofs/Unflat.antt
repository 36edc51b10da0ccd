-- Nested lists laid flat, and what the flat lists stand for: the nested lists, whatever they are.
-- Assumes nothing.
use mathlib.Core.Path.{◌≡◌, refl, ap, ap₂, ◌∙◌}
use mathlib.Core.List.{List, [], ◌∷◌, map}
use Prim.Native.Nat.{ℕ, ◌+◌, ◌-◌}
use native.Mathlib.Omega.{arith}
use lib.ListN.{length, length-append}
use lib.Seq.{take-append_seam, drop-append_seam}
use Rattle.segment.specs.Records.{Posting, Term, Given}
use Rattle.segment.specs.Metadata.{document}
use Rattle.segment.specs.Texts.{names}
use Rattle.common.specs.Lists.{paired, parts, total, joined}
use Rattle.calls.specs.Given.{given, posting, term, ends_from, laid_flat}
use Rattle.common.proofs.Pairs.{paired_back}

module _ {A B : Type 0} (f : B → List A) where
  parts_back : (bs : List B) → parts (map (λ b. length (f b)) bs) (joined (map f bs)) ≡ map f bs
  parts_back [] = refl
  parts_back (b ∷ bs) = rw (take-append_seam (f b) (joined (map f bs)), drop-append_seam (f b) (joined (map f bs)), parts_back bs)

  pub total_joined : (bs : List B) → total (map (λ b. length (f b)) bs) ≡ length (joined (map f bs))
  total_joined [] = refl
  total_joined (b ∷ bs) = rw (length-append (f b) (joined (map f bs)), total_joined bs)

names_back : (from : ℕ) (ns : List (List ℕ)) → names from (ends_from from ns) (joined ns) ≡ ns
unfolding names
names_back from [] = refl
names_back from (n ∷ ns) =
    let e : from + length n - from ≡ length n = omega arith in
    rw (e, take-append_seam n (joined ns), drop-append_seam n (joined ns), names_back (from + length n) ns)

module _ (g : Given) where
  abbrev ts : List Term
  ts = g.terms

  abbrev ps : List Posting
  ps = joined (map (λ (t : Term). t.postings) ts)

  abbrev texts : List (List ℕ)
  texts = map (λ (t : Term). t.name) ts

  postings_back : paired posting (map (λ p. p.doc) ps)
      (parts (map (λ p. length p.positions) ps) (joined (map (λ p. p.positions) ps))) ≡ ps
  postings_back =
      rw (parts_back (λ (p : Posting). p.positions) ps) (paired_back (λ p. p.doc) (λ p. p.positions) posting (λ p. refl) ps)

  pub given_back : given (laid_flat g) ≡ g
  unfolding given laid_flat
  given_back = λ i. record {
    documents = paired_back (λ d. d.id) (λ d. d.len) document (λ d. refl) g.documents i;
    terms =
        (ap (λ (q : List Posting).
        paired term (names 0 (ends_from 0 texts) (joined texts)) (parts (map (λ t. length t.postings) ts) q)) postings_back
        ∙ ap₂ (paired term) (names_back 0 texts) (parts_back (λ (t : Term). t.postings) ts)
        ∙ paired_back (λ t. t.name) (λ t. t.postings) term (λ t. refl) ts) i;
  }
