-- The writer's tests pass exactly where document 01 names no refusal: documents, positions, postings, terms.
-- Assumes nothing.
use Rattle.std.specs.Prelude.{None, Ok, Option, Some}
use mathlib.Core.Path.{◌≡◌, refl}
use mathlib.Core.Bool.{true}
use mathlib.Core.List.{List, [], ◌∷◌, map}
use mathlib.Core.Logic.{inl, inr}
use Prim.Native.Nat.{ℕ, ◌<◌}
use lib.Dec.{ltb}
use lib.ListN.{length}
use borrow.Author.Tests.{ltb-true, lt-ltb}
use Rattle.utf8.specs.Utf8.{utf8}
use Rattle.utf8.proofs.Text.{grammar_agrees}
use Rattle.segment.specs.Records.{Document, Posting, Term, rises}
use Rattle.segment.specs.Metadata.{length_of}
use Rattle.segment.specs.Directory.{follows}
use Rattle.segment.specs.Postings.{known}
use Rattle.segment.proofs.Binds.{bind_gives}
use Rattle.segment.proofs.Accepted.{check_gives}
use Rattle.segment.proofs.After.{After, after_none, after_cons, after_head, after_tail}
use Rattle.segment.proofs.Inversions.{last_gives}
use Rattle.calls.specs.Checks.{reaches, check_documents, position_checks, check_positions, check_posting, check_postings, check_name}
use Rattle.calls.specs.Checks.{check_terms}
use Rattle.calls.specs.Acceptance.{PostingFine, TermFine}
use Rattle.common.specs.Elements.{◌∈◌, Rising}
use Rattle.common.proofs.Elements.{each}
use Rattle.calls.proofs.Rising.{rises_reaches, AfterName, name_none, name_cons, name_head, name_tail}
use Rattle.calls.proofs.Known.{known_gives, known_from}

abbrev pub ids : List Document → List ℕ
ids ds = map (λ d. d.id) ds

abbrev pub docs : List Posting → List ℕ
docs ps = map (λ p. p.doc) ps

abbrev pub names_of : List Term → List (List ℕ)
names_of ts = map (λ t. t.name) ts

-- ---- documents

pub documents_give : (previous : Option ℕ) (ds : List Document) → check_documents previous ds ≡ Ok tt → After previous (ids ds)
unfolding check_documents
documents_give previous [] e = after_none previous
documents_give previous (d ∷ ds) e =
    let r = check_gives (rises previous d.id) _ _ e in
    after_cons previous d.id (ids ds) r.0 (documents_give (Some d.id) ds r.1)

pub documents_from : (previous : Option ℕ) (ds : List Document) → After previous (ids ds) → check_documents previous ds ≡ Ok tt
unfolding check_documents
documents_from previous [] a = refl
documents_from previous (d ∷ ds) a =
    rw (after_head previous d.id (ids ds) a) (documents_from (Some d.id) ds (after_tail previous d.id (ids ds) a))

-- ---- positions

positions_give : (len : ℕ) (previous : Option ℕ) (ps : List ℕ) → check_positions len previous ps ≡ Ok tt
    → After previous ps × ((x : ℕ) → x ∈ ps → x < len)
unfolding check_positions position_checks
positions_give len previous [] e = (after_none previous, λ x m. absurd m)
positions_give len previous (p ∷ ps) e =
    let r = bind_gives (position_checks len previous p) _ e in
    let r₁ = check_gives (reaches previous p) _ _ r.1 in
    let r₂ = check_gives (rises previous p) _ _ r₁.1 in
    let below = ltb-true p len (last_gives (ltb p len) _ r₂.1) in
    let later = positions_give len (Some p) ps r.2 in
    (after_cons previous p ps r₂.0 later.0, each (λ x. x < len) p ps below later.1)

positions_from : (len : ℕ) (previous : Option ℕ) (ps : List ℕ) → After previous ps → ((x : ℕ) → x ∈ ps → x < len)
    → check_positions len previous ps ≡ Ok tt
unfolding check_positions position_checks
positions_from len previous [] a f = refl
positions_from len previous (p ∷ ps) a f =
    let up = after_head previous p ps a in
    rw (rises_reaches previous p up, up, lt-ltb p len (f p (inl refl)))
    (positions_from len (Some p) ps (after_tail previous p ps a) (λ x m. f x (inr m)))

-- ---- postings

module _ (documents : List Document) where
  posting_gives : (previous : Option ℕ) (p : Posting) → check_posting documents previous p ≡ Ok tt
      → (rises previous p.doc ≡ true) × PostingFine documents p
  unfolding check_posting
  posting_gives previous p e =
      let r₀ = bind_gives (known (length_of documents p.doc)) _ e in
      let r₁ = check_gives (reaches previous p.doc) _ _ r₀.2 in
      let r₂ = check_gives (rises previous p.doc) _ _ r₁.1 in
      let r₃ = check_gives (ltb 0 (length p.positions)) _ _ r₂.1 in
      let d = known_gives documents p.doc r₀.0 r₀.1 in
      let ps = positions_give r₀.0 None p.positions r₃.1 in (
        r₂.0,
        record {
          of = d.of;
          known = d.known;
          same = d.same;
          has_positions = ltb-true 0 (length p.positions) r₃.0;
          rising = ps.0;
          inside = λ x m. rw d.length (ps.1 x m);
        },
      )

  pub postings_give : (previous : Option ℕ) (ps : List Posting) → check_postings documents previous ps ≡ Ok tt
      → After previous (docs ps) × ((p : Posting) → p ∈ ps → PostingFine documents p)
  unfolding check_postings
  postings_give previous [] e = (after_none previous, λ p m. absurd m)
  postings_give previous (p ∷ ps) e =
      let r = bind_gives (check_posting documents previous p) _ e in
      let here = posting_gives previous p r.1 in
      let later = postings_give (Some p.doc) ps r.2 in
      (after_cons previous p.doc (docs ps) here.0 later.0, each (PostingFine documents) p ps here.1 later.1)

  module _ (rise : Rising (ids documents)) where
    posting_from : (previous : Option ℕ) (p : Posting) → rises previous p.doc ≡ true → PostingFine documents p
        → check_posting documents previous p ≡ Ok tt
    unfolding check_posting
    posting_from previous p up f =
        rw (
          ← f.same,
          known_from documents rise f.of f.known,
          f.same,
          rises_reaches previous p.doc up,
          up,
          lt-ltb 0
              (length p.positions) f.has_positions,
        )
        (positions_from f.of.len None p.positions f.rising f.inside)

    pub postings_from : (previous : Option ℕ) (ps : List Posting) → After previous (docs ps)
        → ((p : Posting) → p ∈ ps → PostingFine documents p) → check_postings documents previous ps ≡ Ok tt
    unfolding check_postings
    postings_from previous [] a f = refl
    postings_from previous (p ∷ ps) a f =
        rw (posting_from previous p (after_head previous p.doc (docs ps) a) (f p (inl refl)))
        (postings_from (Some p.doc) ps (after_tail previous p.doc (docs ps) a) (λ q m. f q (inr m)))

-- ---- terms

module _ (documents : List Document) where
  pub terms_give : (previous : Option (List ℕ)) (ts : List Term) → check_terms documents previous ts ≡ Ok tt
      → AfterName previous (names_of ts) × ((t : Term) → t ∈ ts → TermFine documents t)
  unfolding check_terms check_name
  terms_give previous [] e = (name_none previous, λ t m. absurd m)
  terms_give previous (t ∷ ts) e =
      let n = bind_gives (check_name previous t.name) _ e in
      let n₁ = check_gives (utf8 t.name) _ _ n.1 in
      let n₂ = check_gives (ltb 0 (length t.name)) _ _ n₁.1 in
      let r₁ = check_gives (ltb 0 (length t.postings)) _ _ n.2 in
      let r₂ = bind_gives (check_postings documents None t.postings) _ r₁.1 in
      let ps = postings_give documents None t.postings r₂.1 in
      let later = terms_give (Some t.name) ts r₂.2 in (
        name_cons previous t.name (names_of ts) (last_gives (follows previous t.name) _ n₂.1) later.0,
        each (TermFine documents) t ts (record {
          text = (grammar_agrees t.name).0 n₁.0;
          not_empty = ltb-true 0 (length t.name) n₂.0;
          has_postings = ltb-true 0 (length t.postings) r₁.0;
          rising = ps.0;
          each = ps.1;
        }) later.1,
      )

  pub terms_from : Rising (ids documents) → (previous : Option (List ℕ)) (ts : List Term) → AfterName previous (names_of ts)
      → ((t : Term) → t ∈ ts → TermFine documents t) → check_terms documents previous ts ≡ Ok tt
  unfolding check_terms check_name
  terms_from rise previous [] a f = refl
  terms_from rise previous (t ∷ ts) a f =
      let h = f t (inl refl) in
      rw (
        (grammar_agrees t.name).1 h.text,
        lt-ltb 0 (length t.name) h.not_empty,
        name_head previous t.name (names_of ts) a,
        lt-ltb 0 (length t.postings) h.has_postings,
        postings_from documents rise None t.postings h.rising h.each,
      )
      (terms_from rise (Some t.name) ts (name_tail previous t.name (names_of ts) a) (λ k m. f k (inr m)))
