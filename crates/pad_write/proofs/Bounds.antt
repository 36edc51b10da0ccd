-- The lists of a pad that is whole, laid flat: small and well shaped, with documents that rise, so that the writer's checks are the names'
-- and the postings'.
-- Assumes nothing.
use Rattle.std.specs.Prelude.{None, Ok, Option, Some}
use mathlib.Core.Path.{◌≡◌, refl, sym, ap, ◌∙◌}
use mathlib.Core.Bool.{Bool, true, false, cond}
use mathlib.Core.List.{List, [], ◌∷◌, ◌++◌, map}
use Prim.Native.Nat.{ℕ, suc, ◌+◌, ◌*◌, ◌≤◌}
use native.Mathlib.Omega.{arith}
use lib.Dec.{ltb}
use lib.ListN.{length, get_or, length-append, length-map}
use Rattle.common.specs.Lists.{joined, paired}
use Rattle.segment.specs.Metadata.{document}
use Rattle.segment.specs.Records.{Document, Posting, Term, Given}
use Rattle.segment.specs.Texts.{ends_fit, names}
use Rattle.segment.specs.Written.{name_bytes, lists_bytes}
use Rattle.segment.proofs.Shapes.{names_count}
use Rattle.calls.specs.Acceptance.{Small}
use Rattle.calls.specs.Checks.{check_documents, check_terms, check_given, check_lists}
use Rattle.calls.specs.Given.{laid_flat, term}
use Rattle.calls.proofs.Accepted.{documents_give}
use Rattle.calls.proofs.Lengths.{lists_small}
use Rattle.calls.proofs.Parts.{names_joined}
use Rattle.calls.proofs.Passing.{small_from, shaped_from}
use Rattle.calls.proofs.Shaped.{flat_shape, ends_count}
use Rattle.calls.proofs.Unflat.{given_back}
use Rattle.write_lookup.specs.Steps.{RisingByIndex}
use Rattle.write_lookup.proofs.Searching.{rises_by_place}
use Rattle.pad_map.specs.Bars.{Bar, hits_in_all}
use Rattle.pad_map.specs.Acts.{postings_of, terms_of, given_of}
use Rattle.pad_words.specs.Whole.{bars_fine, whole}
use Rattle.pad_words.specs.Words.{held}
use Rattle.pad_words.proofs.Wholes.{fine_cons, whole_parts, total_is, held_many}
use Rattle.pad_write.specs.Steps.{DocumentsGiven}
use Rattle.pad_write.proofs.Sounds.{positions_in, postings_few, positions_few}

-- ---- the documents

abbrev pub documents_of : List Bar → List Document
documents_of bars = map (λ b. document b.id b.len) bars

pub documents_are : (bars : List Bar) → paired document (map (λ b. b.id) bars) (map (λ b. b.len) bars) ≡ documents_of bars
documents_are [] = refl
documents_are (b ∷ bs) = rw (documents_are bs)

-- as many ids as lengths
pub documents_match : {pad ids lengths : List ℕ} → DocumentsGiven pad ids lengths → length ids ≡ length lengths
documents_match {pad} d =
    ap length d.ids_are ∙ length-map (held pad) (λ b. b.id)
    ∙ sym (length-map (held pad) (λ b. b.len)) ∙ sym (ap length d.lengths_are)

-- ids rise, so their check passes
documents_pass : (previous : Option ℕ) (remaining : ℕ) (bars : List Bar) → bars_fine previous remaining bars ≡ true
    → check_documents previous (documents_of bars) ≡ Ok tt
unfolding check_documents
documents_pass previous remaining [] e = refl
documents_pass previous remaining (b ∷ bs) e =
    let f = fine_cons previous remaining b bs e in
    rw f.up (documents_pass (Some b.id) _ bs f.rest)

pub ids_are : (bars : List Bar) → map (λ d. d.id) (documents_of bars) ≡ map (λ b. b.id) bars
ids_are [] = refl
ids_are (b ∷ bs) = rw (ids_are bs)

-- ---- at most so many of each

positions_append : (ps qs : List Posting) → length (positions_in (ps ++ qs)) ≡ length (positions_in ps) + length (positions_in qs)
positions_append [] qs = omega arith
positions_append (p ∷ ps) qs =
    omega (
      arith,
      positions_append ps qs,
      length-append p.positions (positions_in (ps ++ qs)),
      length-append p.positions (positions_in ps),
    )

abbrev postings_in_all : List Term → List Posting
postings_in_all ts = joined (map (λ t. t.postings) ts)

-- the terms of n sounds, whose names have m bytes
pub record Few (n m : ℕ) (ts : List Term) : Type 0 where
  pub terms : length ts ≤ n
  pub name_size : length (name_bytes ts) ≤ m
  pub postings : length (postings_in_all ts) ≤ 256 * n
  pub positions : length (positions_in (postings_in_all ts)) ≤ 8192 * n

few_next : (bars : List Bar) → length bars ≤ 256 → hits_in_all bars ≤ 8192 → (s : ℕ) (name : List ℕ) (n m : ℕ) (ts : List Term) (t : Bool)
    → Few n m ts
    → Few (suc n) (length name + m) (cond t (term name (postings_of s bars) ∷ ts) ts)
unfolding name_bytes
few_next bars h k s name n m ts true f = record {
  terms = omega (arith, f.terms);
  name_size = omega (arith, f.name_size, length-append name (joined (map (λ t. t.name) ts)));
  postings = omega (arith, f.postings, postings_few s bars, length-append (postings_of s bars) (postings_in_all ts));
  positions = omega (arith, f.positions, positions_few s bars, positions_append (postings_of s bars) (postings_in_all ts));
}
few_next bars h k s name n m ts false f = record {
  terms = omega (arith, f.terms);
  name_size = omega (arith, f.name_size);
  postings = omega (arith, f.postings);
  positions = omega (arith, f.positions);
}

few_terms : (bars : List Bar) → length bars ≤ 256 → hits_in_all bars ≤ 8192 → (s : ℕ) (ns : List (List ℕ))
    → Few (length ns) (length (joined ns)) (terms_of s ns bars)
unfolding terms_of name_bytes
few_terms bars h k s [] = record { terms = omega arith; name_size = omega arith; postings = omega arith; positions = omega arith }
few_terms bars h k s (n ∷ ns) =
    rw (length-append n (joined ns))
    (few_next bars h k s n (length ns) (length (joined ns)) (terms_of (suc s) ns bars) (ltb 0 (length (postings_of s bars)))
    (few_terms bars h k (suc s) ns))

-- ---- the pad

-- its sounds as terms, and all that is handed to the writer
abbrev pub pad_terms : (pad text ends : List ℕ) → List Term
pad_terms pad text ends = terms_of 0 (names 0 ends text) (held pad)

abbrev pub pad_given : (pad text ends : List ℕ) → Given
pad_given pad text ends = given_of (names 0 ends text) (held pad)

module _ (pad : List ℕ) (w : whole pad ≡ true) where
  pub documents_fine : check_documents None (documents_of (held pad)) ≡ Ok tt
  documents_fine = documents_pass None (get_or pad 1 0) (held pad) (whole_parts pad w).fine

  pub ids_rise : RisingByIndex (map (λ b. b.id) (held pad))
  ids_rise =
      rises_by_place (map (λ b. b.id) (held pad))
      (rw (ids_are (held pad)) at (documents_give None (documents_of (held pad)) documents_fine))

  pub bars_few : length (held pad) ≤ 256
  bars_few = omega (arith, held_many pad, (whole_parts pad w).bars)

  hits_few : hits_in_all (held pad) ≤ 8192
  hits_few = omega (arith, total_is pad w, (whole_parts pad w).hits)

  -- the sounds' names in a text that has its shape
  module _ (text ends : List ℕ) (short : length text ≤ 16777216) (sounds : length ends ≡ 128)
      (fit : ends_fit 0 ends (length text) ≡ true) where
    abbrev given_here : Given
    given_here = pad_given pad text ends

    pub terms_few : Few 128 (length text) (pad_terms pad text ends)
    terms_few =
        let z : 0 + length text ≡ length text = omega arith in
        let f = few_terms (held pad) bars_few hits_few 0 (names 0 ends text) in
        rw (names_count 0 ends text, sounds, names_joined 0 ends text (rw z fit)) at f

    flat_small : Small (laid_flat given_here)
    unfolding laid_flat given_of name_bytes
    flat_small =
        let f = terms_few in
        let ts = pad_terms pad text ends in
        let ps = postings_in_all ts in
        let ds = documents_of (held pad) in
        record {
          ids = omega (arith, bars_few, length-map ds (λ d. d.id), length-map (held pad) (λ b. document b.id b.len));
          lengths = omega (arith, bars_few, length-map ds (λ d. d.len), length-map (held pad) (λ b. document b.id b.len));
          text = omega (arith, f.name_size);
          ends = omega (arith, f.terms, ends_count 0 (map (λ t. t.name) ts), length-map ts (λ t. t.name));
          posting_counts = omega (arith, f.terms, length-map ts (λ t. length t.postings));
          posting_ids = omega (arith, f.postings, length-map ps (λ p. p.doc));
          position_counts = omega (arith, f.postings, length-map ps (λ p. length p.positions));
          positions = omega (arith, f.positions);
        }

    -- the writer's checks of these lists are those of the terms
    pub checks_are : check_lists (laid_flat given_here) ≡ check_terms (documents_of (held pad)) None (pad_terms pad text ends)
    unfolding check_lists check_given given_of
    checks_are =
        rw (
          small_from (laid_flat given_here) flat_small,
          shaped_from (laid_flat given_here) (flat_shape given_here),
          given_back given_here,
          documents_fine,
        )

    pub lists_low : length (lists_bytes (pad_terms pad text ends)) ≤ 251658240
    unfolding given_of
    lists_low = rw (given_back given_here) at (lists_small (laid_flat given_here) flat_small (flat_shape given_here))
