-- What the eight lists stand for, laid flat again, is the eight lists.
-- Assumes nothing.
use mathlib.Core.Path.{◌≡◌, refl, sym, ap, ◌∙◌}
use mathlib.Core.Bool.{true}
use mathlib.Core.List.{List, map}
use Prim.Native.Nat.{ℕ, ◌+◌}
use native.Mathlib.Nat.{zero-add}
use native.Mathlib.Omega.{arith}
use lib.ListN.{length, length-map}
use Rattle.segment.specs.Records.{Posting}
use Rattle.segment.specs.Metadata.{document}
use Rattle.segment.specs.Texts.{ends_fit, names}
use Rattle.calls.specs.Given.{Lists, given, laid_flat, posting, term, postings_given, ends_from}
use Rattle.common.specs.Lists.{parts, joined, total}
use Rattle.segment.specs.Written.{name_bytes}
use Rattle.calls.specs.Acceptance.{Shape}
use Rattle.segment.proofs.Shapes.{shape_is, names_count}
use Rattle.common.proofs.Pairs.{lefts, rights, paired_right}
use Rattle.calls.proofs.Parts.{parts_count, parts_joined, parts_lengths, names_joined, names_ends}

module _ (l : Lists) (s : Shape l) where
  abbrev cut : List (List ℕ)
  cut = parts l.position_counts l.positions

  abbrev lists : List (List Posting)
  lists = parts l.posting_counts (postings_given l)

  abbrev words : List (List ℕ)
  words = names 0 l.ends l.text

  counted : length l.posting_ids ≡ length cut
  counted = sym s.counts ∙ sym (parts_count l.position_counts l.positions)

  ids_back : map (λ p. p.doc) (postings_given l) ≡ l.posting_ids
  ids_back = lefts posting (λ p. p.doc) (λ x y. refl) l.posting_ids cut counted

  many : total l.posting_counts ≡ length (postings_given l)
  many = s.postings ∙ sym (ap length ids_back) ∙ length-map (postings_given l) (λ p. p.doc)

  named : length words ≡ length lists
  named = names_count 0 l.ends l.text ∙ sym s.terms ∙ sym (parts_count l.posting_counts (postings_given l))

  names_back : map (λ t. t.name) (given l).terms ≡ words
  unfolding given
  names_back = lefts term (λ t. t.name) (λ x y. refl) words lists named

  postings_back : joined (map (λ t. t.postings) (given l).terms) ≡ postings_given l
  unfolding given
  postings_back =
      ap joined (rights term (λ t. t.postings) (λ x y. refl) words lists named)
      ∙ parts_joined l.posting_counts (postings_given l) many

  fits : ends_fit 0 l.ends (0 + length l.text) ≡ true
  fits = rw zero-add ((shape_is l.text l.ends).1 s.text)

  pub flat_again : laid_flat (given l) ≡ l
  unfolding laid_flat given
  flat_again = λ i. record {
    ids = lefts document (λ d. d.id) (λ x y. refl) l.ids l.lengths s.documents i;
    lengths = rights document (λ d. d.len) (λ x y. refl) l.ids l.lengths s.documents i;
    text = (ap joined names_back ∙ names_joined 0 l.ends l.text fits) i;
    ends = (ap (ends_from 0) names_back ∙ names_ends 0 l.ends l.text fits) i;
    posting_counts =
        (paired_right term (λ t. length t.postings) length (λ x y. refl) words lists named
        ∙ parts_lengths l.posting_counts (postings_given l) (omega (arith, many))) i;
    posting_ids = (ap (map (λ p. p.doc)) postings_back ∙ ids_back) i;
    position_counts =
        (ap (map (λ p. length p.positions)) postings_back
        ∙ paired_right posting (λ p. length p.positions) length (λ x y. refl) l.posting_ids cut counted
        ∙ parts_lengths l.position_counts l.positions (omega (arith, s.positions))) i;
    positions =
        (ap (λ (ps : List Posting). joined (map (λ p. p.positions) ps)) postings_back
        ∙ ap joined (rights posting (λ p. p.positions) (λ x y. refl) l.posting_ids cut counted)
        ∙ parts_joined l.position_counts l.positions s.positions) i;
  }

  -- what the segment's header counts, and its names
  pub documents_count : length (given l).documents ≡ length l.ids
  unfolding laid_flat
  documents_count = sym (length-map (given l).documents (λ d. d.id)) ∙ ap (λ (k : Lists). length k.ids) flat_again

  pub terms_count : length (given l).terms ≡ length l.ends
  unfolding laid_flat
  terms_count =
      sym (length-map (given l).terms (λ t. length t.postings)) ∙ ap (λ (k : Lists). length k.posting_counts) flat_again ∙ s.terms

  pub text_is : name_bytes (given l).terms ≡ l.text
  unfolding laid_flat name_bytes
  text_is = ap (λ (k : Lists). k.text) flat_again
