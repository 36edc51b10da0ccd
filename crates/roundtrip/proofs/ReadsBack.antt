-- What is written opens and decodes to what was handed in; laid flat it is the eight lists, and the counts add up.
-- Assumes nothing.
use Rattle.std.specs.Prelude.{None, Ok}
use mathlib.Core.Path.{◌≡◌, sym, ap, ◌∙◌, subst}
use mathlib.Core.List.{List, [], ◌∷◌, map}
use mathlib.Core.Logic.{inl, inr}
use Prim.Native.Nat.{ℕ, suc, ◌^◌, ◌≤◌, ◌<◌}
use native.Mathlib.Omega.{arith}
use lib.ListN.{length, length-map}
use Rattle.segment.specs.Records.{Document, Posting, Term}
use Rattle.segment.specs.Opening.{open_segment}
use Rattle.calls.specs.Given.{Lists, given, laid_flat}
use Rattle.common.specs.Lists.{joined}
use Rattle.segment.specs.Written.{segment_bytes, directory_bytes, name_bytes, metadata_bytes, lists_bytes}
use Rattle.calls.specs.Acceptance.{ListsFine}
use Rattle.common.specs.Elements.{◌∈◌}
use Rattle.common.proofs.Elements.{map_from}
use Rattle.roundtrip.specs.Claims.{Below, Typed, ReadsBack}
use Rattle.segment.specs.Contents.{decode_segment}
use Rattle.common.proofs.Membership.{joined_from}
use Rattle.calls.proofs.Accepts.{accepted_gives, accepted_is}
use Rattle.calls.proofs.Flat.{flat_again, text_is}
use Rattle.roundtrip.proofs.Counts.{counts_add_up}
use Rattle.calls.proofs.Lengths.{metadata_size, lists_small, directory_length}
use Rattle.roundtrip.proofs.MetadataBack.{NumbersFit, metadata_back}
use Rattle.roundtrip.proofs.PostingsBack.{Few, entry_for, lists_back}
use Rattle.roundtrip.proofs.DirectoryBack.{directory_back}
use Rattle.roundtrip.proofs.OpeningBack.{opens}

-- a bound of every place bounds every member
pub member_below : (n : ℕ) (xs : List ℕ) → Below n xs → (x : ℕ) → x ∈ xs → x < n
member_below n [] h x m = absurd m
member_below n (y ∷ ys) h x (inl e) = omega (arith, h 0)
member_below n (y ∷ ys) h x (inr m) = member_below n ys (λ i. h (suc i)) x m

-- a number that is taken of each member, where the numbers taken are a list with a bound
taken_below : {A : Type 0} (f : A → ℕ) (xs : List A) (ys : List ℕ) → map f xs ≡ ys → {n : ℕ} → Below n ys → (x : A) → x ∈ xs → f x < n
taken_below f xs ys e {n} h x m = member_below n ys h (f x) (subst (λ (l : List ℕ). f x ∈ l) e (map_from f xs x m))

taken_count : {A : Type 0} (f : A → ℕ) (xs : List A) (ys : List ℕ) → map f xs ≡ ys → length xs ≡ length ys
taken_count f xs ys e = sym (length-map xs f) ∙ ap length e

-- ---- what was accepted fits the format's numbers

module _ (l : Lists) (typed : Typed l) (n : ListsFine l) where
  abbrev ds : List Document
  ds = (given l).documents

  abbrev ts : List Term
  ts = (given l).terms

  abbrev ps : List Posting
  ps = joined (map (λ t. t.postings) ts)

  flat : laid_flat (given l) ≡ l
  flat = flat_again l n.shape

  ids_are : map (λ d. d.id) ds ≡ l.ids
  unfolding laid_flat
  ids_are = ap (λ (k : Lists). k.ids) flat

  lengths_are : map (λ d. d.len) ds ≡ l.lengths
  unfolding laid_flat
  lengths_are = ap (λ (k : Lists). k.lengths) flat

  posting_counts_are : map (λ t. length t.postings) ts ≡ l.posting_counts
  unfolding laid_flat
  posting_counts_are = ap (λ (k : Lists). k.posting_counts) flat

  position_counts_are : map (λ p. length p.positions) ps ≡ l.position_counts
  unfolding laid_flat
  position_counts_are = ap (λ (k : Lists). k.position_counts) flat

  pub numbers_fit : NumbersFit ds
  numbers_fit d m = (
    taken_below (λ d. d.id) ds l.ids ids_are typed.ids d m,
    taken_below (λ d. d.len) ds l.lengths lengths_are
        typed.lengths d m,
  )

  few_postings : (t : Term) → t ∈ ts → length t.postings < 2 ^ 32
  few_postings = taken_below (λ t. length t.postings) ts l.posting_counts posting_counts_are typed.posting_counts

  pub few_positions : (t : Term) → t ∈ ts → Few t
  few_positions t m p k =
      taken_below (λ p. length p.positions) ps l.position_counts position_counts_are typed.position_counts p
      (joined_from (map (λ t. t.postings) ts) t.postings p (map_from (λ t. t.postings) ts t m) k)

  short_names : length (name_bytes ts) ≤ 16777216
  short_names = rw (text_is l n.shape) n.small.text

  short_metadata : length (metadata_bytes None ds) ≤ 167772160
  short_metadata = omega (arith, metadata_size None ds, taken_count (λ d. d.id) ds l.ids ids_are, n.small.ids)

  short_lists : length (lists_bytes ts) ≤ 251658240
  short_lists = lists_small l n.small n.shape

  -- ---- opened, and decoded

  pub opened : open_segment (segment_bytes (given l)) ≡ Ok (record { documents = ds; entries = map entry_for ts })
  unfolding segment_bytes
  opened =
      let few_documents = taken_count (λ d. d.id) ds l.ids ids_are in
      let few_terms = taken_count (λ t. length t.postings) ts l.posting_counts posting_counts_are in
      opens (record {
        documents = length ds;
        terms = length ts;
        directory = directory_bytes 0 0 ts;
        names = name_bytes ts;
        metadata = metadata_bytes None ds;
        lists = lists_bytes ts;
      })
      (omega (arith, few_documents, n.small.ids))
      (omega (arith, few_terms, n.small.posting_counts))
      (omega (arith, few_terms, n.small.posting_counts, directory_length ts 0 0, short_names, short_metadata, short_lists))
      ds (map entry_for ts)
      (metadata_back ds n.documents_rise numbers_fit)
      (directory_back ds ts n.names_rise n.each few_postings (omega (arith, short_names)) (omega (arith, short_lists)))

  decoded : decode_segment (segment_bytes (given l)) ≡ Ok (given l)
  unfolding decode_segment
  decoded = rw (opened, lists_back ds n.documents_rise numbers_fit ts n.each few_positions)

pub reads_back : ReadsBack
reads_back l room bytes typed e =
    let n = (accepted_gives l room e).lists in
    record {
      back = ap decode_segment (sym (accepted_is l room e)) ∙ decoded l typed n;
      flat = flat_again l n.shape;
      counted = counts_add_up l n.shape;
    }
