-- The positions of postings that were decoded lie below the length of their document.
-- Assumes nothing.
use Rattle.std.specs.Prelude.{None, Ok, Option, Some}
use mathlib.Core.Path.{◌≡◌, ap}
use mathlib.Core.List.{List, [], ◌∷◌}
use mathlib.Core.Logic.{inl, inr}
use Prim.Native.Nat.{ℕ, zero, suc, ◌<◌}
use native.Mathlib.Omega.{arith}
use lib.Dec.{ltb, eqb}
use lib.ListN.{length}
use borrow.Author.Tests.{ltb-true}
use Rattle.common.specs.Elements.{◌∈◌}
use Rattle.crc32.specs.Crc32.{crc32_of}
use Rattle.segment.specs.Refusals.{postings, term_postings, checksum_mismatch, doc_id_overflow, position_overflow, invalid_layout}
use Rattle.segment.specs.Refusals.{non_increasing_posting_id, empty_position_list, non_increasing_position}
use Rattle.segment.specs.Refusals.{position_exceeds_length, trailing_posting_bytes}
use Rattle.segment.specs.Records.{Document, Posting, Entry, Read, number}
use Rattle.segment.specs.Metadata.{length_of}
use Rattle.segment.specs.Postings.{Head, known, read_value, read_position, read_positions, read_head, read_posting, read_postings}
use Rattle.segment.specs.Postings.{all_postings, decode}
use Rattle.segment.proofs.Binds.{ok_same, refuse_ok, bind_gives}
use Rattle.segment.proofs.Accepted.{check_gives}

-- every position is below the length
abbrev pub AllBelow : (len : ℕ) → List ℕ → Type 0
AllBelow len [] = Unit {0}
AllBelow len (p ∷ ps) = (p < len) × AllBelow len ps

-- where the posting's document is known, every position is below its length
abbrev pub PostingWithin : List Document → Posting → Type 0
PostingWithin documents p = (len : ℕ) → length_of documents p.doc ≡ Some len → AllBelow len p.positions

-- so of each posting
abbrev pub Within : List Document → List Posting → Type 0
Within documents [] = Unit {0}
Within documents (p ∷ ps) = PostingWithin documents p × Within documents ps

-- ---- read

position_below : (i len : ℕ) (previous : Option ℕ) (bytes : List ℕ) {a : Read ℕ} → read_position i len previous bytes ≡ Ok a → a.got < len
unfolding read_position
position_below i len previous bytes e =
    let (p, is, f) = bind_gives (read_value (position_overflow i) (invalid_layout non_increasing_position) i previous bytes) _ e in
    let (t, g) = check_gives (ltb p.got len) (invalid_layout position_exceeds_length) (λ _. Ok p) f in
    rw (← ok_same g) (ltb-true p.got len t)

positions_below : (count i len : ℕ) (previous : Option ℕ) (bytes : List ℕ) {a : Read (List ℕ)}
    → read_positions count i len previous bytes ≡ Ok a → AllBelow len a.got
unfolding read_positions
positions_below zero i len previous bytes e = rw (← ok_same e) tt
positions_below (suc n) i len previous bytes e =
    let (p, is, f) = bind_gives (read_position i len previous bytes) _ e in
    let (more, those, g) = bind_gives (read_positions n (suc i) len (Some p.got) p.rest) _ f in
    rw (← ok_same g) (position_below i len previous bytes is, positions_below n (suc i) len (Some p.got) p.rest those)

known_some : (o : Option ℕ) {n : ℕ} → known o ≡ Ok n → o ≡ Some n
known_some None e = refuse_ok e
known_some (Some m) e = ap Some (ok_same e)

-- the length of the head is the document's
head_known : (place : ℕ) (documents : List Document) (previous : Option ℕ) (bytes : List ℕ) {h : Read Head}
    → read_head place documents previous bytes ≡ Ok h → length_of documents h.got.doc ≡ Some h.got.len
unfolding read_head
head_known place documents previous bytes e =
    let (doc, is, f) = bind_gives (read_value (doc_id_overflow place) (invalid_layout non_increasing_posting_id) place previous bytes)
    _ e in
    let (len, k, g) = bind_gives (known (length_of documents doc.got)) _ f in
    let (count, c, i) = bind_gives (number postings place doc.rest) _ g in
    let (t, m) = check_gives (ltb 0 count.got) (invalid_layout empty_position_list) _ i in
    rw (← ok_same m) (known_some (length_of documents doc.got) k)

posting_within : (place : ℕ) (documents : List Document) (previous : Option ℕ) (bytes : List ℕ) {p : Read Posting}
    → read_posting place documents previous bytes ≡ Ok p → PostingWithin documents p.got
unfolding read_posting
posting_within place documents previous bytes e =
    let (head, is, f) = bind_gives (read_head place documents previous bytes) _ e in
    let (those, are, g) = bind_gives (read_positions head.got.count place head.got.len None head.rest) _ f in
    rw (← ok_same g) (λ len k.
    let same : head.got.len ≡ len = cc (head_known place documents previous bytes is) in
    rw (← same) (positions_below head.got.count place head.got.len None head.rest are))

postings_within : (count place : ℕ) (documents : List Document) (previous : Option ℕ) (bytes : List ℕ) {a : Read (List Posting)}
    → read_postings count place documents previous bytes ≡ Ok a → Within documents a.got
unfolding read_postings
postings_within zero place documents previous bytes e = rw (← ok_same e) tt
postings_within (suc n) place documents previous bytes e =
    let (p, is, f) = bind_gives (read_posting place documents previous bytes) _ e in
    let (more, those, g) = bind_gives (read_postings n (suc place) documents (Some p.got.doc) p.rest) _ f in
    rw (← ok_same g) (
      posting_within place documents previous bytes is,
      postings_within n (suc place) documents (Some p.got.doc) p.rest those,
    )

pub all_within : (df : ℕ) (documents : List Document) (bytes : List ℕ) {ps : List Posting} → all_postings df documents bytes ≡ Ok ps
    → Within documents ps
unfolding all_postings
all_within df documents bytes e =
    let (all, is, f) = bind_gives (read_postings df 0 documents None bytes) _ e in
    let (t, m) = check_gives (eqb (length all.rest) 0) (invalid_layout trailing_posting_bytes) _ f in
    rw (← ok_same m) (postings_within df 0 documents None bytes is)

pub decode_within : (documents : List Document) (e : Entry) {ps : List Posting} → decode documents e ≡ Ok ps → Within documents ps
unfolding decode
decode_within documents e d =
    all_within e.df documents e.list
    (check_gives (eqb (crc32_of e.list) e.checksum) (checksum_mismatch term_postings) _ d).1

-- ---- by membership

pub below_gives : (len : ℕ) (xs : List ℕ) → AllBelow len xs → (x : ℕ) → x ∈ xs → x < len
below_gives len [] h x m = absurd m
below_gives len (y ∷ ys) (b, h) x (inl e) = omega arith
below_gives len (y ∷ ys) (b, h) x (inr m) = below_gives len ys h x m

pub within_gives : (documents : List Document) (ps : List Posting) → Within documents ps → (p : Posting) → p ∈ ps
    → PostingWithin documents p
within_gives documents [] w p m = absurd m
within_gives documents (q ∷ ps) (h, w) p (inl e) = rw e h
within_gives documents (q ∷ ps) (h, w) p (inr m) = within_gives documents ps w p m
