-- The postings of a list that was accepted, by offset: their content is what was read, documents and positions rise.
-- Assumes nothing.
use Rattle.std.specs.Prelude.{None, Ok, Option, Some}
use mathlib.Core.Path.{◌≡◌, refl, sym, ap, ◌∙◌, subst}
use mathlib.Core.Bool.{Bool, true, false}
use mathlib.Core.List.{List, ◌∷◌, map}
use Prim.Native.Nat.{ℕ, zero, suc, ◌<◌}
use native.Mathlib.Omega.{arith}
use lib.Dec.{ltb, eqb}
use lib.ListN.{length}
use borrow.Author.Tests.{ltb-true}
use Rattle.segment.specs.Refusals.{postings, doc_id_overflow, position_overflow, invalid_layout, non_increasing_posting_id}
use Rattle.segment.specs.Refusals.{non_increasing_position, empty_position_list, position_exceeds_length, trailing_posting_bytes}
use Rattle.segment.specs.declared.refusal.Refusal.{Refusal}
use Rattle.segment.specs.Results.{Answer, ◌>>=◌, check}
use Rattle.segment.specs.Records.{Document, Posting, Read, number, rises}
use Rattle.segment.specs.Metadata.{length_of}
use Rattle.segment.specs.Postings.{Head, known, read_value, read_position, read_positions, read_head, read_posting, read_postings}
use Rattle.segment.specs.Postings.{all_postings}
use Rattle.read_cursors.specs.Held.{skipped, PostingAt, held_positions, posting_here, held_postings, posting_of, Rises, Full, AllFull}
use Rattle.segment.proofs.Binds.{ok_same, refuse_ok, bind_gives}
use Rattle.read_cursors.proofs.Gaps.{number_given, value_shorter}
use Rattle.read_cursors.proofs.ValueReads.{number_read, number_any, ValueRead, value_read, value_any, value_rises, value_skipped}

-- one test
check_gives : {A : Type 0} (t : Bool) (x : Refusal) (m : Answer A) {a : A} → (check t x >>= λ _. m) ≡ Ok a → (t ≡ true) × (m ≡ Ok a)
check_gives true x m e = (refl, e)
check_gives false x m e = refuse_ok e

-- what was read of positions
pub record PositionsRead (count : ℕ) (previous : Option ℕ) (bytes : List ℕ) (a : Read (List ℕ)) : Type 0 where
  pub held : held_positions count previous bytes ≡ a.got
  pub rest : skipped count bytes ≡ a.rest
  pub long : length a.got ≡ count
  pub rises : Rises previous a.got

position_read : (i len : ℕ) (previous : Option ℕ) (bytes : List ℕ) {a : Read ℕ} → read_position i len previous bytes ≡ Ok a
    → ValueRead previous bytes a
unfolding read_position
position_read i len previous bytes {a} e =
    let (p, is, f) = bind_gives (read_value (position_overflow i) (invalid_layout non_increasing_position) i previous bytes) _ e in
    let s = ok_same (check_gives (ltb p.got len) (invalid_layout position_exceeds_length) (Ok p) f).1 in
    rw s at (value_read _ _ i previous bytes is)

pub positions_read : (count i len : ℕ) (previous : Option ℕ) (bytes : List ℕ) {a : Read (List ℕ)}
    → read_positions count i len previous bytes ≡ Ok a → PositionsRead count previous bytes a
unfolding read_positions held_positions skipped
positions_read zero i len previous bytes e = rw (← ok_same e) (record { held = refl; rest = refl; long = refl; rises = tt })
positions_read (suc n) i len previous bytes e =
    let (p, is, f) = bind_gives (read_position i len previous bytes) _ e in
    let (more, those, g) = bind_gives (read_positions n (suc i) len (Some p.got) p.rest) _ f in
    let v = position_read i len previous bytes is in
    let r = positions_read n (suc i) len (Some p.got) p.rest those in
    rw (← ok_same g) (record {
      held = rw (value_any v _ _ 0) (ap (λ (l : List ℕ). p.got ∷ l) r.held);
      rest = value_skipped v n ∙ r.rest;
      long = ap suc r.long;
      rises = (value_rises v, r.rises);
    })

known_some : (o : Option ℕ) {n : ℕ} → known o ≡ Ok n → o ≡ Some n
known_some None e = refuse_ok e
known_some (Some m) e = ap Some (ok_same e)

-- a posting up to its positions that was read
pub record HeadRead (documents : List Document) (previous : Option ℕ) (bytes : List ℕ) (h : Read Head) : Type 0 where
  pub held : posting_here previous bytes ≡ Ok (record { doc = h.got.doc; count = h.got.count; bytes = h.rest })
  pub rises : rises previous h.got.doc ≡ true
  pub known : length_of documents h.got.doc ≡ Some h.got.len
  pub has_positions : 0 < h.got.count
  pub shorter : length h.rest < length bytes

pub head_read : (place : ℕ) (documents : List Document) (previous : Option ℕ) (bytes : List ℕ) {h : Read Head}
    → read_head place documents previous bytes ≡ Ok h → HeadRead documents previous bytes h
unfolding read_head posting_here
head_read place documents previous bytes e =
    let (doc, is, f) = bind_gives (read_value (doc_id_overflow place) (invalid_layout non_increasing_posting_id) place previous bytes)
    _ e in
    let (len, k, g) = bind_gives (known (length_of documents doc.got)) _ f in
    let (count, c, i) = bind_gives (number postings place doc.rest) _ g in
    let (t, m) = check_gives (ltb 0 count.got) (invalid_layout empty_position_list)
    (Ok (record { got = record { doc = doc.got; len = len; count = count.got }; rest = count.rest })) i in
    let v = value_read _ _ place previous bytes is in
    rw (← ok_same m) (record {
      held =
          rw (
            value_any v (doc_id_overflow 0) (invalid_layout non_increasing_posting_id) 0,
            number_any (number_read postings place doc.rest c) postings 0,
          );
      rises = value_rises v;
      known = known_some (length_of documents doc.got) k;
      has_positions = ltb-true 0 count.got t;
      shorter = omega (arith, (number_given postings place doc.rest c).shorter, value_shorter _ _ place previous bytes is);
    })

-- a posting that was read: its offset, and that this is its content
pub record PostingRead (previous : Option ℕ) (bytes : List ℕ) (p : Read Posting) : Type 0 where
  pub spot : PostingAt
  pub held : posting_here previous bytes ≡ Ok spot
  pub rises : rises previous spot.doc ≡ true
  pub full : Full spot
  pub is : posting_of spot ≡ p.got
  pub rest : skipped spot.count spot.bytes ≡ p.rest

pub posting_read : (place : ℕ) (documents : List Document) (previous : Option ℕ) (bytes : List ℕ) {p : Read Posting}
    → read_posting place documents previous bytes ≡ Ok p → PostingRead previous bytes p
unfolding read_posting
posting_read place documents previous bytes e =
    let (head, is, f) = bind_gives (read_head place documents previous bytes) _ e in
    let (those, are, g) = bind_gives (read_positions head.got.count place head.got.len None head.rest) _ f in
    let h = head_read place documents previous bytes is in
    let r = positions_read head.got.count place head.got.len None head.rest are in
    rw (← ok_same g) (record {
      spot = record { doc = head.got.doc; count = head.got.count; bytes = head.rest };
      held = h.held;
      rises = h.rises;
      full = record { has_positions = h.has_positions; long = rw r.held r.long; rise = rw r.held r.rises };
      is = ap (λ (l : List ℕ). record { doc = head.got.doc; positions = l }) r.held;
      rest = r.rest;
    })

-- all postings that were read
pub record PostingsRead (count : ℕ) (previous : Option ℕ) (bytes : List ℕ) (all : List Posting) : Type 0 where
  pub is : map posting_of (held_postings count previous bytes) ≡ all
  pub full : AllFull previous (held_postings count previous bytes)
  pub long : length (held_postings count previous bytes) ≡ count

one_more : (n : ℕ) (previous : Option ℕ) (bytes : List ℕ) (p : Read Posting) (all : List Posting) → PostingRead previous bytes p
    → PostingsRead n (Some p.got.doc) p.rest all → PostingsRead (suc n) previous bytes (p.got ∷ all)
unfolding held_postings
one_more n previous bytes p all r q =
    let s = rw (← r.rest) at (subst (λ (x : Posting). PostingsRead n (Some x.doc) p.rest all) (sym r.is) q) in
    let e : held_postings (suc n) previous bytes
    ≡ r.spot ∷ held_postings n (Some r.spot.doc) (skipped r.spot.count r.spot.bytes) = rw r.held in
    record {
      is = ap (map posting_of) e ∙ cc (r.is, s.is);
      full = subst (AllFull previous) (sym e) (r.rises, r.full, s.full);
      long = ap length e ∙ ap suc s.long;
    }

pub postings_read : (count place : ℕ) (documents : List Document) (previous : Option ℕ) (bytes : List ℕ) {a : Read (List Posting)}
    → read_postings count place documents previous bytes ≡ Ok a → PostingsRead count previous bytes a.got
unfolding read_postings held_postings
postings_read zero place documents previous bytes e = rw (← ok_same e) (record { is = refl; full = tt; long = refl })
postings_read (suc n) place documents previous bytes e =
    let (p, is, f) = bind_gives (read_posting place documents previous bytes) _ e in
    let (more, those, g) = bind_gives (read_postings n (suc place) documents (Some p.got.doc) p.rest) _ f in
    rw (← ok_same g)
    (one_more n previous bytes p more.got (posting_read place documents previous bytes is)
    (postings_read n (suc place) documents (Some p.got.doc) p.rest those))

-- the postings of a list that was accepted
pub all_postings_read : (df : ℕ) (documents : List Document) (bytes : List ℕ) {ps : List Posting} → all_postings df documents bytes ≡ Ok ps
    → PostingsRead df None bytes ps
unfolding all_postings
all_postings_read df documents bytes e =
    let (all, is, f) = bind_gives (read_postings df 0 documents None bytes) _ e in
    let (t, m) = check_gives (eqb (length all.rest) 0) (invalid_layout trailing_posting_bytes) (Ok all.got) f in
    rw (← ok_same m) (postings_read df 0 documents None bytes is)
