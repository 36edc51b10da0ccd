-- What is read at the front of bytes does not depend on what follows: a list decoded from its own bytes is walked the same in the segment.
-- Assumes nothing.
use Rattle.std.specs.Prelude.{Err, None, Ok, Option, Some}
use mathlib.Core.Path.{◌≡◌, refl, sym, ap, ◌∙◌}
use mathlib.Core.Bool.{Bool, true, false, cond, ◌&&◌}
use mathlib.Core.List.{List, [], ◌∷◌, ◌++◌, map}
use Prim.Native.Nat.{ℕ, zero, suc, ◌-◌, ◌^◌}
use native.Mathlib.Omega.{arith}
use lib.Dec.{ltb, leb, eqb}
use lib.ListN.{length, drop, length-map, take-append-drop}
use lib.Seq.{drop-append-le}
use Rattle.crc32.specs.Crc32.{crc32_of}
use Rattle.leb128.specs.Leb128.{Leb, below, uleb128, limited, stored}
use Rattle.segment.specs.Refusals.{postings}
use Rattle.segment.specs.Results.{Answer}
use Rattle.segment.specs.Records.{Document, Posting, Read, number}
use Rattle.segment.specs.Postings.{all_postings, decode}
use Rattle.read_cursors.specs.Held.{skipped, PostingAt, on_value, on_posting, value_at, posting_here, held_positions, held_postings}
use Rattle.read_cursors.specs.Held.{positions_there, posting_of, Full, AllFull}
use Rattle.segment.proofs.Binds.{ok_same, bind_gives}
use Rattle.segment.proofs.Accepted.{check_gives}
use Rattle.read_cursors.proofs.Gaps.{size_fits}
use Rattle.read_cursors.proofs.ValueReads.{NumberRead, number_read, number_any, ValueRead, value_read, value_any, value_skipped}
use Rattle.read_cursors.proofs.PostingReads.{PostingsRead, all_postings_read}
use Rattle.read_terms.specs.declared.find.TermList.{TermList}
use Rattle.read_terms.specs.Steps.{bytes_of_list, list_entry}

-- with more bytes behind
abbrev followed : {A : Type 0} → List ℕ → Read A → Read A
followed b x = record { got = x.got; rest = x.rest ++ b }

abbrev pub spot_before : List ℕ → PostingAt → PostingAt
spot_before b s = record { doc = s.doc; count = s.count; bytes = s.bytes ++ b }

limited_is : (o : Option Leb) {r : Leb} → limited o ≡ Some r → o ≡ Some r
limited_is None e = e
limited_is (Some q) e = tested (leb q.size 5 && ltb q.value (2 ^ 32)) e
  where
    tested : (t : Bool) {r : Leb} → cond t (Some q) None ≡ Some r → Some q ≡ Some r
    tested true e = e
    tested false e = let z : ◌≡◌ {A = ℕ} 0 1 = cc in absurd (omega arith)

module _ (b : List ℕ) where
  byte_longer : (x : ℕ) (t : Bool) (o p : Option Leb) {r : Leb} → ((q : Leb) → o ≡ Some q → p ≡ Some q)
      → cond t (Some (record { value = x; size = 1 })) (below x o) ≡ Some r
      → cond t (Some (record { value = x; size = 1 })) (below x p) ≡ Some r
  byte_longer x true o p ih e = e
  byte_longer x false None p ih e = let z : ◌≡◌ {A = ℕ} 0 1 = cc in absurd (omega arith)
  byte_longer x false (Some q) p ih e = rw (ih q refl) e

  uleb_longer : (a : List ℕ) {r : Leb} → uleb128 a ≡ Some r → uleb128 (a ++ b) ≡ Some r
  unfolding uleb128
  uleb_longer [] e = let z : ◌≡◌ {A = ℕ} 0 1 = cc in absurd (omega arith)
  uleb_longer (x ∷ a) e = byte_longer x (ltb x 128) (uleb128 a) (uleb128 (a ++ b)) (λ q f. uleb_longer a f) e

  pub stored_longer : (a : List ℕ) {r : Leb} → stored a ≡ Some r → stored (a ++ b) ≡ Some r
  stored_longer a e =
      let is = limited_is (uleb128 a) e in
      ap limited (uleb_longer a is ∙ sym is) ∙ e

  number_longer : {a : List ℕ} {x : Read ℕ} → NumberRead a x → NumberRead (a ++ b) (followed b x)
  number_longer {a} r =
      let fits = size_fits a r.leb (limited_is (uleb128 a) r.found) in
      record {
        leb = r.leb;
        found = stored_longer a r.found;
        is = rw (drop-append-le r.leb.size a b fits) (ap (followed b) r.is);
      }

  value_longer : {previous : Option ℕ} {a : List ℕ} {x : Read ℕ} → ValueRead previous a x → ValueRead previous (a ++ b) (followed b x)
  value_longer r = record {
    gap = followed b r.gap;
    number = number_longer r.number;
    small = r.small;
    order = r.order;
    is = ap (followed b) r.is;
  }

  -- positions that are all there
  positions_longer : (n : ℕ) (previous : Option ℕ) (a : List ℕ) → length (held_positions n previous a) ≡ n
      → (held_positions n previous (a ++ b) ≡ held_positions n previous a) × (skipped n (a ++ b) ≡ skipped n a ++ b)
  unfolding held_positions skipped
  positions_longer zero previous a h = (refl, refl)
  positions_longer (suc n) previous a h = go (value_at previous a) refl h (λ p c. positions_longer n (Some p) c)
    where
      go : (r : Answer (Read ℕ)) → value_at previous a ≡ r → length (on_value (λ v. held_positions n (Some v.got) v.rest) r) ≡ suc n
          → ((p : ℕ) (c : List ℕ) → length (held_positions n (Some p) c) ≡ n
          → (held_positions n (Some p) (c ++ b) ≡ held_positions n (Some p) c) × (skipped n (c ++ b) ≡ skipped n c ++ b))
          → (on_value (λ v. held_positions n (Some v.got) v.rest) (value_at previous (a ++ b))
          ≡ on_value (λ v. held_positions n (Some v.got) v.rest) r)
          × (skipped (suc n) (a ++ b) ≡ skipped (suc n) a ++ b)
      go (Ok v) e h ih =
          let here = value_read _ _ 0 previous a e in
          let (these, rest) = ih v.got v.rest (omega arith) in (
            rw (value_any (value_longer here) _ _ 0) (ap (λ l. v.got ∷ l) these),
            value_skipped (value_longer here) n ∙ rest ∙ ap (λ l. l ++ b) (sym (value_skipped here n)),
          )
      go (Err x) e h ih = absurd (omega arith)

  spot_longer : (previous : Option ℕ) (a : List ℕ) {s : PostingAt} → posting_here previous a ≡ Ok s
      → posting_here previous (a ++ b) ≡ Ok (spot_before b s)
  unfolding posting_here
  spot_longer previous a e =
      let (v, is, f) = bind_gives (value_at previous a) _ e in
      let (k, has, g) = bind_gives (number postings 0 v.rest) _ f in
      rw (
        value_any (value_longer (value_read _ _ 0 previous a is)) _ _ 0,
        number_any (number_longer (number_read postings 0 v.rest has)) postings 0,
      )
      (ap (λ (s : PostingAt). Ok (spot_before b s)) (ok_same g))

  -- postings that are all there, each with all its positions
  pub postings_longer : (n : ℕ) (previous : Option ℕ) (a : List ℕ) → AllFull previous (held_postings n previous a)
      → length (held_postings n previous a) ≡ n
      → held_postings n previous (a ++ b) ≡ map (spot_before b) (held_postings n previous a)
  unfolding held_postings
  postings_longer zero previous a f h = refl
  postings_longer (suc n) previous a f h = go (posting_here previous a) refl f h (λ d c. postings_longer n (Some d) c)
    where
      go : (r : Answer PostingAt) → posting_here previous a ≡ r → let these =
          on_posting (λ s. held_postings n (Some s.doc) (skipped s.count s.bytes)) r in
          AllFull previous these → length these ≡ suc n
          → ((d : ℕ) (c : List ℕ) → AllFull (Some d) (held_postings n (Some d) c) → length (held_postings n (Some d) c) ≡ n
          → held_postings n (Some d) (c ++ b) ≡ map (spot_before b) (held_postings n (Some d) c))
          → on_posting (λ s. held_postings n (Some s.doc) (skipped s.count s.bytes)) (posting_here previous (a ++ b))
          ≡ map (spot_before b) these
      go (Ok s) e f h ih =
          rw (spot_longer previous a e, (positions_longer s.count None s.bytes f.1.long).1)
          (ap (λ l. spot_before b s ∷ l) (ih s.doc (skipped s.count s.bytes) f.2 (omega arith)))
      go (Err x) e f h ih = absurd (omega arith)

  same_positions : {s : PostingAt} → Full s → positions_there (spot_before b s) ≡ positions_there s
  same_positions {s} f = (positions_longer s.count None s.bytes f.long).0

  full_longer : {s : PostingAt} → Full s → Full (spot_before b s)
  full_longer f =
      record { has_positions = f.has_positions; long = rw (same_positions f) f.long; rise = rw (same_positions f) f.rise }

  fulls_longer : (previous : Option ℕ) (ss : List PostingAt) → AllFull previous ss → AllFull previous (map (spot_before b) ss)
  fulls_longer previous [] f = tt
  fulls_longer previous (s ∷ ss) f = (f.0, full_longer f.1, fulls_longer (Some s.doc) ss f.2)

  same_postings : (previous : Option ℕ) (ss : List PostingAt) → AllFull previous ss
      → map posting_of (map (spot_before b) ss) ≡ map posting_of ss
  same_postings previous [] f = refl
  same_postings previous (s ∷ ss) f = rw (same_positions f.1, same_postings (Some s.doc) ss f.2)

  pub read_longer : {n : ℕ} {previous : Option ℕ} {a : List ℕ} {ps : List Posting} → PostingsRead n previous a ps
      → PostingsRead n previous (a ++ b) ps
  read_longer {n} {previous} {a} r =
      let ss = held_postings n previous a in
      let e = postings_longer n previous a r.full r.long in
      record {
        is = rw e (same_postings previous ss r.full ∙ r.is);
        full = rw e (fulls_longer previous ss r.full);
        long = rw e (length-map ss (spot_before b) ∙ r.long);
      }

-- a list decoded from its own bytes
module _ (bytes : List ℕ) (l : TermList) (documents : List Document) {ps : List Posting} where
  pub list_walked : all_postings l.df documents (bytes_of_list bytes l) ≡ Ok ps → PostingsRead l.df None (drop l.start bytes) ps
  list_walked e =
      rw (take-append-drop (l.end - l.start) (drop l.start bytes))
      at (read_longer (drop (l.end - l.start) (drop l.start bytes)) (all_postings_read l.df documents (bytes_of_list bytes l) e))

  pub decoded_walked : decode documents (list_entry bytes l) ≡ Ok ps → PostingsRead l.df None (drop l.start bytes) ps
  unfolding decode
  decoded_walked e = list_walked (check_gives (eqb (crc32_of (bytes_of_list bytes l)) l.checksum) _ _ e).1

-- postings that were read: as many as were asked for, and their counts are their positions'
pub full_counts : (previous : Option ℕ) (ss : List PostingAt) → AllFull previous ss
    → map (λ s. s.count) ss ≡ map (λ p. length p.positions) (map posting_of ss)
full_counts previous [] f = refl
full_counts previous (s ∷ ss) f = rw (f.1.long, full_counts (Some s.doc) ss f.2)

module _ {n : ℕ} {previous : Option ℕ} {bytes : List ℕ} {ps : List Posting} (r : PostingsRead n previous bytes ps) where
  pub read_many : length ps ≡ n
  read_many = ap length (sym r.is) ∙ length-map (held_postings n previous bytes) posting_of ∙ r.long

  pub read_counts : map (λ s. s.count) (held_postings n previous bytes) ≡ map (λ p. length p.positions) ps
  read_counts = rw (← r.is) (full_counts previous (held_postings n previous bytes) r.full)
