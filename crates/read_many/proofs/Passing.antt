-- A posting passed number by number is read by the definitions, whichever index their refusals would name.
-- Assumes nothing.
use Rattle.std.specs.Prelude.{None, Ok, Option, Some}
use mathlib.Core.Path.{◌≡◌, refl, sym}
use mathlib.Core.Bool.{true}
use mathlib.Core.List.{List, [], ◌∷◌}
use mathlib.Core.Logic.{⊎_elim}
use Prim.Native.Nat.{ℕ, zero, suc, ◌+◌, ◌-◌, ◌^◌, ◌≤◌, ◌<◌}
use native.Mathlib.Omega.{arith}
use lib.Dec.{eqb}
use lib.ListN.{length, drop, get_or}
use borrow.Author.Tests.{lt-ltb, eq-eqb, ne_eqb}
use Rattle.common.proofs.Loops.{lt_or_ge, left_suc, left_none, drop_step}
use Rattle.leb128.specs.declared.varint.Number.{Number}
use Rattle.leb128.specs.Promise.{decoded_at}
use Rattle.leb128.specs.Leb128.{uleb128}
use Rattle.leb128.proofs.Numbers.{value}
use Rattle.segment.specs.Refusals.{postings, doc_id_overflow, invalid_layout, non_increasing_posting_id}
use Rattle.segment.specs.Records.{Document, at_gap, rises}
use Rattle.segment.specs.Metadata.{length_of}
use Rattle.segment.specs.Postings.{read_value, read_position, read_positions, read_head, read_posting, read_postings, all_postings}
use Rattle.segment.specs.Steps.{earlier}
use Rattle.segment.proofs.Accepted.{earlier_next}
use Rattle.read_cursors.proofs.Gaps.{number_value, value_first, value_next}
use Rattle.read_many.specs.declared.postings.Cursor.{Cursor}
use Rattle.read_many.specs.Promise.{Decodes}
use Rattle.read_many.specs.Steps.{Leaves, Placed, EndsWell, Posted, SurePosting, SureFrom, Stepped}

-- a number of one byte
pub one_byte : (s : List ℕ) (at x next : ℕ) → at < length s → x ≡ get_or s at 0 → x < 128 → next ≡ at + 1
    → decoded_at s at ≡ Some (record { value = x; next = record { at = next } })
unfolding uleb128
one_byte s at x next h e k f =
    let b = get_or s at 0 in
    sym (value at (uleb128 (drop at s)) b 1 x next (rw (drop_step s at 0 h, lt-ltb b 128 (omega arith))) (omega arith) (omega arith) e f)

-- ---- positions

module _ (list : List ℕ) (at len : ℕ) {n : Number} (e : decoded_at list at ≡ Some n) (small : len < 2 ^ 32) (previous : Option ℕ) (v : ℕ)
    (is : at_gap previous n.value ≡ v) (up : rises previous v ≡ true) (low : v < len) where
  position_at : (index : ℕ) → read_position index len previous (drop at list) ≡ Ok (record { got = v; rest = drop n.next.at list })
  unfolding read_position read_value
  position_at index =
      rw (number_value list at postings index e, is, lt-ltb v (2 ^ 32) (omega arith), up, lt-ltb v len low)

  pub one_more : (m : ℕ) (rest : List ℕ) → Leaves (λ index. read_positions m index len (Some v) (drop n.next.at list)) rest
      → Leaves (λ index. read_positions (suc m) index len previous (drop at list)) rest
  unfolding read_positions
  one_more m rest l index = let (ps, those) = l (suc index) in (v ∷ ps, rw (position_at index, those))

-- the positions from here on are the rest of the posting's
pub record Placing (list : List ℕ) (count len start next last i : ℕ) : Type 0 where
  pub small : last < 2 ^ 32
  pub none_before : i ≡ 0 → last ≡ 0
  pub sure : (rest : List ℕ)
      → Leaves (λ index. read_positions (count - i) index len (earlier (eqb i 0) last) (drop next list)) rest
      → Placed count len (drop start list) rest

pub placing_start : (list : List ℕ) (count len at : ℕ) → Placing list count len at at 0 0
placing_start list count len at =
    let n : count - 0 ≡ count = omega arith in
    record { small = omega arith; none_before = λ e. refl; sure = λ rest. rw n (λ l. l) }

module _ {list : List ℕ} {count len start next last i : ℕ} (p : Placing list count len start next last i) where
  pub placing_next : {n : Number} (v : ℕ) → v ≡ last + n.value → len < 2 ^ 32 → i < count → decoded_at list next ≡ Some n → v < len
      → (0 < i → 0 < n.value) → Placing list count len start n.next.at v (i + 1)
  placing_next {n} v is small h e low rise = record {
    small = omega arith;
    none_before = λ z. absurd (omega arith);
    sure = λ rest after. p.sure rest (rw (left_suc count i h)
        (⊎_elim
        (λ (k : 0 < i). rw (ne_eqb i 0 (λ z. omega arith))
        (one_more list next len e small (Some last) v (omega arith) (lt-ltb last v (omega (arith, rise k))) low (count - (i + 1)) rest
        (rw (earlier_next i v) at after)))
        (λ (k : i ≤ 0). let z : i ≡ 0 = omega arith in
        rw (eq-eqb i 0 z)
        (one_more list next len e small None v (omega (arith, p.none_before z)) refl low (count - (i + 1)) rest
        (rw (earlier_next i v) at after)))
        (lt_or_ge 0 i)));
  }

  pub placing_end : count ≤ i → Placed count len (drop start list) (drop next list)
  unfolding read_positions
  placing_end h = p.sure (drop next list) (rw (left_none count i h) (λ index. ([], refl)))

-- ---- postings

module _ (documents : List Document) {later doc : ℕ} (bytes : List ℕ) {rest : List ℕ} (previous : Option ℕ)
    (value : (index : ℕ) → read_value (doc_id_overflow index) (invalid_layout non_increasing_posting_id) index previous bytes
    ≡ Ok (record { got = doc; rest = rest })) (s : SurePosting documents later doc rest) where
  -- a gap, and what is in order past it
  pub gap_then : (index : ℕ) → EndsWell (read_postings (suc later) index documents previous bytes)
  unfolding read_postings read_posting read_head
  gap_then index =
      let p = s.posted in
      let (ps, placed) = p.placed index in
      let f = s.follow (suc index) in
      record {
        all = record { got = record { doc = doc; positions = ps } ∷ f.all.got; rest = f.all.rest };
        is = rw (value index, s.known, p.counted index, lt-ltb 0 p.count p.has_positions, placed, f.is);
        ends = f.ends;
      }

module _ (documents : List Document) (doc : ℕ) {len : ℕ} {bytes rest : List ℕ} (known : length_of documents doc ≡ Some len)
    (p : Posted len bytes rest) where
  pub last_posting : (n : ℕ) → n ≡ 1 → length rest ≡ 0 → SureFrom documents n doc bytes
  unfolding read_postings
  last_posting zero e h = absurd (omega arith)
  last_posting (suc zero) e h = record {
    len = len;
    rest = rest;
    known = known;
    posted = p;
    follow = λ index. record { all = record { got = []; rest = rest }; is = refl; ends = h };
  }
  last_posting (suc (suc n)) e h = absurd (omega arith)

  pub more_postings : (n doc' : ℕ) (bytes' : List ℕ) → 1 < n
      → ((index : ℕ) → read_value (doc_id_overflow index) (invalid_layout non_increasing_posting_id) index (Some doc) rest
      ≡ Ok (record { got = doc'; rest = bytes' }))
      → SureFrom documents (n - 1) doc' bytes' → SureFrom documents n doc bytes
  more_postings zero doc' bytes' h v s = absurd (omega arith)
  more_postings (suc zero) doc' bytes' h v s = absurd (omega arith)
  more_postings (suc (suc n)) doc' bytes' h v s =
      let e : suc (suc n) - 1 ≡ suc n = omega arith in
      let t : SureFrom documents (suc n) doc' bytes' = rw e at s in
      record { len = len; rest = rest; known = known; posted = p; follow = gap_then documents rest (Some doc) v t }

-- ---- a list

module _ (documents : List Document) (list : List ℕ) (at : ℕ) {n : Number} (e : decoded_at list at ≡ Some n) where
  pub first_posting : (df : ℕ) → 0 < df → SureFrom documents df n.value (drop n.next.at list) → Decodes df documents (drop at list)
  unfolding all_postings
  first_posting zero h s = absurd (omega arith)
  first_posting (suc later) h s =
      let w = gap_then documents (drop at list) None (λ index. sym (value_first _ _ index list at e)) s 0 in
      record { decoded = w.all.got; is = rw (w.is, eq-eqb (length w.all.rest) 0 w.ends) }

-- ---- a cursor past one posting

pub posted_of : (list : List ℕ) (at : ℕ) {len : ℕ} {rest : List ℕ} {n : Number} → decoded_at list at ≡ Some n → 0 < n.value
    → Placed n.value len (drop n.next.at list) rest → Posted len (drop at list) rest
posted_of list at {len} {rest} {n} e h p = record {
  count = n.value;
  first = drop n.next.at list;
  counted = λ index. number_value list at postings index e;
  has_positions = h;
  placed = p;
}

module _ (list : List ℕ) (len : ℕ) (c : Cursor) (past : ℕ) where
  pub stepped_last : c.remaining ≡ 1 → Posted len (drop c.at list) (drop past list)
      → Stepped list len c (record { at = past; doc = c.doc; remaining = 0 })
  stepped_last e p = record {
    fewer = omega arith;
    sure = λ documents known s. last_posting documents c.doc known p c.remaining e s;
  }

  pub stepped_on : {n : Number} → 1 < c.remaining → Posted len (drop c.at list) (drop past list) → decoded_at list past ≡ Some n
      → 0 < n.value → c.doc + n.value < 2 ^ 32
      → Stepped list len c (record { at = n.next.at; doc = c.doc + n.value; remaining = c.remaining - 1 })
  stepped_on {n} h p e up small = record {
    fewer = omega arith;
    sure = λ documents known s.
        more_postings documents c.doc known p c.remaining (c.doc + n.value) (drop n.next.at list) h
        (λ index. sym (value_next _ _ index list past e c.doc small (omega arith))) s;
  }
