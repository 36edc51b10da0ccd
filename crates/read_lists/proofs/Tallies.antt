-- Postings read one by one, with a running total of their positions, all of them or one document's: the rest from here is the whole.
-- Assumes nothing.
use Rattle.std.specs.Prelude.{Err, None, Ok, Option, Some}
use mathlib.Core.Path.{◌≡◌, refl, sym, ap, ◌∙◌}
use mathlib.Core.Bool.{Bool, true, false, cond}
use mathlib.Core.List.{List, [], ◌∷◌}
use Prim.Native.Nat.{ℕ, zero, suc, ◌+◌, ◌-◌, ◌≤◌, ◌<◌}
use native.Mathlib.Numerals.{add-one}
use native.Mathlib.Omega.{arith}
use lib.Dec.{eqb}
use lib.ListN.{length, drop, length-drop}
use borrow.Author.Tests.{ltb-true, eq-eqb, ne_eqb}
use Rattle.leb128.specs.declared.varint.Reader.{Reader}
use Rattle.common.proofs.Loops.{left_suc, left_none}
use Rattle.segment.specs.declared.refusal.Refusal.{Refusal}
use Rattle.read_cursors.specs.declared.documents.Documents.{Documents}
use Rattle.read_lists.specs.declared.lists.Head.{Head as ReadHead}
use Rattle.segment.specs.Refusals.{doc_id_overflow, invalid_layout, non_increasing_posting_id, trailing_posting_bytes}
use Rattle.segment.specs.Results.{Answer, ◌>>=◌, check}
use Rattle.segment.specs.Records.{Document, Posting, Read}
use Rattle.segment.specs.Metadata.{length_of}
use Rattle.read_cursors.specs.Steps.{documents_from}
use Rattle.segment.specs.Postings.{Head, read_value, read_positions, read_head, read_posting, read_postings, all_postings, total_positions}
use Rattle.read_lists.specs.Steps.{after, positions_mean, WalkedPositions, head_means, WalkedHead, tallied_by, positions_in}
use Rattle.segment.proofs.Binds.{ok_same, refuse_ok}
use Rattle.read_cursors.proofs.Gaps.{further}
use Rattle.read_cursors.proofs.ValueReads.{value_read, value_rises}
use Rattle.read_cursors.proofs.PostingReads.{positions_read, head_read, posting_read}

-- ---- documents that say the same of every later id

pub bind_agree : {A B : Type 0} (m : Answer A) (f g : A → Answer B) → ((a : A) → m ≡ Ok a → f a ≡ g a) → (m >>= f) ≡ (m >>= g)
bind_agree (Ok a) f g h = h a refl
bind_agree (Err x) f g h = refl

module _ (ds es : List Document) where
  posting_agree : (place p : ℕ) (bytes : List ℕ) → ((id : ℕ) → p < id → length_of ds id ≡ length_of es id)
      → read_posting place ds (Some p) bytes ≡ read_posting place es (Some p) bytes
  unfolding read_posting read_head
  posting_agree place p bytes same =
      ap (λ (m : Answer (Read Head)). m >>= λ h. read_positions h.got.count place h.got.len None h.rest >>= λ all.
      Ok (record { got = record { doc = h.got.doc; positions = all.got }; rest = all.rest }))
      (bind_agree (read_value (doc_id_overflow place) (invalid_layout non_increasing_posting_id) place (Some p) bytes) _ _
      (λ doc is. rw (same doc.got (ltb-true p doc.got (value_rises (value_read _ _ place (Some p) bytes is))))))

  pub postings_agree : (count place p : ℕ) (bytes : List ℕ) → ((id : ℕ) → p < id → length_of ds id ≡ length_of es id)
      → read_postings count place ds (Some p) bytes ≡ read_postings count place es (Some p) bytes
  unfolding read_postings
  postings_agree zero place p bytes same = refl
  postings_agree (suc n) place p bytes same =
      rw (posting_agree place p bytes same) (bind_agree (read_posting place es (Some p) bytes) _ _
      (λ q is.
      let r = posting_read place es (Some p) bytes is in
      let d = ltb-true p r.spot.doc r.rises in
      rw (postings_agree n (suc place) q.got.doc q.rest (λ id h. same id (omega (arith, ap (λ (x : Posting). x.doc) r.is))))))

-- ---- the running total

-- a number of each posting, summed: it depends on the document and on the number of positions, and is at most that number
pub record Sums (number : List Posting → ℕ) (weigh : (doc count : ℕ) → ℕ) : Type 0 where
  pub of_none : number [] ≡ 0
  pub of_more : (p : Posting) (ps : List Posting) → number (p ∷ ps) ≡ weigh p.doc (length p.positions) + number ps
  pub light : (doc count : ℕ) → weigh doc count ≤ count

pub all_counted : Sums total_positions (λ doc count. count)
unfolding total_positions
all_counted = record { of_none = refl; of_more = λ p ps. refl; light = λ doc count. omega arith }

pub one_counted : (asked : ℕ) → Sums (positions_in asked) (λ doc count. cond (eqb doc asked) count 0)
unfolding positions_in
one_counted asked = record { of_none = refl; of_more = λ p ps. refl; light = λ doc count. at_most (eqb doc asked) count }
  where
    at_most : (t : Bool) (count : ℕ) → cond t count 0 ≤ count
    at_most true count = omega arith
    at_most false count = omega arith

abbrev pub tally_from : (List Posting → ℕ) → ℕ → Answer (Read (List Posting)) → Answer (Read ℕ)
tally_from number total (Ok a) = Ok (record { got = total + number a.got; rest = a.rest })
tally_from number total (Err x) = Err x

module _ {number : List Posting → ℕ} {weigh : ℕ → ℕ → ℕ} (sums : Sums number weigh) where
  tally_more : (total : ℕ) (p : Posting) (m : Answer (Read (List Posting)))
      → tally_from number total (m >>= λ more. Ok (record { got = p ∷ more.got; rest = more.rest }))
      ≡ tally_from number (total + weigh p.doc (length p.positions)) m
  tally_more total p (Ok a) =
      let s : total + number (p ∷ a.got) ≡ total + weigh p.doc (length p.positions) + number a.got
      = omega (arith, sums.of_more p a.got) in
      ap (λ (n : ℕ). Ok (record { got = n; rest = a.rest })) s
  tally_more total p (Err x) = refl

-- the postings after one
abbrev later : (count place : ℕ) (documents : List Document) (doc : ℕ) (rest : List ℕ) → Answer (Read (List Posting))
later count place documents doc rest = read_postings count place documents (Some doc) rest

-- a posting's positions, and the postings after it
module _ (doc : ℕ) (next : ℕ → List ℕ → Answer (Read (List Posting))) where
  abbrev posting_with : Answer (Read (List ℕ)) → Answer (Read Posting)
  posting_with m = m >>= λ all. Ok (record { got = record { doc = doc; positions = all.got }; rest = all.rest })

  abbrev with_positions : Answer (Read (List ℕ)) → Answer (Read (List Posting))
  with_positions m =
      posting_with m >>= λ p. next p.got.doc p.rest >>= λ more. Ok (record { got = p.got ∷ more.got; rest = more.rest })

  tally_refused : (number : List Posting → ℕ) (total : ℕ) (m : Answer (Read (List ℕ))) {x : Refusal} → after m ≡ Err x
      → tally_from number total (with_positions m) ≡ Err x
  tally_refused number total (Ok a) e = refuse_ok (sym e)
  tally_refused number total (Err x) e = cc

  tally_posting : {number : List Posting → ℕ} {weigh : ℕ → ℕ → ℕ} → Sums number weigh → (total count place len : ℕ) (bytes : List ℕ)
      (m : Answer (Read (List ℕ))) → m ≡ read_positions count place len None bytes → {rest : List ℕ} → after m ≡ Ok rest
      → tally_from number total (with_positions m) ≡ tally_from number (total + weigh doc count) (next doc rest)
  tally_posting sums total count place len bytes (Ok a) is e =
      rw (← ok_same e, ← (positions_read count place len None bytes (sym is)).long)
      (tally_more sums total (record { doc = doc; positions = a.got }) (next doc a.rest))
  tally_posting sums total count place len bytes (Err x) is e = refuse_ok e

module _ {number : List Posting → ℕ} {weigh : ℕ → ℕ → ℕ} (sums : Sums number weigh) (list meta : List ℕ) (at df place total : ℕ)
    (documents : Documents) (previous : Option ℕ) {whole : Answer (Read ℕ)}
    (inv : tally_from number total (read_postings (df - place) place (documents_from meta documents) previous (drop at list)) ≡ whole) where
  turn : place < df
      → tally_from number total (read_posting place (documents_from meta documents) previous (drop at list) >>= λ p.
      read_postings (df - (place + 1)) (place + 1) (documents_from meta documents) (Some p.got.doc) p.rest >>= λ more.
      Ok (record { got = p.got ∷ more.got; rest = more.rest })) ≡ whole
  unfolding read_postings
  turn h = rw (left_suc df place h, ← add-one place) at inv

  module _ (h : place < df) (r : Answer ReadHead) (answer : WalkedHead list at place previous meta documents r) where
    pub stop_at_head : {x : Refusal} → r ≡ Err x → Err x ≡ whole
    unfolding read_posting
    stop_at_head e = rw (← answer.reads, e) at (turn h)

    module _ (d : ReadHead) (e : r ≡ Ok d) where
      -- the metadata says the same from here on
      kept : (id : ℕ) → d.doc.0 ≤ id → length_of (documents_from meta d.documents) id ≡ length_of (documents_from meta documents) id
      kept = rw e at answer.kept

      moved : at < d.next.at
      moved =
          further list at d.next.at
          (head_read place (documents_from meta documents) previous (drop at list) (sym answer.reads ∙ ap (head_means list) e)).shorter

      turn_2 : tally_from number total (with_positions d.doc.0 (later (df - (place + 1)) (place + 1) (documents_from meta documents))
          (read_positions d.count place d.documents.len None (drop d.next.at list))) ≡ whole
      unfolding read_posting
      turn_2 = rw (← answer.reads, e) at (turn h)

      module _ (s : Answer Reader) (found : WalkedPositions list d.count place d.documents.len d.next.at s) where
        pub stop_at_positions : {x : Refusal} → s ≡ Err x → Err x ≡ whole
        stop_at_positions f =
            sym (tally_refused _ (later (df - (place + 1)) (place + 1) (documents_from meta documents)) number total
            (read_positions _ _ _ _ _) (sym found.reads ∙ ap (positions_mean list) f)) ∙ turn_2

        pub postings_next : {n : Reader} → s ≡ Ok n → (at + weigh d.doc.0 d.count ≤ n.at)
            × (tally_from number (total + weigh d.doc.0 d.count)
            (read_postings (df - (place + 1)) (place + 1) (documents_from meta d.documents) (Some d.doc.0) (drop n.at list))
            ≡ whole)
        postings_next {n} f =
            let m : d.next.at + d.count ≤ n.at = rw f at found.moved in
            let k = moved in
            let ds = documents_from meta documents in
            let same = postings_agree (documents_from meta d.documents) ds (df - (place + 1)) (place + 1) d.doc.0 (drop n.at list)
            (λ id g. kept id (omega arith)) in
            let told = sym found.reads ∙ ap (positions_mean list) f in (
              omega (arith, sums.light d.doc.0 d.count),
              rw same
                  (sym (tally_posting _ (later (df - (place + 1)) (place + 1) ds) sums total d.count place d.documents.len _ _ refl
                  told) ∙ turn_2),
            )

  pub postings_end : df ≤ place → Ok (record { got = total; rest = drop at list }) ≡ whole
  unfolding read_postings
  postings_end h =
      let s : total + number [] ≡ total = omega (arith, sums.of_none) in
      rw (left_none df place h, s) at inv

-- ---- all postings, then the bytes after them

abbrev pub finished : Answer (Read ℕ) → Answer ℕ
finished (Ok a) = cond (eqb (length a.rest) 0) (Ok a.got) (Err (invalid_layout trailing_posting_bytes))
finished (Err x) = Err x

module _ (number : List Posting → ℕ) where
  finish : (m : Answer (Read (List Posting)))
      → tallied_by number (m >>= λ all. check (eqb (length all.rest) 0) (invalid_layout trailing_posting_bytes) >>= λ _. Ok all.got)
      ≡ finished (tally_from number 0 m)
  finish (Ok a) = closing (eqb (length a.rest) 0)
    where
      closing : (t : Bool) → tallied_by number (check t (invalid_layout trailing_posting_bytes) >>= λ _. Ok a.got)
          ≡ cond t (Ok (0 + number a.got)) (Err (invalid_layout trailing_posting_bytes))
      closing true = let s : number a.got ≡ 0 + number a.got = omega arith in ap Ok s
      closing false = refl
  finish (Err x) = refl

  -- where the reading ended is what the decoding of all answers
  pub finishes : (df : ℕ) (documents : List Document) (bytes : List ℕ) {r : Answer (Read ℕ)}
      → r ≡ tally_from number 0 (read_postings df 0 documents None bytes)
      → finished r ≡ tallied_by number (all_postings df documents bytes)
  unfolding all_postings
  finishes df documents bytes e = ap finished e ∙ sym (finish (read_postings df 0 documents None bytes))

pub finished_short : (total : ℕ) (s : List ℕ) (at : ℕ) → at < length s
    → finished (Ok (record { got = total; rest = drop at s })) ≡ Err (invalid_layout trailing_posting_bytes)
finished_short total s at h = rw (ne_eqb (length (drop at s)) 0 (omega (arith, length-drop at s)))

pub finished_whole : (total : ℕ) (s : List ℕ) (at : ℕ) → length s ≤ at
    → finished (Ok (record { got = total; rest = drop at s })) ≡ Ok total
finished_whole total s at h = rw (eq-eqb (length (drop at s)) 0 (omega (arith, length-drop at s)))
