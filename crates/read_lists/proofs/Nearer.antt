-- A posting read from a mark that is not past it: the answer is what the cursor at hand gives.
-- Assumes nothing.
use Rattle.std.specs.Prelude.{Err, None, Ok, Option, Some}
use Rattle.segment.specs.Results.{Answer}
use mathlib.Core.Path.{◌≡◌, refl, sym, ap, ◌∙◌}
use mathlib.Core.Bool.{Bool, true, false, cond}
use mathlib.Core.List.{List}
use Prim.Native.Nat.{ℕ, ◌≤◌, ◌<◌}
use native.Mathlib.Omega.{arith}
use lib.Dec.{ltb, leb}
use lib.ListN.{drop}
use borrow.Author.Tests.{ltb-true, ltb-false, lt-ltb, le-ltb, le-leb, lt-leb}
use Rattle.leb128.specs.declared.varint.Number.{Number}
use Rattle.segment.specs.declared.refusal.Refusal.{Refusal}
use Rattle.read_cursors.specs.declared.documents.Documents.{Documents}
use Rattle.read_lists.specs.declared.lists.Head.{Head as ReadHead}
use Rattle.segment.specs.Refusals.{postings, doc_id_overflow, invalid_layout, non_increasing_posting_id}
use Rattle.segment.specs.Records.{Document, Read, number, rises}
use Rattle.segment.specs.Metadata.{length_of}
use Rattle.segment.specs.Postings.{Head, read_value, read_head}
use Rattle.read_cursors.specs.Held.{PostingAt, value_at, posting_here}
use Rattle.read_cursors.specs.Steps.{value_means, documents_from}
use Rattle.segment.proofs.Binds.{ok_same, refuse_ok, bind_gives}
use Rattle.read_cursors.proofs.DocumentsHeld.{above}
use Rattle.read_cursors.proofs.ValueReads.{value_read, value_any, value_rises}
use Rattle.read_cursors.proofs.PostingReads.{head_read}
use Rattle.read_lists.specs.Steps.{head_means, Kept, WalkedHead, Mark, Peeked, nearer_of}
use Rattle.read_lists.proofs.Tallies.{bind_agree}

-- ---- the value looked at

module _ {list : List ℕ} {previous : Option ℕ} {at : ℕ} {v : (Answer Number)}
    (answer : value_means list v ≡ value_at previous (drop at list)) where
  pub peeked_value : {n : Number} → v ≡ Ok n → Peeked list previous at n.value
  peeked_value e = record { same = λ w is. ap (λ (x : Read ℕ). x.got) (ok_same (ap (value_means list) (sym e) ∙ answer ∙ is)) }

  pub peeked_none : {x : Refusal} → v ≡ Err x → Peeked list previous at 0
  peeked_none e = record { same = λ w is. refuse_ok (ap (value_means list) (sym e) ∙ answer ∙ is) }

-- ---- two cursors that say the same from the value on

rises_least : (previous : Option ℕ) (x : ℕ) → rises previous x ≡ true → above previous ≤ x
rises_least None x e = omega arith
rises_least (Some p) x e = ltb-true p x e

-- the value of a posting that was read
head_value : (place : ℕ) (ds : List Document) (previous : Option ℕ) (bytes : List ℕ) {h : Read Head}
    → read_head place ds previous bytes ≡ Ok h
    → (v : Read ℕ) × (value_at previous bytes ≡ Ok v) × (v.got ≡ h.got.doc)
unfolding posting_here
head_value place ds previous bytes e =
    let (v, is, f) = bind_gives (value_at previous bytes) _ (head_read place ds previous bytes e).held in
    let (_, _, g) = bind_gives (number postings 0 v.rest) _ f in
    (v, is, ap (λ (x : PostingAt). x.doc) (ok_same g))

module _ (list meta : List ℕ) (at place : ℕ) (previous : Option ℕ) (near known : Documents)
    (same : (v : Read ℕ) → value_at previous (drop at list) ≡ Ok v → (id : ℕ) → v.got ≤ id
    → length_of (documents_from meta near) id ≡ length_of (documents_from meta known) id) where
  head_agree : read_head place (documents_from meta near) previous (drop at list)
      ≡ read_head place (documents_from meta known) previous (drop at list)
  unfolding read_head
  head_agree =
      bind_agree (read_value (doc_id_overflow place) (invalid_layout non_increasing_posting_id) place previous (drop at list)) _ _
      (λ v is. rw (same v (value_any (value_read _ _ place previous (drop at list) is) _ _ 0) v.got (omega arith)))

  kept_agree : (r : Answer ReadHead) → head_means list r ≡ read_head place (documents_from meta near) previous (drop at list) → Kept meta near r
      → Kept meta known r
  kept_agree (Ok h) e k =
      let (v, is, doc) = head_value place (documents_from meta near) previous (drop at list) (sym e) in
      λ id g. k id g ∙ same v is id (omega arith)
  kept_agree (Err x) e k = tt

  walked_agree : (r : Answer ReadHead) → WalkedHead list at place previous meta near r → WalkedHead list at place previous meta known r
  walked_agree r w = record { reads = w.reads ∙ head_agree; kept = kept_agree r w.reads w.kept }

-- ---- the mark

module _ (known mark : Documents) (doc : ℕ) where
  pub mark_past : doc < mark.id.0 → known ≡ nearer_of known mark doc
  mark_past h = rw (lt-ltb doc mark.id.0 h)

  pub mark_behind : mark.id.0 ≤ doc → mark.id.0 ≤ known.id.0 → known ≡ nearer_of known mark doc
  mark_behind h k = rw (le-ltb doc mark.id.0 h, le-leb mark.id.0 known.id.0 k)

  pub mark_taken : mark.id.0 ≤ doc → known.id.0 < mark.id.0 → mark ≡ nearer_of known mark doc
  mark_taken h k = rw (le-ltb doc mark.id.0 h, lt-leb mark.id.0 known.id.0 k)

-- a cursor that says of every document after the previous posting's what the documents ds say
pub record Agrees (meta : List ℕ) (ds : List Document) (previous : Option ℕ) (known : Documents) : Type 0 where
  pub says : (id : ℕ) → above previous ≤ id → length_of (documents_from meta known) id ≡ length_of ds id

pub agrees_all : {meta : List ℕ} {ds : List Document} (previous : Option ℕ) {known : Documents} → documents_from meta known ≡ ds
    → Agrees meta ds previous known
agrees_all previous e = record { says = λ id h. ap (λ (l : List Document). length_of l id) e }

module _ {meta : List ℕ} {ds : List Document} {previous : Option ℕ} {known : Documents} (agrees : Agrees meta ds previous known) where
  nearer_same : (mark : Documents) (doc : ℕ) → Mark meta ds mark → above previous ≤ doc → (id : ℕ) → doc ≤ id
      → length_of (documents_from meta (nearer_of known mark doc)) id ≡ length_of (documents_from meta known) id
  nearer_same mark doc m low id h = by (ltb doc mark.id.0) (leb mark.id.0 known.id.0) refl
    where
      by : (t u : Bool) → ltb doc mark.id.0 ≡ t
          → length_of (documents_from meta (cond t known (cond u known mark))) id ≡ length_of (documents_from meta known) id
      by true u e = refl
      by false true e = refl
      by false false e = m id (omega (arith, ltb-false doc mark.id.0 e)) ∙ sym (agrees.says id (omega arith))

  module _ {list : List ℕ} {at place : ℕ} where
    pub walks_near : (mark : Documents) {near : Documents} {doc : ℕ} {r : Answer ReadHead} → Mark meta ds mark → Peeked list previous at doc
        → near ≡ nearer_of known mark doc → WalkedHead list at place previous meta near r → WalkedHead list at place previous meta known r
    walks_near mark {near} {doc} {r} m p e w =
        walked_agree list meta at place previous near known
        (λ v is id h. rw e (nearer_same mark doc m
        (omega (arith, p.same v is, rises_least previous v.got (value_rises (value_read _ _ 0 previous (drop at list) is)))) id
        (omega (arith, p.same v is))))
        r w

    pub agrees_on : {r : Answer ReadHead} {d : ReadHead} → WalkedHead list at place previous meta known r → r ≡ Ok d
        → Agrees meta ds (Some d.doc.0) d.documents
    agrees_on {r} {d} w e =
        let read = head_read place (documents_from meta known) previous (drop at list) (sym w.reads ∙ ap (head_means list) e) in
        let kept : Kept meta known (Ok d) = rw e at w.kept in
        let low = rises_least previous d.doc.0 read.rises in
        record { says = λ id h. kept id (omega arith) ∙ agrees.says id (omega arith) }
