-- The documents of a decoded list are the segment's, whose ids rise.
-- Assumes nothing.
use Rattle.std.specs.Prelude.{None, Ok, Option, Some}
use mathlib.Core.Path.{◌≡◌, refl, sym}
use mathlib.Core.Bool.{Bool, true, false, cond}
use mathlib.Core.List.{List, [], ◌∷◌}
use mathlib.Core.Logic.{inl, inr}
use Prim.Native.Nat.{ℕ, zero, suc}
use native.Mathlib.Omega.{arith}
use lib.Dec.{eqb}
use lib.ListN.{length}
use borrow.Author.Tests.{eqb-true}
use Rattle.crc32.specs.Crc32.{crc32_of}
use Rattle.read_open.specs.declared.header.Layout.{Layout}
use Rattle.segment.specs.Records.{Document, Posting, Entry, Segment, Read}
use Rattle.segment.specs.Metadata.{length_of}
use Rattle.segment.specs.Postings.{read_head, read_positions, read_posting, read_postings, all_postings, decode}
use Rattle.read_open.specs.Steps.{cut}
use Rattle.read_cursors.specs.Held.{held_documents}
use Rattle.read_open.specs.Opened.{IsOpen}
use Rattle.segment.proofs.Binds.{ok_same, bind_gives}
use Rattle.segment.proofs.Accepted.{check_gives}
use Rattle.read_cursors.proofs.PostingReads.{head_read}
use Rattle.read_cursors.proofs.DocumentsHeld.{held_rise}
use Rattle.read_cursors.proofs.DocumentsHeld as documents
use Rattle.common.specs.Elements.{◌∈◌, Rising}
use Rattle.calls.proofs.Posted.{docs, ids}

-- ---- the segment's ids

ids_rise : (low : ℕ) (ds : List Document) → documents.Rising low ds → Rising (ids ds)
ids_rise low [] r = tt
ids_rise low (d ∷ []) r = tt
ids_rise low (d ∷ (e ∷ ds)) r = (r.3.0, ids_rise (suc d.id) (e ∷ ds) r.3)

pub open_rise : {bytes : List ℕ} {at : Layout} {s : Segment} → IsOpen bytes at s → Rising (ids s.documents)
open_rise {bytes} {at} is =
    rw (← is.documents)
    (ids_rise 0 (held_documents at.documents None (cut bytes at).metadata) (held_rise at.documents None (cut bytes at).metadata))

-- ---- a posting's document

known_in : (ds : List Document) (d n : ℕ) → length_of ds d ≡ Some n → d ∈ ids ds
unfolding length_of
known_in [] d n e = let z : ◌≡◌ {A = ℕ} 0 1 = cc in absurd (omega arith)
known_in (x ∷ ds) d n e = step (eqb x.id d) refl e (known_in ds d n)
  where
    step : (t : Bool) → eqb x.id d ≡ t → cond t (Some x.len) (length_of ds d) ≡ Some n
        → (length_of ds d ≡ Some n → d ∈ ids ds) → d ∈ ids (x ∷ ds)
    step true is e later = inl (sym (eqb-true x.id d is))
    step false is e later = inr (later e)

module _ (documents : List Document) where
  posting_known : (place : ℕ) (previous : Option ℕ) (bytes : List ℕ) {p : Read Posting} → read_posting place documents previous bytes ≡ Ok p
      → p.got.doc ∈ ids documents
  unfolding read_posting
  posting_known place previous bytes e =
      let (h, is, f) = bind_gives (read_head place documents previous bytes) _ e in
      let (all, has, g) = bind_gives (read_positions h.got.count place h.got.len None h.rest) _ f in
      rw (← ok_same g) (known_in documents h.got.doc h.got.len (head_read place documents previous bytes is).known)

  postings_known : (n place : ℕ) (previous : Option ℕ) (bytes : List ℕ) {a : Read (List Posting)}
      → read_postings n place documents previous bytes ≡ Ok a → (d : ℕ) → d ∈ docs a.got → d ∈ ids documents
  unfolding read_postings
  postings_known zero place previous bytes e d m = absurd (rw (← ok_same e) at m)
  postings_known (suc n) place previous bytes e d m =
      let (p, is, f) = bind_gives (read_posting place documents previous bytes) _ e in
      let (more, has, g) = bind_gives (read_postings n (suc place) documents (Some p.got.doc) p.rest) _ f in
      step p (posting_known place previous bytes is) more.got (postings_known n (suc place) (Some p.got.doc) p.rest has d)
      (rw (← ok_same g) at m)
    where
      step : (p : Read Posting) → p.got.doc ∈ ids documents → (ps : List Posting) → (d ∈ docs ps → d ∈ ids documents)
          → d ∈ docs (p.got ∷ ps) → d ∈ ids documents
      step p here ps later (inl q) = rw q here
      step p here ps later (inr k) = later k

  pub decoded_known : (e : Entry) {ps : List Posting} → decode documents e ≡ Ok ps → (d : ℕ) → d ∈ docs ps → d ∈ ids documents
  unfolding decode all_postings
  decoded_known e is d m =
      let f = (check_gives (eqb (crc32_of e.list) e.checksum) _ _ is).1 in
      let (a, has, g) = bind_gives (read_postings e.df 0 documents None e.list) _ f in
      postings_known e.df 0 None e.list has d (rw (← ok_same (check_gives (eqb (length a.rest) 0) _ _ g).1) at m)
