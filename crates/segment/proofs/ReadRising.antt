-- What was read rises: the ids of a segment's documents, the documents of a list that decodes, and the positions of each of its postings.
-- Assumes nothing.
use Rattle.std.specs.Prelude.{None, Ok, Option, Some}
use mathlib.Core.Path.{◌≡◌}
use mathlib.Core.Bool.{true}
use mathlib.Core.List.{List, map}
use Prim.Native.Nat.{ℕ, zero, suc, ◌^◌}
use lib.Dec.{ltb, eqb}
use lib.ListN.{length}
use Rattle.common.specs.Elements.{◌∈◌, Rising}
use Rattle.common.proofs.Elements.{each}
use Rattle.crc32.specs.Crc32.{crc32_of}
use Rattle.segment.specs.declared.refusal.Refusal.{Refusal}
use Rattle.segment.specs.Refusals.{postings, document_metadata, doc_id_overflow, position_overflow, invalid_layout}
use Rattle.segment.specs.Refusals.{non_increasing_document_id, non_increasing_posting_id, non_increasing_position}
use Rattle.segment.specs.Records.{Document, Posting, Entry, Segment, Read, number, at_gap, rises}
use Rattle.segment.specs.Metadata.{document, read_document, read_documents, metadata, length_of}
use Rattle.segment.specs.Postings.{Head, known, read_value, read_position, read_positions, read_head, read_posting, read_postings}
use Rattle.segment.specs.Postings.{all_postings, decode}
use Rattle.segment.specs.Directory.{directory}
use Rattle.segment.specs.Opening.{sections, checksums, contents, open_segment}
use Rattle.segment.proofs.Binds.{ok_same, bind_gives, both_gives}
use Rattle.segment.proofs.Accepted.{check_gives}
use Rattle.segment.proofs.After.{After, after_none, after_cons}

abbrev ids : List Document → List ℕ
ids ds = map (λ d. d.id) ds

abbrev docs : List Posting → List ℕ
docs ps = map (λ p. p.doc) ps

-- ---- documents

document_rises : (place : ℕ) (previous : Option ℕ) (bytes : List ℕ) {d : Read Document} → read_document place previous bytes ≡ Ok d
    → rises previous d.got.id ≡ true
unfolding read_document
document_rises place previous bytes e =
    let (g, _, f) = bind_gives (number document_metadata place bytes) _ e in
    let (l, _, h) = bind_gives (number document_metadata place g.rest) _ f in
    let v = at_gap previous g.got in
    let (_, up, k) = both_gives (ltb v (2 ^ 32)) (rises previous v) (doc_id_overflow place) (invalid_layout non_increasing_document_id)
    (record { got = document v l.got; rest = l.rest }) h in
    rw (← k) up

documents_rise : (n place : ℕ) (previous : Option ℕ) (bytes : List ℕ) {all : Read (List Document)}
    → read_documents n place previous bytes ≡ Ok all → After previous (ids all.got)
unfolding read_documents
documents_rise zero place previous bytes e = rw (← ok_same e) (after_none previous)
documents_rise (suc n) place previous bytes e =
    let (d, is, f) = bind_gives (read_document place previous bytes) _ e in
    let (more, are, g) = bind_gives (read_documents n (suc place) (Some d.got.id) d.rest) _ f in
    rw (← ok_same g)
    (after_cons previous d.got.id (ids more.got) (document_rises place previous bytes is)
    (documents_rise n (suc place) (Some d.got.id) d.rest are))

metadata_rises : (n : ℕ) (bytes : List ℕ) {ds : List Document} → metadata n bytes ≡ Ok ds → Rising (ids ds)
unfolding metadata
metadata_rises n bytes e =
    let (all, are, f) = bind_gives (read_documents n 0 None bytes) _ e in
    rw (← ok_same (check_gives (eqb (length all.rest) 0) _ _ f).1) (documents_rise n 0 None bytes are)

pub opened_rises : (bytes : List ℕ) {s : Segment} → open_segment bytes ≡ Ok s → Rising (map (λ d. d.id) s.documents)
unfolding open_segment contents
opened_rises bytes e =
    let (c, _, f) = bind_gives (sections bytes) _ e in
    let (_, _, g) = bind_gives (checksums bytes c) _ f in
    let (ds, are, h) = bind_gives (metadata c.documents c.metadata) _ g in
    let (_, _, k) = bind_gives (directory c.terms c.directory c.names c.lists) _ h in
    rw (← ok_same k) (metadata_rises c.documents c.metadata are)

-- ---- a list that decodes

value_rises : (overflow order : Refusal) (index : ℕ) (previous : Option ℕ) (bytes : List ℕ) {a : Read ℕ}
    → read_value overflow order index previous bytes ≡ Ok a → rises previous a.got ≡ true
unfolding read_value
value_rises overflow order index previous bytes e =
    let (g, _, f) = bind_gives (number postings index bytes) _ e in
    let v = at_gap previous g.got in
    let (_, up, k) = both_gives (ltb v (2 ^ 32)) (rises previous v) overflow order (record { got = v; rest = g.rest }) f in
    rw (← k) up

position_rises : (index len : ℕ) (previous : Option ℕ) (bytes : List ℕ) {a : Read ℕ} → read_position index len previous bytes ≡ Ok a
    → rises previous a.got ≡ true
unfolding read_position
position_rises index len previous bytes e =
    let (p, is, f) = bind_gives (read_value (position_overflow index) (invalid_layout non_increasing_position) index previous bytes) _ e in
    rw (← ok_same (check_gives (ltb p.got len) _ _ f).1) (value_rises _ _ index previous bytes is)

positions_rise : (n index len : ℕ) (previous : Option ℕ) (bytes : List ℕ) {a : Read (List ℕ)}
    → read_positions n index len previous bytes ≡ Ok a → After previous a.got
unfolding read_positions
positions_rise zero index len previous bytes e = rw (← ok_same e) (after_none previous)
positions_rise (suc n) index len previous bytes e =
    let (p, is, f) = bind_gives (read_position index len previous bytes) _ e in
    let (more, are, g) = bind_gives (read_positions n (suc index) len (Some p.got) p.rest) _ f in
    rw (← ok_same g)
    (after_cons previous p.got more.got (position_rises index len previous bytes is)
    (positions_rise n (suc index) len (Some p.got) p.rest are))

module _ (documents : List Document) where
  head_rises : (place : ℕ) (previous : Option ℕ) (bytes : List ℕ) {h : Read Head} → read_head place documents previous bytes ≡ Ok h
      → rises previous h.got.doc ≡ true
  unfolding read_head
  head_rises place previous bytes e =
      let (doc, is, f) = bind_gives (read_value (doc_id_overflow place) (invalid_layout non_increasing_posting_id) place previous bytes)
      _ e in
      let (len, _, g) = bind_gives (known (length_of documents doc.got)) _ f in
      let (count, _, i) = bind_gives (number postings place doc.rest) _ g in
      rw (← ok_same (check_gives (ltb 0 count.got) _ _ i).1) (value_rises _ _ place previous bytes is)

  posting_rises : (place : ℕ) (previous : Option ℕ) (bytes : List ℕ) {p : Read Posting} → read_posting place documents previous bytes ≡ Ok p
      → (rises previous p.got.doc ≡ true) × Rising p.got.positions
  unfolding read_posting
  posting_rises place previous bytes e =
      let (h, is, f) = bind_gives (read_head place documents previous bytes) _ e in
      let (all, are, g) = bind_gives (read_positions h.got.count place h.got.len None h.rest) _ f in
      rw (← ok_same g) (head_rises place previous bytes is, positions_rise h.got.count place h.got.len None h.rest are)

  -- the documents rise, and each one's positions
  abbrev BothRise : Option ℕ → List Posting → Type 0
  BothRise previous ps = After previous (docs ps) × ((p : Posting) → p ∈ ps → Rising p.positions)

  postings_rise : (n place : ℕ) (previous : Option ℕ) (bytes : List ℕ) {a : Read (List Posting)}
      → read_postings n place documents previous bytes ≡ Ok a → BothRise previous a.got
  unfolding read_postings
  postings_rise zero place previous bytes e = rw (← ok_same e) (after_none previous, λ p m. absurd m)
  postings_rise (suc n) place previous bytes e =
      let (p, is, f) = bind_gives (read_posting place documents previous bytes) _ e in
      let (more, are, g) = bind_gives (read_postings n (suc place) documents (Some p.got.doc) p.rest) _ f in
      let (up, own) = posting_rises place previous bytes is in
      let (after, others) = postings_rise n (suc place) (Some p.got.doc) p.rest are in
      rw (← ok_same g) (
        after_cons previous p.got.doc (docs more.got) up after,
        each (λ q. Rising q.positions) p.got more.got own others,
      )

  all_rise : (df : ℕ) (bytes : List ℕ) {ps : List Posting} → all_postings df documents bytes ≡ Ok ps → BothRise None ps
  unfolding all_postings
  all_rise df bytes e =
      let (all, are, f) = bind_gives (read_postings df 0 documents None bytes) _ e in
      rw (← ok_same (check_gives (eqb (length all.rest) 0) _ _ f).1) (postings_rise df 0 None bytes are)

  pub decoded_rises : (e : Entry) {ps : List Posting} → decode documents e ≡ Ok ps
      → Rising (map (λ p. p.doc) ps) × ((p : Posting) → p ∈ ps → Rising p.positions)
  unfolding decode
  decoded_rises e is = all_rise e.df e.list (check_gives (eqb (crc32_of e.list) e.checksum) _ _ is).1
