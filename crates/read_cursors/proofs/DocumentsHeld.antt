-- The documents that the bytes hold: those of an accepted metadata; their ids rise; their lengths by id, from a cursor that was sought.
-- Assumes nothing.
use Rattle.std.specs.Prelude.{Err, None, Ok, Option, Some}
use mathlib.Core.Path.{◌≡◌, refl, sym, ap, ◌∙◌}
use mathlib.Core.List.{List, [], ◌∷◌}
use mathlib.Core.Bool.{Bool, true, false, cond}
use mathlib.Core.Logic.{⊎_elim}
use Prim.Native.Nat.{ℕ, zero, suc, ◌^◌, ◌≤◌, ◌<◌}
use native.Mathlib.Omega.{arith}
use lib.Dec.{ltb, eqb}
use lib.ListN.{length, drop}
use borrow.Author.Tests.{ltb-true, lt-ltb, le-ltb, eqb-true, eq-eqb, ne_eqb}
use Rattle.common.proofs.Loops.{lt_or_ge}
use Rattle.read_cursors.specs.declared.documents.Documents.{Documents}
use Rattle.segment.specs.Refusals.{document_metadata, doc_id_overflow, invalid_layout, non_increasing_document_id}
use Rattle.segment.specs.Refusals.{trailing_document_metadata}
use Rattle.segment.specs.Results.{Answer, check}
use Rattle.segment.specs.Records.{Document, Read, number, at_gap, rises}
use Rattle.segment.specs.Metadata.{document, read_document, read_documents, metadata, length_of}
use Rattle.read_cursors.specs.Held.{seek_in, on_document, held_documents}
use Rattle.read_cursors.specs.Steps.{documents_at, documents_from, SoughtDocument}
use Rattle.segment.proofs.Binds.{ok_same, bind_gives, both_gives}
use Rattle.read_cursors.proofs.Gaps.{number_given}
use Rattle.read_cursors.proofs.DocumentReads.{elsewhere}

-- ---- what was read in order is what the bytes hold

read_all : (n place : ℕ) (previous : Option ℕ) (bytes : List ℕ) {all : Read (List Document)}
    → read_documents n place previous bytes ≡ Ok all
    → (held_documents n previous bytes ≡ all.got) × (length all.got ≡ n)
unfolding read_documents held_documents
read_all zero place previous bytes {all} e =
    let f = ap (λ (x : Read (List Document)). x.got) (ok_same e) in
    (f, sym (ap length f))
read_all (suc n) place previous bytes {all} e =
    let (d, is, f) = bind_gives (read_document place previous bytes) _ e in
    let (more, are, g) = bind_gives (read_documents n (suc place) (Some d.got.id) d.rest) _ f in
    let h = ap (λ (x : Read (List Document)). x.got) (ok_same g) in
    let ih = read_all n (suc place) (Some d.got.id) d.rest are in
    (rw (elsewhere place 0 previous bytes is) (ap (λ ds. d.got ∷ ds) ih.0 ∙ h), sym (ap length h) ∙ ap suc ih.1)

pub metadata_held : (n : ℕ) (bytes : List ℕ) {ds : List Document} → metadata n bytes ≡ Ok ds
    → (held_documents n None bytes ≡ ds) × (length ds ≡ n)
unfolding metadata
metadata_held n bytes e =
    let (all, are, f) = bind_gives (read_documents n 0 None bytes) _ e in
    let (u, _, g) = bind_gives (check (eqb (length all.rest) 0) (invalid_layout trailing_document_metadata)) _ f in
    let (h, k) = read_all n 0 None bytes are in
    (h ∙ ok_same g, ap length (sym (ok_same g)) ∙ k)

-- ---- ids rise, and like the lengths have 32 bits

abbrev pub Rising : (low : ℕ) → List Document → Type 0
Rising low [] = Unit {0}
Rising low (d ∷ ds) = (low ≤ d.id) × (d.id < 2 ^ 32) × (d.len < 2 ^ 32) × Rising (suc d.id) ds

-- the least id that may follow
abbrev pub above : Option ℕ → ℕ
above None = 0
above (Some p) = suc p

rises_above : (previous : Option ℕ) (v : ℕ) → rises previous v ≡ true → above previous ≤ v
rises_above None v e = omega arith
rises_above (Some p) v e = ltb-true p v e

document_bounds : (i : ℕ) (previous : Option ℕ) (bytes : List ℕ) {d : Read Document} → read_document i previous bytes ≡ Ok d
    → (above previous ≤ d.got.id) × (d.got.id < 2 ^ 32) × (d.got.len < 2 ^ 32)
unfolding read_document
document_bounds i previous bytes {d} e =
    let (g, is, f) = bind_gives (number document_metadata i bytes) _ e in
    let (l, its, h) = bind_gives (number document_metadata i g.rest) _ f in
    let v = at_gap previous g.got in
    let (a, b, k) = both_gives (ltb v (2 ^ 32)) (rises previous v) (doc_id_overflow i) (invalid_layout non_increasing_document_id)
    (record { got = document v l.got; rest = l.rest }) h in
    let id : v ≡ d.got.id = ap (λ (x : Read Document). x.got.id) k in
    let len : l.got ≡ d.got.len = ap (λ (x : Read Document). x.got.len) k in (
      rw id at (rises_above previous v b),
      rw id at (ltb-true v (2 ^ 32) a),
      rw len at (number_given document_metadata i g.rest its).small,
    )

held_rise_on : (n : ℕ) (previous : Option ℕ) (bytes : List ℕ) (r : Answer (Read Document)) → read_document 0 previous bytes ≡ r
    → ((id : ℕ) (rest : List ℕ) → Rising (suc id) (held_documents n (Some id) rest))
    → Rising (above previous) (on_document (λ id rest. held_documents n (Some id) rest) r)
held_rise_on n previous bytes (Ok d) e ih =
    let (a, b, c) = document_bounds 0 previous bytes e in
    (a, b, c, ih d.got.id d.rest)
held_rise_on n previous bytes (Err x) e ih = tt

pub held_rise : (n : ℕ) (previous : Option ℕ) (bytes : List ℕ) → Rising (above previous) (held_documents n previous bytes)
unfolding held_documents
held_rise zero previous bytes = tt
held_rise (suc n) previous bytes =
    held_rise_on n previous bytes (read_document 0 previous bytes) refl (λ id rest. held_rise n (Some id) rest)

-- ---- lengths by id

pub length_sought : (t id : ℕ) → t ≤ id → (ds : List Document) → length_of (seek_in (λ (d : Document). d.id) t ds) id ≡ length_of ds id
unfolding length_of
length_sought t id h [] = refl
length_sought t id h (d ∷ ds) =
    ⊎_elim
    (λ (k : d.id < t). rw (lt-ltb d.id t k, ne_eqb d.id id (λ e. omega arith)) (length_sought t id h ds))
    (λ (k : t ≤ d.id). rw (le-ltb d.id t k))
    (lt_or_ge d.id t)

length_below : (low id : ℕ) (ds : List Document) → Rising low ds → id < low → length_of ds id ≡ None
unfolding length_of
length_below low id [] r h = refl
length_below low id (d ∷ ds) r h = rw (ne_eqb d.id id (λ e. omega arith)) (length_below (suc d.id) id ds r.3 (omega arith))

-- a known id has 32 bits
pub known_small : (low : ℕ) (ds : List Document) → Rising low ds → (id : ℕ) {len : ℕ} → length_of ds id ≡ Some len → id < 2 ^ 32
unfolding length_of
known_small low [] r id e = let z : ◌≡◌ {A = ℕ} 0 1 = cc in absurd (omega arith)
known_small low (d ∷ ds) r id {len} e = by (eqb d.id id) refl e (λ f. known_small (suc d.id) ds r.3 id f)
  where
    by : (t : Bool) → eqb d.id id ≡ t → cond t (Some d.len) (length_of ds id) ≡ Some len
        → (length_of ds id ≡ Some len → id < 2 ^ 32)
        → id < 2 ^ 32
    by true is e later = rw (← eqb-true d.id id is) r.1
    by false is e later = later e

-- the length at a cursor
module _ (s : List ℕ) (at id len : ℕ) where
  at_found : (remaining : ℕ) → 0 < remaining → length_of (documents_at remaining at id len s) id ≡ Some len
  unfolding documents_at length_of
  at_found zero h = absurd (omega arith)
  at_found (suc n) h = rw (eq-eqb id id refl)

  at_other : (remaining t : ℕ) → (0 < remaining → t < id) → length_of (documents_at remaining at id len s) t ≡ None
  unfolding documents_at length_of
  at_other zero t h = refl
  at_other (suc n) t h =
      let k : t < id = h (omega arith) in
      rw (ne_eqb id t (λ e. omega arith))
      (length_below (suc id) t (held_documents n (Some id) (drop at s)) (held_rise n (Some id) (drop at s)) (omega arith))

-- a cursor sought: it says of every later document what the old one said, and of the sought one all there is to say
module _ (bytes : List ℕ) (id : ℕ) (c r : Documents) (q : SoughtDocument bytes id c r) where
  pub sought_later : (i : ℕ) → id ≤ i → length_of (documents_from bytes r) i ≡ length_of (documents_from bytes c) i
  sought_later i h = ap (λ ds. length_of ds i) q.list ∙ length_sought id i h (documents_from bytes c)

  pub sought_found : 0 < r.remaining → r.id.0 ≡ id → length_of (documents_from bytes c) id ≡ Some r.len
  sought_found h e = sym (sought_later id (omega arith)) ∙ rw (← e) (at_found bytes r.at r.id.0 r.len r.remaining h)

  pub sought_other : (0 < r.remaining → r.id.0 ≡ id → ⊥) → length_of (documents_from bytes c) id ≡ None
  sought_other h =
      sym (sought_later id (omega arith))
      ∙ at_other bytes r.at r.id.0 r.len r.remaining id (λ k. omega (arith, q.reached k, h k))
