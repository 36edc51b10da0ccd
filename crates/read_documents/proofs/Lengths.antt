-- The calls on documents, from what the opening and a cursor over the metadata answered.
-- Assumes nothing.
use Rattle.std.specs.Prelude.{Err, None, Ok, Option, Some}
use mathlib.Core.Path.{◌≡◌, sym, ap, ◌∙◌}
use mathlib.Core.List.{List}
use Prim.Native.Nat.{ℕ, ◌≤◌, ◌<◌}
use lib.ListN.{length}
use borrow.Author.Tests.{le-leb, lt-leb}
use Rattle.segment.specs.declared.refusal.Refusal.{Refusal}
use Rattle.read_open.specs.declared.header.Layout.{Layout}
use Rattle.read_cursors.specs.declared.documents.Documents.{Documents}
use Rattle.segment.specs.Refusals.{no_room}
use Rattle.segment.specs.Records.{Document}
use Rattle.segment.specs.Metadata.{length_of}
use Rattle.segment.specs.Opening.{open_segment}
use Rattle.read_open.specs.Steps.{cut}
use Rattle.read_cursors.specs.Held.{held_documents}
use Rattle.read_cursors.specs.Steps.{documents_from, SoughtDocument}
use Rattle.read_open.specs.Opened.{Opens}
use Rattle.read_cursors.proofs.DocumentsHeld.{sought_found, sought_other}
use Rattle.calls.specs.Reads.{document_lengths, document_len}
use Rattle.calls.specs.Replies.{length_answer}
use Rattle.read_documents.specs.Promise.{LengthsAnswered}
use Rattle.read_documents.specs.Steps.{FilledDocuments}

-- the documents of a segment that opens
abbrev documents : List ℕ → Layout → List Document
documents bytes l = held_documents l.documents None (cut bytes l).metadata

-- ---- the length of one

pub len_shut : (bytes : List ℕ) (id : ℕ) {x : Refusal} → open_segment bytes ≡ Err x
    → Err x ≡ length_answer (document_len bytes id)
unfolding document_len
len_shut bytes id e = rw e

module _ (bytes : List ℕ) (l : Layout) (opens : Opens bytes (Ok l)) (id : ℕ) (first here : Documents)
    (starts : documents_from (cut bytes l).metadata first ≡ documents bytes l)
    (sought : SoughtDocument (cut bytes l).metadata id first here) where
  says : (o : Option ℕ) → length_of (documents_from (cut bytes l).metadata first) id ≡ o
      → length_answer (Ok o) ≡ length_answer (document_len bytes id)
  unfolding document_len
  says o e = rw (opens.1, ← opens.2.documents, ← starts, e)

  pub len_known : 0 < here.remaining → here.id.0 ≡ id → Ok (Some here.len) ≡ length_answer (document_len bytes id)
  len_known h e = says _ (sought_found _ _ _ _ sought h e)

  pub len_absent : (0 < here.remaining → here.id.0 ≡ id → ⊥) → Ok None ≡ length_answer (document_len bytes id)
  len_absent h = says _ (sought_other _ _ _ _ sought h)

-- ---- all of them

module _ (bytes : List ℕ) (l : Layout) (opens : Opens bytes (Ok l)) {n : ℕ} (is : n ≡ l.documents) where
  many : length opens.0.documents ≡ n
  many = opens.2.document_count ∙ sym is

  pub documents_many : length (documents bytes l) ≡ n
  documents_many = ap length opens.2.documents ∙ many

module _ (bytes ids lengths : List ℕ) where
  refused : {x : Refusal} → document_lengths bytes (length ids) (length lengths) ≡ Err x
      → LengthsAnswered bytes ids lengths (Err x) ids lengths
  refused e = record { reply = rw e; ids_left = rw e; lengths_left = rw e }

  pub lengths_shut : {x : Refusal} → open_segment bytes ≡ Err x → LengthsAnswered bytes ids lengths (Err x) ids lengths
  unfolding document_lengths
  lengths_shut e = refused (rw e)

  -- n documents
  module _ (l : Layout) (opens : Opens bytes (Ok l)) {n : ℕ} (is : n ≡ l.documents) where
    pub no_room_for_ids : length ids < n → LengthsAnswered bytes ids lengths (Err (no_room 1 n)) ids lengths
    unfolding document_lengths
    no_room_for_ids h = refused (rw (opens.1, many bytes l opens is, lt-leb n (length ids) h))

    module _ (room : n ≤ length ids) where
      pub no_room_for_lengths : length lengths < n → LengthsAnswered bytes ids lengths (Err (no_room 2 n)) ids lengths
      unfolding document_lengths
      no_room_for_lengths h = refused (rw (opens.1, many bytes l opens is, le-leb n (length ids) room, lt-leb n (length lengths) h))

      module _ (room₂ : n ≤ length lengths) where
        told : document_lengths bytes (length ids) (length lengths) ≡ Ok (documents bytes l)
        unfolding document_lengths
        told =
            rw (opens.1, many bytes l opens is, le-leb n (length ids) room, le-leb n (length lengths) room₂)
            (ap Ok (sym opens.2.documents))

        pub lengths_filled : {ids' lengths' : List ℕ} → FilledDocuments (documents bytes l) ids lengths ids' lengths'
            → LengthsAnswered bytes ids lengths (Ok n) ids' lengths'
        lengths_filled f = record {
          reply = rw told (ap Ok (sym (documents_many bytes l opens is)));
          ids_left = rw told f.ids_left;
          lengths_left = rw told f.lengths_left;
        }
