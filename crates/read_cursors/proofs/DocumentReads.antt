-- A document read, in the order of the code's tests.
-- Assumes nothing.
use Rattle.std.specs.Prelude.{Err, None, Ok, Option, Some}
use mathlib.Core.Path.{◌≡◌, refl, ap, ◌∙◌}
use mathlib.Core.List.{List}
use Prim.Native.Nat.{ℕ, ◌+◌, ◌^◌, ◌≤◌, ◌<◌}
use lib.Dec.{ltb}
use lib.ListN.{drop}
use borrow.Author.Tests.{lt-ltb, le-ltb}
use Rattle.leb128.specs.declared.varint.Number.{Number}
use Rattle.leb128.specs.Leb128.{stored}
use Rattle.leb128.specs.Promise.{decoded_at}
use Rattle.segment.specs.Refusals.{document_metadata, invalid_varint, doc_id_overflow, invalid_layout, non_increasing_document_id}
use Rattle.segment.specs.Results.{check}
use Rattle.segment.specs.Records.{Document, Read, number, at_gap}
use Rattle.segment.specs.Metadata.{document, read_document}
use Rattle.segment.proofs.Binds.{carried, carried_ok, carried_bind, carried_check}
use Rattle.read_cursors.proofs.Gaps.{number_refused, number_value, number_taken, carried_number}

module _ (place : ℕ) (s : List ℕ) (at : ℕ) where
  pub document_none : (previous : Option ℕ) → decoded_at s at ≡ None
      → Err (invalid_varint document_metadata place) ≡ read_document place previous (drop at s)
  unfolding read_document
  document_none previous e = rw (number_refused s at document_metadata place e)

  module _ {g : Number} (e : decoded_at s at ≡ Some g) where
    pub document_half : (previous : Option ℕ) → decoded_at s g.next.at ≡ None
        → Err (invalid_varint document_metadata place) ≡ read_document place previous (drop at s)
    unfolding read_document
    document_half previous f = rw (number_value s at document_metadata place e, number_refused s g.next.at document_metadata place f)

    module _ {l : Number} (f : decoded_at s g.next.at ≡ Some l) where
      pub document_first : Ok (record { got = document g.value l.value; rest = drop l.next.at s })
          ≡ read_document place None (drop at s)
      unfolding read_document
      document_first =
          rw (
            number_value s at document_metadata place e,
            number_value s g.next.at document_metadata place f,
            lt-ltb g.value (2 ^ 32) (number_taken s at e).small,
          )

      module _ (p : ℕ) where
        pub document_over : 2 ^ 32 ≤ p + g.value → Err (doc_id_overflow place) ≡ read_document place (Some p) (drop at s)
        unfolding read_document
        document_over h =
            rw (
              number_value s at document_metadata place e,
              number_value s g.next.at document_metadata place f,
              le-ltb (p + g.value) (2 ^ 32) h,
            )

        module _ (h : p + g.value < 2 ^ 32) where
          pub document_low : p + g.value ≤ p
              → Err (invalid_layout non_increasing_document_id) ≡ read_document place (Some p) (drop at s)
          unfolding read_document
          document_low k =
              rw (
                number_value s at document_metadata place e,
                number_value s g.next.at document_metadata place f,
                lt-ltb (p + g.value) (2 ^ 32) h,
                le-ltb p (p + g.value) k,
              )

          pub document_next : p < p + g.value
              → Ok (record { got = document (p + g.value) l.value; rest = drop l.next.at s })
              ≡ read_document place (Some p) (drop at s)
          unfolding read_document
          document_next k =
              rw (
                number_value s at document_metadata place e,
                number_value s g.next.at document_metadata place f,
                lt-ltb (p + g.value) (2 ^ 32) h,
                lt-ltb p (p + g.value) k,
              )

-- the index of a document shows in refusals alone
pub any_place : (i j : ℕ) (previous : Option ℕ) (bytes : List ℕ)
    → carried (read_document i previous bytes) ≡ carried (read_document j previous bytes)
unfolding read_document
any_place i j previous bytes =
    let m = document_metadata in
    carried_bind (number m i bytes) (number m j bytes) _ _ (carried_number m i j bytes (stored bytes))
    (λ g.
    let t = ltb (at_gap previous g.got) (2 ^ 32) in
    carried_bind (number m i g.rest) (number m j g.rest) _ _ (carried_number m i j g.rest (stored g.rest))
    (λ l.
    carried_bind (check t (doc_id_overflow i)) (check t (doc_id_overflow j)) _ _ (carried_check t (doc_id_overflow i) (doc_id_overflow j))
    (λ u. refl)))

pub elsewhere : (i j : ℕ) (previous : Option ℕ) (bytes : List ℕ) {d : Read Document} → read_document i previous bytes ≡ Ok d
    → read_document j previous bytes ≡ Ok d
elsewhere i j previous bytes e = carried_ok (read_document j previous bytes) (any_place j i previous bytes ∙ ap carried e)
