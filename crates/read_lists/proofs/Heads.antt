-- A posting up to its positions, in the order of the code's tests.
-- Assumes nothing.
use Rattle.std.specs.Prelude.{Err, None, Ok, Option, Some}
use Rattle.segment.specs.Results.{Answer}
use mathlib.Core.Path.{◌≡◌, sym, ap, ◌∙◌}
use mathlib.Core.List.{List}
use Prim.Native.Nat.{ℕ}
use native.Mathlib.Omega.{arith}
use lib.ListN.{drop}
use borrow.Author.Tests.{lt-ltb, le-ltb}
use Rattle.leb128.specs.declared.varint.Number.{Number}
use Rattle.leb128.specs.Promise.{decoded_at}
use Rattle.segment.specs.declared.refusal.Refusal.{Refusal}
use Rattle.segment.specs.Refusals.{postings, invalid_varint, doc_id_overflow, invalid_layout, non_increasing_posting_id, unknown_document}
use Rattle.segment.specs.Refusals.{empty_position_list}
use Rattle.segment.specs.Records.{Document}
use Rattle.segment.specs.Metadata.{length_of}
use Rattle.segment.specs.Postings.{read_value, read_head}
use Rattle.read_cursors.specs.Steps.{value_means}
use Rattle.read_cursors.proofs.Gaps.{number_refused, number_value}

module _ (list : List ℕ) (at place : ℕ) (previous : Option ℕ) (ds : List Document) (v : Answer Number)
    (answer : value_means list v
    ≡ read_value (doc_id_overflow place) (invalid_layout non_increasing_posting_id) place previous (drop at list)) where
  pub head_refused : {x : Refusal} → v ≡ Err x → Err x ≡ read_head place ds previous (drop at list)
  unfolding read_head
  head_refused e = rw (← answer, e)

  pub value_found : {n : Number} → v ≡ Ok n
      → read_value (doc_id_overflow place) (invalid_layout non_increasing_posting_id) place previous (drop at list)
      ≡ Ok (record { got = n.value; rest = drop n.next.at list })
  value_found e = sym answer ∙ ap (value_means list) e

-- a value was read, and the metadata asked for a document of that id
pub record Asked (list : List ℕ) (at place : ℕ) (previous : Option ℕ) (ds : List Document) (n : Number) (o : Option ℕ) : Type 0 where
  pub value : read_value (doc_id_overflow place) (invalid_layout non_increasing_posting_id) place previous (drop at list)
      ≡ Ok (record { got = n.value; rest = drop n.next.at list })
  pub length : length_of ds n.value ≡ o

module _ {list : List ℕ} {at place : ℕ} {previous : Option ℕ} {ds : List Document} {n : Number} where
  pub head_unknown : Asked list at place previous ds n None
      → Err (invalid_layout unknown_document) ≡ read_head place ds previous (drop at list)
  unfolding read_head
  head_unknown q = rw (q.value, q.length)

  module _ {len : ℕ} (q : Asked list at place previous ds n (Some len)) where
    pub head_uncounted : decoded_at list n.next.at ≡ None
        → Err (invalid_varint postings place) ≡ read_head place ds previous (drop at list)
    unfolding read_head
    head_uncounted f = rw (q.value, q.length, number_refused list n.next.at postings place f)

    module _ {c : Number} (f : decoded_at list n.next.at ≡ Some c) where
      pub head_empty : c.value ≡ 0 → Err (invalid_layout empty_position_list) ≡ read_head place ds previous (drop at list)
      unfolding read_head
      head_empty k = rw (q.value, q.length, number_value list n.next.at postings place f, le-ltb 0 c.value (omega arith))

      pub head_next : (c.value ≡ 0 → ⊥)
          → Ok (record { got = record { doc = n.value; len = len; count = c.value }; rest = drop c.next.at list })
          ≡ read_head place ds previous (drop at list)
      unfolding read_head
      head_next k = rw (q.value, q.length, number_value list n.next.at postings place f, lt-ltb 0 c.value (omega arith))
