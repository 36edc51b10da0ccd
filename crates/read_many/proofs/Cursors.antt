-- Cursors of many lists side by side.
-- Assumes nothing.
use Rattle.std.specs.Prelude.{Some}
use mathlib.Core.Path.{◌≡◌, sym}
use mathlib.Core.List.{List, [], ◌∷◌}
use mathlib.Core.Logic.{⊎_elim}
use Prim.Native.Nat.{ℕ, zero, suc, ◌+◌, ◌-◌, ◌≤◌, ◌<◌}
use native.Mathlib.Nat.{sub-zero}
use native.Mathlib.Omega.{arith}
use lib.ListN.{length, take, drop, get_or, set}
use lib.Seq.{get_or-set_same, get_or-set_other, take-nil}
use Rattle.common.proofs.Loops.{lt_or_ge}
use Rattle.leb128.specs.declared.varint.Number.{Number}
use Rattle.leb128.specs.Promise.{decoded_at}
use Rattle.segment.specs.Records.{Document}
use Rattle.read_cursors.specs.declared.documents.Documents.{Documents}
use Rattle.read_many.specs.declared.postings.Cursor.{Cursor}
use Rattle.read_many.proofs.Passing.{first_posting}
use Rattle.read_many.specs.Steps.{no_cursor, SureList, Entered, Truthful, MarkHere}

-- the rest of a part is a part of the rest
pub drop_take : {A : Type 0} (a e : ℕ) (l : List A) → drop a (take e l) ≡ take (e - a) (drop a l)
drop_take zero e l = rw sub-zero
drop_take (suc a) zero l = let z : 0 - suc a ≡ 0 = omega arith in rw z
drop_take (suc a) (suc e) [] = sym (take-nil (suc e - suc a))
drop_take (suc a) (suc e) (x ∷ l) = let z : suc e - suc a ≡ e - a = omega arith in rw z (drop_take a e l)

-- ---- one more list that is entered

module _ {bytes starts ends dfs : List ℕ} {cursors : List Cursor} {k : ℕ} (e : Entered bytes k starts ends dfs cursors) where
  pub entered_next : {n : Number} → k < length cursors → get_or ends k 0 ≤ length bytes → 0 < get_or dfs k 0
      → decoded_at (take (get_or ends k 0) bytes) (get_or starts k 0) ≡ Some n
      → Entered bytes (k + 1) starts ends dfs (set cursors k (record { at = n.next.at; doc = n.value; remaining = get_or dfs k 0 }))
  entered_next {n} in_cursors fits some_left found =
      let r : Cursor = record { at = n.next.at; doc = n.value; remaining = get_or dfs k 0 } in
      record {
        inside = λ j h.
            ⊎_elim (λ (b : j < k). e.inside j b) (λ (b : k ≤ j). let s : j ≡ k = omega arith in rw s fits) (lt_or_ge j k);
        decodes = λ documents j h s.
            ⊎_elim
            (λ (b : j < k). e.decodes documents j b (rw (get_or-set_other cursors k j r no_cursor (λ z. omega arith)) at s))
            (λ (b : k ≤ j). let z : j ≡ k = omega arith in
            rw (z, ← drop_take (get_or starts k 0) (get_or ends k 0) bytes)
            (first_posting documents (take (get_or ends k 0) bytes) (get_or starts k 0) found (get_or dfs k 0) some_left
            (rw (z, get_or-set_same cursors k r no_cursor in_cursors) at s)))
            (lt_or_ge j k);
      }

-- ---- lists through block after block: the table stays true, and what is in order from here on was so from the start

pub record Blocks (documents : List Document) (bytes meta ends : List ℕ) (first cursors : List Cursor) (table : List ℕ) (here : Documents)
    : Type 0 where
  pub truthful : Truthful documents table
  pub mark : MarkHere meta documents here
  pub sure : (k : ℕ) → SureList documents bytes ends cursors k → SureList documents bytes ends first k
