-- The table of lengths: every entry is true of the documents.
-- Assumes nothing.
use Rattle.std.specs.Prelude.{Some}
use mathlib.Core.Path.{◌≡◌, refl, sym, ◌∙◌}
use mathlib.Core.List.{List}
use mathlib.Core.Logic.{⊎_elim}
use Prim.Native.Nat.{ℕ, zero, suc, ◌+◌, ◌*◌, ◌/◌, ◌%◌, ◌^◌, ◌≤◌, ◌<◌}
use native.Mathlib.Omega.{arith}
use borrow.Author.Tests.{eq-eqb}
use lib.ListN.{length, get_or, set, replicate, get_or-replicate, length-replicate, get_or-eq_default}
use lib.Seq.{get_or-set_same, get_or-set_other, set_out}
use Rattle.common.proofs.Loops.{lt_or_ge}
use Rattle.common.proofs.OneMore.{equal_or_not}
use Rattle.segment.specs.Records.{Document}
use Rattle.segment.specs.Metadata.{length_of}
use Rattle.read_cursors.specs.declared.documents.Documents.{Documents}
use Rattle.read_cursors.specs.Steps.{documents_at, AdvancedDocuments}
use Rattle.read_lists.proofs.MarksHeld.{mark_next}
use Rattle.read_many.specs.Steps.{Truth, Truthful, MarkHere}

pub entry_true : (documents : List Document) (id len entry : ℕ) → entry ≡ id * 2 ^ 32 + len → len < 2 ^ 32
    → length_of documents id ≡ Some len → Truth documents entry
entry_true documents id len entry e small known h =
    let a : entry / 2 ^ 32 ≡ id = omega arith in
    let b : entry % 2 ^ 32 ≡ len = omega arith in
    rw (a, b) known

pub truthful_set : (documents : List Document) (table : List ℕ) (k entry : ℕ) → Truthful documents table → Truth documents entry
    → Truthful documents (set table k entry)
truthful_set documents table k entry t new = record {
  each = λ j.
      ⊎_elim
      (λ (h : k < length table). ⊎_elim
      (λ (e : j ≡ k). rw (e, get_or-set_same table k entry 0 h) new)
      (λ (e : j ≡ k → ⊥). rw (get_or-set_other table k j entry 0 e) (t.each j))
      (equal_or_not j k))
      (λ (h : length table ≤ k). rw (set_out table k entry h) (t.each j))
      (lt_or_ge k (length table));
}

pub truthful_empty : (documents : List Document) (n : ℕ) → Truthful documents (replicate n 0)
truthful_empty documents n = record { each = λ j. rw (nothing j) (λ h. absurd (omega arith)) }
  where
    nothing : (j : ℕ) → ◌≡◌ {A = ℕ} (get_or (replicate n 0) j 0) 0
    nothing j =
        ⊎_elim
        (λ (h : j < n). get_or-replicate n j 0 0 h)
        (λ (h : n ≤ j). get_or-eq_default (replicate n 0) 0 (omega (arith, length-replicate {A = ℕ} n 0)))
        (lt_or_ge j n)

-- ---- a block's documents put into the table

-- the document at a cursor is known
at_mark : (meta : List ℕ) (at id len remaining : ℕ) → 0 < remaining → length_of (documents_at remaining at id len meta) id ≡ Some len
unfolding documents_at length_of
at_mark meta at id len zero h = absurd (omega arith)
at_mark meta at id len (suc n) h = rw (eq-eqb id id refl)

pub record Filling (meta : List ℕ) (c r : Documents) (before after : List ℕ) : Type 0 where
  pub small : r.len < 2 ^ 32
  pub fewer : r.remaining ≤ c.remaining
  pub moved : c.remaining ≤ r.remaining → r.id.0 ≡ c.id.0
  pub stays : (documents : List Document) → MarkHere meta documents c → Truthful documents before → Truthful documents after
  pub marks : (documents : List Document) → MarkHere meta documents c → MarkHere meta documents r

module _ {meta : List ℕ} {c r : Documents} {before after : List ℕ} (f : Filling meta c r before after) where
  pub filling_next : (k entry : ℕ) {next : Documents} → 0 < r.remaining → entry ≡ r.id.0 * 2 ^ 32 + r.len → next.len < 2 ^ 32
      → AdvancedDocuments meta r next → Filling meta c next before (set after k entry)
  filling_next k entry {next} h e small a = record {
    small = small;
    fewer = omega (arith, f.fewer, a.less);
    moved = λ g. absurd (omega (arith, f.fewer, a.less));
    stays = λ documents m t. truthful_set documents after k entry (f.stays documents m t)
        (entry_true documents r.id.0 r.len entry e f.small
        (sym (f.marks documents m h r.id.0 (omega arith)) ∙ at_mark meta r.at r.id.0 r.len r.remaining h));
    marks = λ documents m. mark_next meta documents r next a (f.marks documents m h);
  }
