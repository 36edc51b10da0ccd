-- Cursors spread over the metadata: a cursor that is advanced stays a mark, and a posting may be read from a mark that is not past it.
-- Assumes nothing.
use Rattle.std.specs.Prelude.{Some}
use mathlib.Core.Path.{◌≡◌, refl, ap, ◌∙◌}
use mathlib.Core.List.{List}
use mathlib.Core.Logic.{⊎_elim}
use Prim.Native.Nat.{ℕ, zero, suc, ◌≤◌, ◌<◌}
use native.Mathlib.Omega.{arith}
use lib.ListN.{length, drop, get_or, set, replicate, get_or-replicate}
use lib.Seq.{get_or-set_same, get_or-set_other}
use borrow.Author.Tests.{ne_eqb}
use Rattle.common.proofs.OneMore.{equal_or_not}
use Rattle.read_cursors.specs.declared.documents.Documents.{Documents}
use Rattle.segment.specs.Records.{Document}
use Rattle.segment.specs.Metadata.{length_of}
use Rattle.read_cursors.specs.Held.{rest_of}
use Rattle.read_cursors.specs.Steps.{documents_at, documents_from, AdvancedDocuments}
use Rattle.read_cursors.proofs.DocumentsHeld.{Rising, held_rise}
use Rattle.read_lists.specs.Steps.{no_cursor, Mark}

-- ---- a cursor that is advanced

module _ (s : List ℕ) (at id len : ℕ) where
  -- the documents after the cursor's say the same of every later id
  past : (remaining : ℕ) (i : ℕ) → id < i
      → length_of (rest_of (documents_at remaining at id len s)) i ≡ length_of (documents_at remaining at id len s) i
  unfolding documents_at length_of
  past zero i h = refl
  past (suc n) i h = rw (ne_eqb id i (λ e. omega arith))

  later : (remaining : ℕ) → Rising (suc id) (rest_of (documents_at remaining at id len s))
  unfolding documents_at
  later zero = tt
  later (suc n) = held_rise n (Some id) (drop at s)

  least : (low remaining : ℕ) → 0 < remaining → Rising low (documents_at remaining at id len s) → low ≤ id
  unfolding documents_at
  least low zero h r = absurd (omega arith)
  least low (suc n) h r = r.0

module _ (meta : List ℕ) (ds : List Document) where
  pub mark_start : (c : Documents) → documents_from meta c ≡ ds → Mark meta ds c
  mark_start c e id h = ap (λ (l : List Document). length_of l id) e

  pub mark_next : (c r : Documents) → AdvancedDocuments meta c r → Mark meta ds c → 0 < r.remaining → Mark meta ds r
  mark_next c r q m h id g =
      let up : suc c.id.0 ≤ r.id.0 =
      least meta r.at r.id.0 r.len (suc c.id.0) r.remaining h
      (rw q.list (later meta c.at c.id.0 c.len c.remaining)) in
      ap (λ (l : List Document). length_of l id) q.list ∙ past meta c.at c.id.0 c.len c.remaining id (omega arith)
      ∙ m id (omega arith)

  -- ---- a table of them

  abbrev pub AllMarks : List Documents → Type 0
  AllMarks marks = (k : ℕ) → k < 128 → Mark meta ds (get_or marks k no_cursor)

  pub all_first : (c : Documents) → Mark meta ds c → AllMarks (replicate 128 c)
  all_first c m k h = rw (get_or-replicate 128 k c no_cursor h) m

  pub all_set : (marks : List Documents) (j : ℕ) (c : Documents) → j < length marks → AllMarks marks → Mark meta ds c
      → AllMarks (set marks j c)
  all_set marks j c g old new k h =
      ⊎_elim
      (λ (e : k ≡ j). rw (e, get_or-set_same marks j c no_cursor g) new)
      (λ (e : k ≡ j → ⊥). rw (get_or-set_other marks j k c no_cursor e) (old k h))
      (equal_or_not k j)
