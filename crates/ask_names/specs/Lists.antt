-- The lists of the terms that a question's names name: decoded in turn, and the rarest put first.
use Rattle.std.specs.Prelude.{None, Ok, ℕ, ◌<◌, ◌≡◌, cond, List, [], ◌∷◌, eqb, length, get_or}
use Rattle.segment.specs.Results.{Answer, ◌>>=◌}
use Rattle.segment.specs.Records.{Document}
use Rattle.segment.specs.Postings.{decode}
use Rattle.segment.specs.Steps.{checked}
use Rattle.read_cursors.specs.Held.{held_documents}
use Rattle.read_open.specs.declared.header.Layout.{Layout}
use Rattle.read_open.specs.Steps.{SectionsFollow, cut}
use Rattle.read_terms.specs.declared.find.TermList.{TermList}
use Rattle.read_terms.specs.Steps.{ListInside, list_entry}
use Rattle.ask_names.specs.declared.slots.Names.{Names}
use Rattle.ask_names.specs.Steps.{no_list}

-- the lists lie in the bytes
pub record ListsInside (bytes : List ℕ) (at : Layout) (lists : List TermList) : Type 0 where
  pub ordered : SectionsFollow bytes at
  pub each : (k : ℕ) → k < length lists → ListInside bytes (get_or lists k no_list)

-- lists decoded, one after the other; or the first refusal
unfoldable pub decode_each : (documents : List Document) (bytes : List ℕ) (lists : List TermList) → Answer (Unit {0})
decode_each documents bytes [] = Ok tt
decode_each documents bytes (l ∷ ls) = do
  _ ← decode documents (list_entry bytes l)
  decode_each documents bytes ls

abbrev pub documents_in : (bytes : List ℕ) (at : Layout) → List Document
documents_in bytes at = held_documents at.documents None (cut bytes at).metadata

abbrev pub lists_decoded : (bytes : List ℕ) (at : Layout) (lists : List TermList) → Answer (Unit {0})
lists_decoded bytes at lists = checked (decode_each (documents_in bytes at) bytes lists)

-- ---- the rarest list leads

-- terms 0 and b change numbers
abbrev pub swap : (b k : ℕ) → ℕ
swap b k = cond (eqb k 0) b (cond (eqb k b) 0 k)

-- what each term has, after terms 0 and b changed numbers
abbrev pub Swapped : {A : Type 0} (none : A) (b : ℕ) (before after : List A) → Type 0
Swapped none b before after = (k : ℕ) → get_or after k none ≡ get_or before (swap b k) none

-- the numbers of n names after terms 0 and b changed numbers
pub record Renamed (n b : ℕ) (slot slot' : List ℕ) : Type 0 where
  pub long : length slot' ≡ 128
  pub each : (i : ℕ) → i < n → get_or slot' i 0 ≡ swap b (get_or slot i 0)

-- terms 0 and b change numbers: the names say the new ones, and the terms' lists and counts follow
pub record Led (s t : Names) : Type 0 where
  pub b : ℕ
  pub is_term : b < s.different
  pub taken : t.taken ≡ s.taken
  pub different : t.different ≡ s.different
  pub absent : t.absent ≡ s.absent
  pub names : Renamed s.taken b s.slot t.slot
  pub lists : Swapped no_list b s.list t.list
  pub counts : Swapped 0 b s.wanted t.wanted

-- how many names were taken and whether one has no term, and each term's list, are as before
pub record ListsKept (s t : Names) : Type 0 where
  pub taken : t.taken ≡ s.taken
  pub different : t.different ≡ s.different
  pub absent : t.absent ≡ s.absent
  pub lists : t.list ≡ s.list
